use Rattle.press_operator.specs.Paths.{table}
use Rattle.press_operator.proofs.paths.routes.Goals as goal

pub returns : goal.returns
unfolding table
returns c =
    let first = c.in_ok-add_route.ensures in
    let second = c.in_ok-add_route-2.ensures in
    let third = c.in_ok-add_route-3.ensures in
    rw (third, second, first, c.new-router.ensures) at c.in_ok-add_route-4.ensures
