use Rattle.press_http.specs.Routes.{pages}
use Rattle.press_http.proofs.endpoint.pages.Goals as goal

pub returns : goal.returns
unfolding pages
returns c =
    let first = c.in_ok-add_route.ensures in
    let second = c.in_ok-add_route-2.ensures in
    rw (second, first, c.new-router.ensures) at c.in_ok-add_route-3.ensures
