use Rattle.std.proofs.Common.{rules, arith, ◌≡◌, ◌++◌, string_bytes}
use Rattle.press_lint.specs.Slips as spec
use Rattle.press_lint.proofs.Alongs.{goes_on}
use Rattle.press_lint.proofs.active.Search.push_active.Goals as goal

pub loop-n-preserved : goal.loop-n-preserved
loop-n-preserved c =
    let pushed : string_bytes c.push_str.new.self ≡ string_bytes c.loop-n.out ++ string_bytes c.in_ok-slip.slip = search rules in
    rw pushed (goes_on (λ n name behind. spec.active_slip c.args.self.now.front.now c.args.self.now.installed.kit.now n name) c.args.active.now
    (string_bytes c.loop-n.out) (string_bytes c.in_ok-slip.slip) _ c.loop-n.n c.index-active-n.result (omega arith) c.index-active-n.is c.in_ok-slip.ensures c.loop-n.invariant)
