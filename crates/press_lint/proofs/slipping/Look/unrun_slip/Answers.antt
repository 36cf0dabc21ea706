use Rattle.std.proofs.Common.{rules, ◌≡◌, subst, IfOk, string_bytes}
use Rattle.press_lint.specs.Slips as spec
use Rattle.press_lint.proofs.slipping.Look.unrun_slip.Goals as goal

pub returns : goal.returns
returns c =
    let what_is : c.as_str.result.now ≡ spec.tell_unrun c.args.hook.now = search rules in
    subst (λ w. IfOk c.slip.result (λ t. string_bytes t ≡ spec.slip c.args.self.now.front.now c.args.self.now.run.kit.now c.args.at w)) what_is c.slip.ensures
