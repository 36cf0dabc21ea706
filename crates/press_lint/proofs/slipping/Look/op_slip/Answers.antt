use Rattle.std.proofs.Common.{rules, ◌≡◌, subst, IfOk, string_bytes, to_z, of_z, w64}
use Rattle.press_lint.specs.Slips as spec
use Rattle.press_lint.proofs.slipping.Look.op_slip.Goals as goal

pub returns-in-AddHook : goal.returns-in-AddHook
returns-in-AddHook c = rw c.in-AddHook.is c.hook_slip.ensures

pub returns-in-RemoveHook : goal.returns-in-RemoveHook
returns-in-RemoveHook c =
    let same : to_z w64 (of_z w64 c.in-RemoveHook.priority) ≡ c.in-RemoveHook.priority = search rules in
    rw c.in-RemoveHook.is (subst (λ p. IfOk c.removal_slip.result (λ t. string_bytes t ≡ spec.removal_slip c.args.self.now.front.now
    c.args.self.now.run.kit.now c.args.self.now.run.plays.now c.args.at c.in-RemoveHook.hook c.in-RemoveHook.callback p)) same c.removal_slip.ensures)
