use Rattle.std.proofs.Common.{sym, subst, [], ◌∷◌}
use Rattle.press_hooks.specs.Hooked.{IsEach}
use Rattle.press_hooks.specs.Placed.{IsInPlace}
use Rattle.press_hooks.proofs.Cuts.{each_joined}
use Rattle.press_hooks.proofs.Runs.{begun_placed}
use Rattle.press_hooks.proofs.table.HookTable.begin_near.Goals as goal

pub invariant_of-self-2 : goal.invariant_of-self-2
invariant_of-self-2 c =
    subst (IsEach (IsInPlace c.self.inside.rows)) (sym c.in_ok-push.ensures.items)
    (each_joined (IsInPlace c.self.inside.rows) c.self.inside.runs.items (c.in_ok-run.run' ∷ []) c.self.invariant (begun_placed c.self.inside.rows c.args.hook.now c.in_ok-run.run' c.in_ok-run.ensures.run c.in_ok-run.ensures.cursor, tt))
