use Rattle.std.proofs.Common.{◌≡◌, map}
use Rattle.std.specs.Vec.Iter.{into_iter_items}
use Rattle.press_callbacks.specs.Kits.{kit_view}
use Rattle.press_apply.specs.Apply.{fold_values}
use Rattle.press_apply.specs.declared.value.Value.TheVariants.{Cmd}
use Rattle.press_program.proofs.commands.apply_all.Given as goal

abbrev pub invariant-loop-stamped : goal.invariant-loop-stamped
invariant-loop-stamped g l = fold_values (kit_view l.kit) l.site (map (λ c. Cmd c) (into_iter_items l.stamped-iterator)) ≡ fold_values (kit_view l.kit) l.fn.site (map (λ c. Cmd c) l.fn.commands)
