use Rattle.std.proofs.Common.{◌≡◌, ◌++◌, drop, string_bytes}
use Rattle.press_kit.specs.declared.place.Place.TheVariants as place
use Rattle.press_lint.specs.Slips as spec
use Rattle.press_lint.proofs.slipping.Look.push_changes.Given as goal

abbrev pub invariant-loop-op : goal.invariant-loop-op
invariant-loop-op l = string_bytes l.out ++ spec.along (λ o it behind. spec.change_slip l.self.front.now l.self.run.kit.now l.self.run.plays.now (place.Op l.callback o) it) l.op (drop l.op l.script) ≡ string_bytes l.fn.out ++ spec.along (λ o it behind. spec.change_slip l.self.front.now l.self.run.kit.now l.self.run.plays.now (place.Op l.callback o) it) 0 l.script
