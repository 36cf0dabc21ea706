use Rattle.std.proofs.Common.{◌≡◌, ◌++◌, drop, string_bytes}
use Rattle.press_kit.specs.declared.place.Place.TheVariants as place
use Rattle.press_lint.specs.Slips as spec
use Rattle.press_lint.proofs.slipping.Look.push_ops.Given as goal

abbrev pub invariant-loop-op : goal.invariant-loop-op
invariant-loop-op l = string_bytes l.out ++ spec.along (λ o. spec.step_slips l.self.front.now l.self.run.kit.now l.self.run.plays.now l.most (place.Op l.callback o)) l.op (drop l.op l.script) ≡ string_bytes l.fn.out ++ spec.along (λ o. spec.step_slips l.self.front.now l.self.run.kit.now l.self.run.plays.now l.most (place.Op l.callback o)) 0 l.script
