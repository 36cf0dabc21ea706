use Rattle.std.proofs.Common.{◌≡◌, ◌++◌, drop, string_bytes}
use Rattle.press_kit.specs.declared.place.Place.TheVariants as place
use Rattle.press_lint.specs.Slips as spec
use Rattle.press_lint.proofs.slipping.Look.push_loads.Given as goal

abbrev pub invariant-loop-load : goal.invariant-loop-load
invariant-loop-load l = string_bytes l.out ++ spec.along (λ o it behind. spec.load_slip l.self.front.now l.self.run.kit.now l.self.run.plays.now (place.Load l.plugin o) it) l.load (drop l.load l.loads) ≡ string_bytes l.fn.out ++ spec.along (λ o it behind. spec.load_slip l.self.front.now l.self.run.kit.now l.self.run.plays.now (place.Load l.plugin o) it) 0 l.loads
