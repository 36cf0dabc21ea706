use Rattle.std.proofs.Common.{◌≡◌, ◌++◌, drop, string_bytes}
use Rattle.press_lint.specs.Slips as spec
use Rattle.press_lint.proofs.slipping.Look.push_plugins.Given as goal

abbrev pub invariant-loop-n : goal.invariant-loop-n
invariant-loop-n l = string_bytes l.out ++ spec.along (spec.plugin_slips l.self.front.now l.self.run.kit.now l.self.run.plays.now) l.n (drop l.n l.plugins) ≡ string_bytes l.fn.out ++ spec.along (spec.plugin_slips l.self.front.now l.self.run.kit.now l.self.run.plays.now) 0 l.plugins
