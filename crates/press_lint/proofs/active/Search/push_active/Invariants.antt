use Rattle.std.proofs.Common.{◌≡◌, ◌++◌, drop, string_bytes}
use Rattle.press_lint.specs.Slips as spec
use Rattle.press_lint.proofs.active.Search.push_active.Given as goal

abbrev pub invariant-loop-n : goal.invariant-loop-n
invariant-loop-n l = string_bytes l.out ++ spec.along (λ n name behind. spec.active_slip l.self.front.now l.self.installed.kit.now n name) l.n (drop l.n l.active) ≡ string_bytes l.fn.out ++ spec.along (λ n name behind. spec.active_slip l.self.front.now l.self.installed.kit.now n name) 0 l.active
