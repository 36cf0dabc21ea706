use Rattle.press_scan.specs.Places.{NoneBetween}
use Rattle.press_scan.specs.Tokens.{StopsBare}
use Rattle.press_scan.proofs.token.bare_end.Given as goal

abbrev pub invariant-loop-place : goal.invariant-loop-place
invariant-loop-place l = NoneBetween (StopsBare l.text) l.fn.from l.place
