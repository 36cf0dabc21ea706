use Rattle.press_scan.specs.Places.{NoneBetween}
use Rattle.press_scan.specs.Tokens.{Ends}
use Rattle.press_scan.proofs.token.run_end.Given as goal

abbrev pub invariant-loop-place : goal.invariant-loop-place
invariant-loop-place l = NoneBetween (Ends l.text) l.fn.from l.place
