use Rattle.press_scan.specs.Places.{NoneBetween}
use Rattle.press_scan.specs.Tokens.{NoSpace}
use Rattle.press_scan.proofs.token.skip_spaces.Given as goal

abbrev pub invariant-loop-place : goal.invariant-loop-place
invariant-loop-place l = NoneBetween (NoSpace l.text) l.fn.from l.place
