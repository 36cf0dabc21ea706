use Rattle.press_scan.specs.Places.{AtNoName, NoneBetween}
use Rattle.press_scan.proofs.places.name_end.Given as goal

abbrev pub invariant-loop-place : goal.invariant-loop-place
invariant-loop-place l = NoneBetween (AtNoName l.text) l.fn.from l.place
