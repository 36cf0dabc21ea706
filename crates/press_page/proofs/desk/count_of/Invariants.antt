use Rattle.std.proofs.Common.{◌≡◌, count_by, take}
use Rattle.press_page.specs.Desk.{has_status}
use Rattle.press_page.proofs.desk.count_of.Given as goal

abbrev pub invariant-loop-place : goal.invariant-loop-place
invariant-loop-place l = l.count ≡ count_by (has_status l.word) (take l.place l.site.posts)
