use Rattle.std.proofs.Common.{◌≡◌, take}
use Rattle.press_posts.proofs.posts.copy_places.Given as goal

abbrev pub invariant-loop-place : goal.invariant-loop-place
invariant-loop-place l = l.copies.items ≡ take l.place-index l.places
