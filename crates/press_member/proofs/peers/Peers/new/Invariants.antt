use Rattle.std.proofs.Common.{◌≡◌, false, length}
use Rattle.std.specs.Prelude.{replicate}
use Rattle.press_member.proofs.peers.Peers.new.Given as goal

-- one for each so far, of whom none differs
abbrev pub invariant-loop-place : goal.invariant-loop-place
invariant-loop-place l = record { count : length l.all.items ≡ l.place; differing : l.differing.items ≡ replicate l.place false }
