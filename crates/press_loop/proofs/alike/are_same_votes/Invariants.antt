use Rattle.std.proofs.Common.{◌≡◌, length, take}
use Rattle.press_loop.proofs.alike.are_same_votes.Given as goal

abbrev pub invariant-loop-i : goal.invariant-loop-i
invariant-loop-i l = record { long : length l.votes ≡ length l.others; so_far : take l.i l.votes ≡ take l.i l.others }
