use Rattle.std.proofs.Common.{◌≡◌, length, take}
use Rattle.press_upgrade.proofs.same.same_items.Given as goal

abbrev pub invariant-loop-i : goal.invariant-loop-i
invariant-loop-i g l = record { long : length l.a ≡ length l.b; so_far : take l.i l.a ≡ take l.i l.b }
