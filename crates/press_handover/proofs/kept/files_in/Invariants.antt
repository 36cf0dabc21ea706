use Rattle.std.proofs.Common.{◌≡◌, ℕ, List, length}
use Rattle.press_handover.specs.Kept.{AreShort, files_bytes}
use Rattle.press_handover.proofs.Taking.{Left}
use Rattle.press_handover.proofs.kept.files_in.Given as goal

abbrev pub invariant-loop-rest : goal.invariant-loop-rest
invariant-loop-rest l = (files : List (List ℕ)) → AreShort files → l.bytes ≡ files_bytes files → Left files l.files.items l.rest

abbrev pub decreases-loop-rest : goal.decreases-loop-rest
decreases-loop-rest l = length l.rest
