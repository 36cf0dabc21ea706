-- What heads and batches hold (own).
use Rattle.std.specs.Prelude.{◌≡◌, ◌<◌, ◌^◌, ℕ, List, [], ◌∷◌, length, false, IfSome, Ok}
use Rattle.press_wire.specs.declared.message.Message.{Message}
use Rattle.press_wire.specs.Held.{IsBytes, IsNode, IsMessage, IsFormed}
use Rattle.press_wire.specs.Reading.{read_message}
use Rattle.press_wire.specs.Spelling.{spelled_message, is_too_long_message}
use Rattle.press_batch.specs.Carried.{BatchContent}
use Rattle.press_batch.specs.declared.head.Head.{Head}
use Rattle.press_batch.specs.declared.report.Report.{Report}
use Rattle.press_starts.specs.declared.mark.Mark.{Mark}
use Rattle.press_starts.specs.declared.recall.Recall.{Recall}

abbrev pub IsDigest : List ℕ → Type 0
IsDigest d = (length d ≡ 32) × IsBytes d

abbrev pub IsReport : Report → Type 0
IsReport r = (r.digests.peers < 2 ^ 64) × (r.digests.kit < 2 ^ 64) × (r.applied < 2 ^ 64) × (r.chosen < 2 ^ 64) × IsDigest r.digest × IsDigest r.block_digest

abbrev pub IsMark : Mark → Type 0
IsMark m = (m.start < 2 ^ 64) × (m.saves < 2 ^ 64)

abbrev pub IsRecall : Recall → Type 0
IsRecall r = IsMark r.mark × (r.number < 2 ^ 64) × IfSome r.heard IsMark × IfSome r.answered IsMark

abbrev pub IsHead : Head → Type 0
IsHead h = IsNode h.from × IsReport h.report × IfSome h.recall IsRecall

-- messages in form
abbrev pub AreFormed : List Message → Type 0
AreFormed [] = Unit {0}
AreFormed (m ∷ messages) = IsFormed m × AreFormed messages

-- messages that aren't too long in themselves
abbrev pub AreShort : List Message → Type 0
AreShort [] = Unit {0}
AreShort (m ∷ messages) = (is_too_long_message m ≡ false) × AreShort messages

-- messages of numbers in their ranges, in form, that aren't too long
abbrev pub AreMessages : List Message → Type 0
AreMessages [] = Unit {0}
AreMessages (m ∷ messages) = (IsMessage m × IsFormed m × (is_too_long_message m ≡ false)) × AreMessages messages

abbrev pub IsBatch : BatchContent → Type 0
IsBatch b = IsHead b.head × AreMessages b.messages

-- a message in form is read from its spelling
abbrev pub ReadsBack : Message → Type 0
ReadsBack m = IsFormed m → read_message (spelled_message m) ≡ Ok m

-- each that is in form is read from its spelling
abbrev pub ReadBack : List Message → Type 0
ReadBack [] = Unit {0}
ReadBack (m ∷ messages) = ReadsBack m × ReadBack messages
