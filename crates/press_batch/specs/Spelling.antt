-- The one spelling of each head and batch: its fields from left to right, numbers big-endian (own).
use Rattle.std.specs.Prelude.{ℕ, ◌+◌, List, [], ◌∷◌, ◌++◌, length, nat_le, Bool, Option, None, Some, if◌then◌else◌}
use Rattle.press_wire.specs.declared.message.Message.{Message}
use Rattle.press_wire.specs.Spelling.{number4, number8, spelled_message, is_too_long_message}
use Rattle.press_batch.specs.Carried.{BatchContent}
use Rattle.press_batch.specs.declared.fault.BatchFault.{BatchFault}
use Rattle.press_batch.specs.declared.fault.BatchFault.TheVariants.{TooLong, BadMessage}
use Rattle.press_batch.specs.declared.head.Head.{Head}
use Rattle.press_batch.specs.declared.report.Report.{Report}
use Rattle.press_starts.specs.declared.mark.Mark.{Mark}
use Rattle.press_starts.specs.declared.recall.Recall.{Recall}

-- the version of this format
abbrev pub version : ℕ
version = 2

-- the most bytes of a batch
abbrev pub most_bytes : ℕ
most_bytes = 1048576

-- ---- recalls

unfoldable pub spelled_mark : Mark → List ℕ
spelled_mark m = number8 m.start ++ number8 m.saves

-- a byte says whether there is one
unfoldable pub spelled_optional_mark : Option Mark → List ℕ
spelled_optional_mark None = 0 ∷ []
spelled_optional_mark (Some m) = 1 ∷ spelled_mark m

unfoldable pub spelled_recall : Option Recall → List ℕ
spelled_recall None = 0 ∷ []
spelled_recall (Some r) = 1 ∷ (spelled_mark r.mark ++ (number8 r.number ++ (spelled_optional_mark r.heard ++ spelled_optional_mark r.answered)))

-- ---- heads

-- which members and which kit, how far, and the digests of what was applied
unfoldable pub spelled_report : Report → List ℕ
spelled_report r = number8 r.digests.peers ++ (number8 r.digests.kit ++ (number8 r.applied ++ (number8 r.chosen ++ (r.digest ++ r.block_digest))))

-- the version, the sender, its report and its recall
unfoldable pub spelled_head : Head → List ℕ
spelled_head h = version ∷ h.from ∷ (spelled_report h.report ++ spelled_recall h.recall)

-- ---- batches

-- bytes behind their length in four bytes
unfoldable pub spelled_piece : List ℕ → List ℕ
spelled_piece bytes = number4 (length bytes) ++ bytes

unfoldable pub spelled_messages : List Message → List ℕ
spelled_messages [] = []
spelled_messages (m ∷ messages) = spelled_piece (spelled_message m) ++ spelled_messages messages

unfoldable pub spelled_batch : BatchContent → List ℕ
spelled_batch b = spelled_head b.head ++ spelled_messages b.messages

-- ---- batches that have none

-- whether the message may come behind so many bytes
abbrev pub fits : ℕ → Message → Bool
fits len m = nat_le (len + (4 + length (spelled_message m))) most_bytes

-- what refuses these messages behind so many bytes: the first that is too long in itself, or for what is left
abbrev pub refusal_behind : ℕ → List Message → Option BatchFault
refusal_behind len [] = None
refusal_behind len (m ∷ messages) =
    if is_too_long_message m then Some BadMessage
    else (if fits len m then refusal_behind (len + (4 + length (spelled_message m))) messages else Some TooLong)

abbrev pub refusal : BatchContent → Option BatchFault
refusal b = refusal_behind (length (spelled_head b.head)) b.messages

-- ---- a batch that is written message by message

pub record WrittenBatch : Type 0 where
  pub bytes : List ℕ
  pub count : ℕ

-- the head alone
abbrev pub head_alone : Head → WrittenBatch
head_alone h = record { bytes = spelled_head h; count = 0 }

-- one message more
abbrev pub with_message : Message → WrittenBatch → WrittenBatch
with_message m w = record { bytes = w.bytes ++ spelled_piece (spelled_message m); count = w.count + 1 }

abbrev pub with_last : Message → BatchContent → BatchContent
with_last m b = record b { messages = b.messages ++ m ∷ [] }
