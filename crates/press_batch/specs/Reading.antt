-- What bytes are read as (own). A head is read from left to right, and nothing comes behind it. A batch is first looked at for its length; then its head is read, and each message: its length, its bytes, and what they
-- are. The first that fails gives the fault.
use Rattle.std.specs.Prelude.{ℕ, zero, suc, ◌==◌, Bool, true, false, Option, None, Some, List, [], ◌∷◌, length, nat_lt, Result, Ok, Err, if◌then◌else◌}
use Rattle.press_wire.specs.declared.fault.WireFault.{WireFault}
use Rattle.press_wire.specs.declared.message.Message.{Message}
use Rattle.press_wire.specs.Reading.{read_message}
use Rattle.press_batch.specs.declared.fault.BatchFault.{BatchFault}
use Rattle.press_batch.specs.declared.fault.BatchFault.TheVariants.{TooLong, BadMessage, Extra}
use Rattle.press_batch.specs.declared.head.Head.{Head}
use Rattle.press_batch.specs.declared.report.Digests.{Digests}
use Rattle.press_batch.specs.declared.report.Report.{Report}
use Rattle.press_starts.specs.declared.mark.Mark.{Mark}
use Rattle.press_starts.specs.declared.recall.Recall.{Recall}
use Rattle.press_batch.specs.Carried.{BatchContent}
use Rattle.press_batch.specs.Fields.{Reading, ◌>>=◌, number8_at, version_at, member_at, flag_at, digest_at, piece_at}
use Rattle.press_batch.specs.Spelling.{most_bytes}

-- ---- reports

unfoldable pub digests_at : Reading Digests
digests_at bytes = do
  peers ← number8_at bytes
  kit ← number8_at peers.1
  Ok (record { peers = peers.0; kit = kit.0 }, kit.1)

unfoldable pub report_at : Reading Report
report_at bytes = do
  digests ← digests_at bytes
  applied ← number8_at digests.1
  chosen ← number8_at applied.1
  digest ← digest_at chosen.1
  block_digest ← digest_at digest.1
  Ok (record { applied = applied.0; chosen = chosen.0; digests = digests.0; digest = digest.0; block_digest = block_digest.0 }, block_digest.1)

-- ---- recalls

unfoldable pub mark_at : Reading Mark
mark_at bytes = do
  start ← number8_at bytes
  saves ← number8_at start.1
  Ok (record { start = start.0; saves = saves.0 }, saves.1)

-- what comes behind the byte that says whether there is a mark
unfoldable pub mark_behind : Bool → Reading (Option Mark)
mark_behind false bytes = Ok (None, bytes)
mark_behind true bytes = mark_at bytes >>= λ mark. Ok (Some mark.0, mark.1)

unfoldable pub optional_mark_at : Reading (Option Mark)
optional_mark_at bytes = flag_at bytes >>= λ flag. mark_behind flag.0 flag.1

unfoldable pub recall_fields_at : Reading Recall
recall_fields_at bytes = do
  mark ← mark_at bytes
  number ← number8_at mark.1
  heard ← optional_mark_at number.1
  answered ← optional_mark_at heard.1
  Ok (record { mark = mark.0; number = number.0; heard = heard.0; answered = answered.0 }, answered.1)

-- what comes behind the byte that says whether there is a recall
unfoldable pub recall_behind : Bool → Reading (Option Recall)
recall_behind false bytes = Ok (None, bytes)
recall_behind true bytes = recall_fields_at bytes >>= λ recall. Ok (Some recall.0, recall.1)

unfoldable pub recall_at : Reading (Option Recall)
recall_at bytes = flag_at bytes >>= λ flag. recall_behind flag.0 flag.1

-- ---- heads

-- who sends it, its report and its recall
unfoldable pub head_at : Reading Head
head_at bytes = do
  version ← version_at bytes
  from ← member_at version.1
  report ← report_at from.1
  recall ← recall_at report.1
  Ok (record { from = from.0; report = report.0; recall = recall.0 }, recall.1)

-- nothing is left
abbrev pub or_extra : {A : Type 0} → A × List ℕ → Result A BatchFault
or_extra x = if length x.1 == 0 then Ok x.0 else Err Extra

-- all of the bytes as one head
unfoldable pub read_head : List ℕ → Result Head BatchFault
read_head bytes = head_at bytes >>= or_extra

-- ---- batches

-- whatever a message's bytes lack, it is a bad message
abbrev pub inside : Result Message WireFault → List ℕ → Result (Message × List ℕ) BatchFault
inside (Ok m) rest = Ok (m, rest)
inside (Err fault) rest = Err BadMessage

unfoldable pub message_at : Reading Message
message_at bytes = piece_at bytes >>= λ piece. inside (read_message piece.0) piece.1

-- messages up to the end, so many at most
unfoldable pub messages_within : ℕ → List ℕ → Result (List Message) BatchFault
messages_within zero bytes = Ok []
messages_within (suc more) [] = Ok []
messages_within (suc more) (b ∷ bytes) = do
  m ← message_at (b ∷ bytes)
  messages ← messages_within more m.1
  Ok (m.0 ∷ messages)

-- messages up to the end; each takes a byte or more
abbrev pub messages_in : List ℕ → Result (List Message) BatchFault
messages_in bytes = messages_within (length bytes) bytes

unfoldable pub batch_in : List ℕ → Result BatchContent BatchFault
batch_in bytes = do
  head ← head_at bytes
  messages ← messages_in head.1
  Ok (record { head = head.0; messages = messages })

unfoldable pub read_batch : List ℕ → Result BatchContent BatchFault
read_batch bytes = if nat_lt most_bytes (length bytes) then Err TooLong else batch_in bytes
