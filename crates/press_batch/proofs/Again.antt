-- What is spelled is read.
use Rattle.std.proofs.Common.{◌≡◌, ℕ, zero, suc, ◌^◌, ◌<◌, ◌≤◌, true, false, ltb, List, [], ◌∷◌, ◌++◌, length, Option, None, Some, Result, Ok, refl, sym, ap, subst, ◌∙◌, append_assoc, arith}
use Rattle.std.specs.Int.{Width, w32, w64, byte_len, from_be_bytes, to_be_bytes}
use Rattle.std.specs.Prelude.{IfSome}
use Rattle.std.proofs.lemmas.Bool.{le-ltb}
use Rattle.std.proofs.lemmas.Bool.Decides.{nat_tests}
use Rattle.std.proofs.lemmas.List.{append-nil, length-append, take_at, drop_at}
use Rattle.std.proofs.lemmas.Nat.{from_be_bytes-to_be_bytes_4, from_be_bytes-to_be_bytes_8}
use Rattle.press_wire.specs.declared.message.Message.{Message}
use Rattle.press_wire.specs.Held.{IsNode}
use Rattle.press_wire.specs.Ranges.{member_id_of, is_within}
use Rattle.press_wire.specs.Reading.{read_message}
use Rattle.press_wire.specs.Spelling.{number4, number8, spelled_message}
use Rattle.press_wire.proofs.Codec.{passes_only}
use Rattle.press_wire.proofs.MessageLaws.{reads_back}
use Rattle.press_batch.specs.Carried.{BatchContent}
use Rattle.press_batch.specs.Fields.{◌>>=◌, bytes_at, number_at, number4_at, number8_at, version_at, member_at, flag_at, digest_at, piece_at}
use Rattle.press_batch.specs.Held.{IsBatch, IsDigest, IsHead, IsMark, IsRecall, IsReport, AreMessages, AreFormed, ReadBack}
use Rattle.press_batch.specs.Reading.{digests_at, report_at, mark_at, mark_behind, optional_mark_at, recall_fields_at, recall_behind, recall_at, head_at, or_extra, read_head, message_at, messages_within, batch_in, read_batch}
use Rattle.press_batch.specs.Spelling.{spelled_report, spelled_mark, spelled_optional_mark, spelled_recall, spelled_head, spelled_piece, spelled_messages, spelled_batch, most_bytes}
use Rattle.press_batch.specs.declared.fault.BatchFault.{BatchFault}
use Rattle.press_batch.specs.declared.report.Digests.{Digests}
use Rattle.press_batch.specs.declared.head.Head.{Head}
use Rattle.press_batch.specs.declared.report.Report.{Report}
use Rattle.press_starts.specs.declared.mark.Mark.{Mark}
use Rattle.press_starts.specs.declared.recall.Recall.{Recall}
use Rattle.press_batch.proofs.Lengths.{messages_nil, messages_cons, length_cons}

-- ---- fields

number_again : (w : Width) (spelled : List ℕ) (n : ℕ) (rest : List ℕ) → length spelled ≡ byte_len w → from_be_bytes w spelled ≡ n → number_at w (spelled ++ rest) ≡ Ok (n, rest)
number_again w spelled n rest len is =
    let long : ltb (length (spelled ++ rest)) (byte_len w) ≡ false = le-ltb _ _ (omega (arith, len, length-append spelled rest)) in
    rw (long, take_at spelled rest (byte_len w) len, drop_at spelled rest (byte_len w) len, is) refl

number4_again : (n : ℕ) (rest : List ℕ) → n < 2 ^ 32 → number4_at (number4 n ++ rest) ≡ Ok (n, rest)
unfolding number4_at number4
number4_again n rest lt = number_again w32 (to_be_bytes w32 n) n rest refl (from_be_bytes-to_be_bytes_4 n lt)

number8_again : (n : ℕ) (rest : List ℕ) → n < 2 ^ 64 → number8_at (number8 n ++ rest) ≡ Ok (n, rest)
unfolding number8_at number8
number8_again n rest lt = number_again w64 (to_be_bytes w64 n) n rest refl (from_be_bytes-to_be_bytes_8 n lt)

version_again : (rest : List ℕ) → version_at (2 ∷ rest) ≡ Ok (2, rest)
unfolding version_at
version_again rest = refl

node_again : (n : ℕ) → IsNode n → member_id_of n ≡ Some n
node_again n node = passes_only (is_within 1 7) n (grind (arith, nat_tests))

member_again : (n : ℕ) (rest : List ℕ) → IsNode n → member_at (n ∷ rest) ≡ Ok (n, rest)
unfolding member_at
member_again n rest node = rw (node_again n node) refl

bytes_again : (front rest : List ℕ) → bytes_at (length front) (front ++ rest) ≡ Ok (front, rest)
bytes_again front rest =
    let long : ltb (length (front ++ rest)) (length front) ≡ false = le-ltb _ _ (omega (arith, length-append front rest)) in
    rw (long, take_at front rest (length front) refl, drop_at front rest (length front) refl) refl

-- a step that reads, and what comes of it
next : {A B : Type 0} (r : Result A BatchFault) (f : A → Result B BatchFault) (x : A) → r ≡ Ok x → (r >>= f) ≡ f x
next r f x e = rw e refl

-- ---- reports

digests_again : (d : Digests) (rest : List ℕ) → d.peers < 2 ^ 64 → d.kit < 2 ^ 64 → digests_at (number8 d.peers ++ (number8 d.kit ++ rest)) ≡ Ok (d, rest)
unfolding digests_at
digests_again d rest peers kit = rw (number8_again d.peers (number8 d.kit ++ rest) peers, number8_again d.kit rest kit) refl

digest_again : (d rest : List ℕ) → IsDigest d → digest_at (d ++ rest) ≡ Ok (d, rest)
unfolding digest_at
digest_again d rest is = subst (λ n. bytes_at n (d ++ rest) ≡ Ok (d, rest)) is.0 (bytes_again d rest)

report_is : (r : Report) (rest : List ℕ) → spelled_report r ++ rest ≡ number8 r.digests.peers ++ (number8 r.digests.kit ++ (number8 r.applied ++ (number8 r.chosen ++ (r.digest ++ (r.block_digest ++ rest)))))
unfolding spelled_report
report_is r rest = simp append_assoc

report_again : (r : Report) (rest : List ℕ) → IsReport r → report_at (spelled_report r ++ rest) ≡ Ok (r, rest)
unfolding report_at
report_again r rest is =
    rw (
      report_is r rest,
      digests_again r.digests (number8 r.applied ++ (number8 r.chosen ++ (r.digest ++ (r.block_digest ++ rest)))) is.0 is.1,
      number8_again r.applied (number8 r.chosen ++ (r.digest ++ (r.block_digest ++ rest))) is.2,
      number8_again r.chosen (r.digest ++ (r.block_digest ++ rest)) is.3,
      digest_again r.digest (r.block_digest ++ rest) is.4,
      digest_again r.block_digest rest is.5,
    ) refl

-- ---- recalls

none_again : (rest : List ℕ) → flag_at (0 ∷ rest) ≡ Ok (false, rest)
unfolding flag_at
none_again rest = refl

some_again : (rest : List ℕ) → flag_at (1 ∷ rest) ≡ Ok (true, rest)
unfolding flag_at
some_again rest = refl

mark_again : (m : Mark) (rest : List ℕ) → IsMark m → mark_at (spelled_mark m ++ rest) ≡ Ok (m, rest)
unfolding mark_at spelled_mark
mark_again m rest is = rw (append_assoc (number8 m.start) (number8 m.saves) rest, number8_again m.start (number8 m.saves ++ rest) is.0, number8_again m.saves rest is.1) refl

optional_mark_again : (m : Option Mark) (rest : List ℕ) → IfSome m IsMark → optional_mark_at (spelled_optional_mark m ++ rest) ≡ Ok (m, rest)
unfolding optional_mark_at spelled_optional_mark mark_behind
optional_mark_again None rest is = rw (none_again rest) refl
optional_mark_again (Some m) rest is = rw (some_again (spelled_mark m ++ rest), mark_again m rest is) refl

fields_are : (r : Recall) (rest : List ℕ) → (spelled_mark r.mark ++ (number8 r.number ++ (spelled_optional_mark r.heard ++ spelled_optional_mark r.answered))) ++ rest
    ≡ spelled_mark r.mark ++ (number8 r.number ++ (spelled_optional_mark r.heard ++ (spelled_optional_mark r.answered ++ rest)))
fields_are r rest = simp append_assoc

fields_again : (r : Recall) (rest : List ℕ) → IsRecall r → recall_fields_at ((spelled_mark r.mark ++ (number8 r.number ++ (spelled_optional_mark r.heard ++ spelled_optional_mark r.answered))) ++ rest) ≡ Ok (r, rest)
unfolding recall_fields_at
fields_again r rest is =
    rw (
      fields_are r rest,
      mark_again r.mark (number8 r.number ++ (spelled_optional_mark r.heard ++ (spelled_optional_mark r.answered ++ rest))) is.0,
      number8_again r.number (spelled_optional_mark r.heard ++ (spelled_optional_mark r.answered ++ rest)) is.1,
      optional_mark_again r.heard (spelled_optional_mark r.answered ++ rest) is.2,
      optional_mark_again r.answered rest is.3,
    ) refl

recall_again : (r : Option Recall) (rest : List ℕ) → IfSome r IsRecall → recall_at (spelled_recall r ++ rest) ≡ Ok (r, rest)
unfolding recall_at spelled_recall recall_behind
recall_again None rest is = rw (none_again rest) refl
recall_again (Some r) rest is =
    rw (some_again ((spelled_mark r.mark ++ (number8 r.number ++ (spelled_optional_mark r.heard ++ spelled_optional_mark r.answered))) ++ rest), fields_again r rest is) refl

-- ---- heads

head_is : (h : Head) (rest : List ℕ) → spelled_head h ++ rest ≡ 2 ∷ h.from ∷ (spelled_report h.report ++ (spelled_recall h.recall ++ rest))
unfolding spelled_head
head_is h rest = ap (λ (t : List ℕ). 2 ∷ h.from ∷ t) (append_assoc (spelled_report h.report) (spelled_recall h.recall) rest)

head_again : (h : Head) (rest : List ℕ) → IsHead h → head_at (spelled_head h ++ rest) ≡ Ok (h, rest)
unfolding head_at
head_again h rest is =
    rw (
      head_is h rest,
      version_again (h.from ∷ (spelled_report h.report ++ (spelled_recall h.recall ++ rest))),
      member_again h.from (spelled_report h.report ++ (spelled_recall h.recall ++ rest)) is.0,
      report_again h.report (spelled_recall h.recall ++ rest) is.1,
      recall_again h.recall rest is.2,
    ) refl

pub head_reads_back : (h : Head) → IsHead h → read_head (spelled_head h) ≡ Ok h
unfolding read_head
head_reads_back h is = ap (λ (t : List ℕ). head_at t >>= or_extra) (sym (append-nil (spelled_head h))) ∙ next (head_at (spelled_head h ++ [])) or_extra (h, []) (head_again h [] is)

-- ---- messages

piece_again : (front rest : List ℕ) → length front < 2 ^ 32 → piece_at (spelled_piece front ++ rest) ≡ Ok (front, rest)
unfolding piece_at spelled_piece
piece_again front rest lt = rw (append_assoc (number4 (length front)) front rest, number4_again (length front) (front ++ rest) lt) (bytes_again front rest)

message_again : (m : Message) (rest : List ℕ) → length (spelled_message m) < 2 ^ 32 → read_message (spelled_message m) ≡ Ok m → message_at (spelled_piece (spelled_message m) ++ rest) ≡ Ok (m, rest)
unfolding message_at
message_again m rest lt reads = rw (piece_again (spelled_message m) rest lt, reads) refl

within_one : (more : ℕ) (front rest : List ℕ) → messages_within (suc more) (spelled_piece front ++ rest) ≡ (message_at (spelled_piece front ++ rest) >>= λ m. messages_within more m.1 >>= λ messages. Ok (m.0 ∷ messages))
unfolding messages_within spelled_piece number4
within_one more front rest = refl

-- each is read from its spelling
abbrev pub AreRead : List Message → Type 0
AreRead [] = Unit {0}
AreRead (m ∷ messages) = (read_message (spelled_message m) ≡ Ok m) × AreRead messages

nothing_again : (most : ℕ) → messages_within most [] ≡ Ok []
unfolding messages_within
nothing_again zero = refl
nothing_again (suc more) = refl

messages_again : (most : ℕ) (messages : List Message) → length (spelled_messages messages) ≤ most → most < 2 ^ 32 → AreRead messages → messages_within most (spelled_messages messages) ≡ Ok messages
messages_again most [] enough few read = ap (messages_within most) messages_nil ∙ nothing_again most
messages_again zero (m ∷ messages) enough few read = absurd (omega (arith, enough, length_cons m messages))
messages_again (suc more) (m ∷ messages) enough few read =
    let len = length_cons m messages in
    let short : length (spelled_message m) < 2 ^ 32 = omega (arith, enough, few, len) in
    let left : length (spelled_messages messages) ≤ more = omega (arith, enough, len) in
    let again : messages_within more (spelled_messages messages) ≡ Ok messages = messages_again more messages left (omega (arith, few)) read.1 in
    ap (messages_within (suc more)) (messages_cons m messages)
    ∙ within_one more (spelled_message m) (spelled_messages messages)
    ∙ next (message_at (spelled_piece (spelled_message m) ++ spelled_messages messages)) (λ x. messages_within more x.1 >>= λ xs. Ok (x.0 ∷ xs)) (m, spelled_messages messages) (message_again m (spelled_messages messages) short read.0)
    ∙ next (messages_within more (spelled_messages messages)) (λ xs. Ok (m ∷ xs)) messages again

-- ---- batches

batch_again : (b : BatchContent) → IsHead b.head → length (spelled_batch b) ≤ most_bytes → AreRead b.messages → read_batch (spelled_batch b) ≡ Ok b
unfolding read_batch batch_in spelled_batch
batch_again b is short read =
    let fitting : ltb most_bytes (length (spelled_head b.head ++ spelled_messages b.messages)) ≡ false = le-ltb _ _ short in
    let few : length (spelled_messages b.messages) < 2 ^ 32 = omega (arith, short, length-append (spelled_head b.head) (spelled_messages b.messages)) in
    rw (fitting, head_again b.head (spelled_messages b.messages) is, messages_again (length (spelled_messages b.messages)) b.messages (omega arith) few read) refl

are_read : (messages : List Message) → AreMessages messages → AreRead messages
are_read [] are = tt
are_read (m ∷ messages) are = (reads_back m are.0.0 are.0.1 are.0.2, are_read messages are.1)

pub batch_reads_back : (b : BatchContent) → IsBatch b → length (spelled_batch b) ≤ most_bytes → read_batch (spelled_batch b) ≡ Ok b
batch_reads_back b is short = batch_again b is.0 short (are_read b.messages is.1)

-- ---- what was written

formed_read : (messages : List Message) → ReadBack messages → AreFormed messages → AreRead messages
formed_read [] back formed = tt
formed_read (m ∷ messages) back formed = (back.0 formed.0, formed_read messages back.1 formed.1)

pub written_reads : (b : BatchContent) (bytes : List ℕ) → IsHead b.head → ReadBack b.messages → bytes ≡ spelled_batch b → length bytes ≤ most_bytes → AreFormed b.messages → read_batch bytes ≡ Ok b
written_reads b bytes is back spelled short formed =
    ap read_batch spelled ∙ batch_again b is (subst (λ (t : List ℕ). length t ≤ most_bytes) spelled short) (formed_read b.messages back formed)

-- the head, and then the messages
pub made_reads : (b : BatchContent) (bytes front : List ℕ) {messages : List Message} → IsHead b.head → ReadBack b.messages → front ≡ spelled_head b.head → messages ≡ b.messages → bytes ≡ front ++ spelled_messages messages → length bytes ≤ most_bytes → AreFormed b.messages → read_batch bytes ≡ Ok b
unfolding spelled_batch
made_reads b bytes front is back begun same made short formed =
    written_reads b bytes is back (made ∙ ap (λ (xs : List Message). front ++ spelled_messages xs) same ∙ ap (λ (t : List ℕ). t ++ spelled_messages b.messages) begun) short formed
