-- How long spellings are, and what is left behind what was read.
use Rattle.std.proofs.Common.{◌≡◌, ℕ, ◌+◌, ◌<◌, ◌≤◌, Bool, true, false, cond, ltb, List, [], ◌∷◌, ◌++◌, length, take, drop, Option, None, Some, Result, Ok, Err, refl, ap, append_assoc, arith}
use Rattle.std.proofs.lemmas.Bool.{ltb-false}
use Rattle.std.proofs.lemmas.List.{length-append, length-drop}
use Rattle.std.specs.Int.{w32, from_be_bytes}
use Rattle.press_wire.specs.declared.fault.WireFault.{WireFault}
use Rattle.press_wire.specs.declared.message.Message.{Message}
use Rattle.press_wire.specs.Reading.{read_message}
use Rattle.press_wire.specs.Spelling.{number4, number8, spelled_message}
use Rattle.press_batch.specs.Fields.{◌>>=◌, bytes_at, number4_at, piece_at}
use Rattle.press_batch.specs.Reading.{inside, message_at}
use Rattle.press_batch.specs.Held.{IsHead, IsReport}
use Rattle.press_batch.specs.Spelling.{spelled_head, spelled_mark, spelled_messages, spelled_optional_mark, spelled_piece, spelled_recall, spelled_report}
use Rattle.press_batch.specs.declared.fault.BatchFault.{BatchFault}
use Rattle.press_batch.specs.declared.fault.BatchFault.TheVariants.{Short}
use Rattle.press_batch.specs.declared.head.Head.{Head}
use Rattle.press_batch.specs.declared.report.Report.{Report}
use Rattle.press_starts.specs.declared.mark.Mark.{Mark}
use Rattle.press_starts.specs.declared.recall.Recall.{Recall}

-- pieces put at the end one after another
pub regroup : (a b c : List ℕ) → (a ++ b) ++ c ≡ a ++ (b ++ c)
regroup a b c = append_assoc a b c

length_number8 : (n : ℕ) → length (number8 n) ≡ 8
unfolding number8
length_number8 n = refl

length_mark : (m : Mark) → length (spelled_mark m) ≡ 16
unfolding spelled_mark
length_mark m = omega (arith, length-append (number8 m.start) (number8 m.saves), length_number8 m.start, length_number8 m.saves)

length_optional_mark : (m : Option Mark) → length (spelled_optional_mark m) ≤ 17
unfolding spelled_optional_mark
length_optional_mark None = omega arith
length_optional_mark (Some m) = omega (arith, length_mark m)

length_recall : (r : Option Recall) → length (spelled_recall r) ≤ 59
unfolding spelled_recall
length_recall None = omega arith
length_recall (Some r) = omega (
  arith,
  length-append (spelled_mark r.mark) (number8 r.number ++ (spelled_optional_mark r.heard ++ spelled_optional_mark r.answered)),
  length-append (number8 r.number) (spelled_optional_mark r.heard ++ spelled_optional_mark r.answered),
  length-append (spelled_optional_mark r.heard) (spelled_optional_mark r.answered),
  length_mark r.mark,
  length_number8 r.number,
  length_optional_mark r.heard,
  length_optional_mark r.answered,
)

length_report : (r : Report) → IsReport r → length (spelled_report r) ≡ 96
unfolding spelled_report
length_report r is = omega (
  arith,
  length-append (number8 r.digests.peers) (number8 r.digests.kit ++ (number8 r.applied ++ (number8 r.chosen ++ (r.digest ++ r.block_digest)))),
  length-append (number8 r.digests.kit) (number8 r.applied ++ (number8 r.chosen ++ (r.digest ++ r.block_digest))),
  length-append (number8 r.applied) (number8 r.chosen ++ (r.digest ++ r.block_digest)),
  length-append (number8 r.chosen) (r.digest ++ r.block_digest),
  length-append r.digest r.block_digest,
  length_number8 r.digests.peers,
  length_number8 r.digests.kit,
  length_number8 r.applied,
  length_number8 r.chosen,
  is.4.0,
  is.5.0,
)

pub length_head : (h : Head) → IsHead h → length (spelled_head h) ≤ 157
unfolding spelled_head
length_head h is = omega (arith, length-append (spelled_report h.report) (spelled_recall h.recall), length_report h.report is.1, length_recall h.recall)

length_number4 : (n : ℕ) → length (number4 n) ≡ 4
unfolding number4
length_number4 n = refl

pub length_piece : (bytes : List ℕ) → length (spelled_piece bytes) ≡ 4 + length bytes
unfolding spelled_piece
length_piece bytes = omega (arith, length-append (number4 (length bytes)) bytes, length_number4 (length bytes))

pub length_put : (old new piece : List ℕ) → new ≡ old ++ spelled_piece piece → length new ≡ length old + (4 + length piece)
length_put old new piece e = omega (arith, ap length e, length-append old (spelled_piece piece), length_piece piece)

pub messages_nil : spelled_messages [] ≡ []
unfolding spelled_messages
messages_nil = refl

pub messages_cons : (m : Message) (messages : List Message) → spelled_messages (m ∷ messages) ≡ spelled_piece (spelled_message m) ++ spelled_messages messages
unfolding spelled_messages
messages_cons m messages = refl

pub length_nil : length (spelled_messages []) ≡ 0
length_nil = ap length messages_nil

pub length_cons : (m : Message) (messages : List Message) → length (spelled_messages (m ∷ messages)) ≡ 4 + length (spelled_message m) + length (spelled_messages messages)
length_cons m messages = omega (arith, ap length (messages_cons m messages), length-append (spelled_piece (spelled_message m)) (spelled_messages messages), length_piece (spelled_message m))

-- ---- what is left behind what was read

abbrev done : {A : Type 0} → A → Result A BatchFault
done x = Ok x

pub ok_is : {A : Type 0} (x y : A) → done x ≡ done y → x ≡ y
ok_is x y e = cc

-- the value of a step that did not fail
pub bind_ok : {A B : Type 0} (r : Result A BatchFault) (f : A → Result B BatchFault) (y : B) → (r >>= f) ≡ Ok y → (x : A) × (r ≡ Ok x) × (f x ≡ Ok y)
bind_ok (Ok x) f y e = (x, refl, e)
bind_ok (Err d) f y e = absurd cc

pub guard_ok : {A : Type 0} (b : Bool) (d : BatchFault) (x y : A) → cond b (Err d) (Ok x) ≡ Ok y → (b ≡ false) × (x ≡ y)
guard_ok true d x y e = absurd cc
guard_ok false d x y e = (refl, cc)

number4_leaves : (bytes : List ℕ) (n : ℕ) (rest : List ℕ) → number4_at bytes ≡ Ok (n, rest) → length rest < length bytes
unfolding number4_at
number4_leaves bytes n rest e =
    let g = guard_ok (ltb (length bytes) 4) Short (from_be_bytes w32 (take 4 bytes), drop 4 bytes) (n, rest) e in
    let long : 4 ≤ length bytes = ltb-false _ _ g.0 in
    let is : drop 4 bytes ≡ rest = ap (λ (p : ℕ × List ℕ). p.1) g.1 in
    omega (arith, long, ap length is, length-drop 4 bytes)

cut_leaves : (n : ℕ) (bytes front rest : List ℕ) → bytes_at n bytes ≡ Ok (front, rest) → length rest ≤ length bytes
cut_leaves n bytes front rest e =
    let g = guard_ok (ltb (length bytes) n) Short (take n bytes, drop n bytes) (front, rest) e in
    let is : drop n bytes ≡ rest = ap (λ (p : List ℕ × List ℕ). p.1) g.1 in
    omega (arith, ap length is, length-drop n bytes)

pub inside_ok : (r : Result Message WireFault) (rest : List ℕ) (y : Message × List ℕ) → inside r rest ≡ Ok y → (r ≡ Ok y.0) × (rest ≡ y.1)
inside_ok (Ok x) rest y e = let same = ok_is (x, rest) y e in (ap (λ (p : Message × List ℕ). Ok p.0) same, ap (λ (p : Message × List ℕ). p.1) same)
inside_ok (Err d) rest y e = absurd cc

-- less is left behind a message
pub message_leaves : (bytes : List ℕ) (m : Message) (rest : List ℕ) → message_at bytes ≡ Ok (m, rest) → length rest < length bytes
unfolding message_at piece_at
message_leaves bytes m rest e =
    let p = bind_ok (piece_at bytes) (λ piece. inside (read_message piece.0) piece.1) (m, rest) e in
    let n = bind_ok (number4_at bytes) (λ n. bytes_at n.0 n.1) p.0 p.1 in
    let a = number4_leaves bytes n.0.0 n.0.1 n.1 in
    let b = cut_leaves n.0.0 n.0.1 p.0.0 p.0.1 n.2 in
    let i = inside_ok (read_message p.0.0) p.0.1 (m, rest) p.2 in
    omega (arith, a, b, ap length i.1)
