-- Which batches have bytes, and that one message more is spelled behind the others.
use Rattle.std.proofs.Common.{◌≡◌, ℕ, ◌+◌, ◌≤◌, Bool, true, false, cond, List, [], ◌∷◌, ◌++◌, length, None, Some, refl, sym, ap, ◌∙◌, append_assoc, arith}
use Rattle.std.proofs.lemmas.Bool.{le-leb, leb-true}
use Rattle.std.proofs.lemmas.List.{append-nil, length-append}
use Rattle.press_wire.specs.declared.message.Message.{Message}
use Rattle.press_wire.specs.Spelling.{spelled_message, is_too_long_message}
use Rattle.press_batch.specs.Carried.{BatchContent}
use Rattle.press_batch.specs.Held.{AreShort, IsHead}
use Rattle.press_batch.specs.Spelling.{fits, most_bytes, refusal, refusal_behind, spelled_batch, spelled_messages, spelled_head, spelled_piece, with_last}
use Rattle.press_batch.specs.declared.fault.BatchFault.TheVariants.{TooLong, BadMessage}
use Rattle.press_batch.proofs.Lengths.{length_nil, length_cons, length_head}

-- ---- which batches have bytes

refused_none : (len : ℕ) (messages : List Message) → len ≤ most_bytes → refusal_behind len messages ≡ None → AreShort messages × (len + length (spelled_messages messages) ≤ most_bytes)
refused_none len [] most none = (tt, omega (arith, most, length_nil))
refused_none len (m ∷ messages) most none = go (is_too_long_message m) (fits len m) refl refl none (refused_none (len + (4 + length (spelled_message m))) messages)
  where
    go : (a b : Bool) → is_too_long_message m ≡ a → fits len m ≡ b → cond a (Some BadMessage) (cond b (refusal_behind (len + (4 + length (spelled_message m))) messages) (Some TooLong)) ≡ None
        → (len + (4 + length (spelled_message m)) ≤ most_bytes → refusal_behind (len + (4 + length (spelled_message m))) messages ≡ None → AreShort messages × (len + (4 + length (spelled_message m)) + length (spelled_messages messages) ≤ most_bytes))
        → AreShort (m ∷ messages) × (len + length (spelled_messages (m ∷ messages)) ≤ most_bytes)
    go true b long fit none ih = absurd cc
    go false false short fit none ih = absurd cc
    go false true short fit none ih =
        let left = ih (leb-true _ _ fit) none in
        ((short, left.0), omega (arith, left.1, length_cons m messages))

short_none : (len : ℕ) (messages : List Message) → AreShort messages → len + length (spelled_messages messages) ≤ most_bytes → refusal_behind len messages ≡ None
short_none len [] short most = refl
short_none len (m ∷ messages) short most =
    let fitting : fits len m ≡ true = le-leb _ _ (omega (arith, most, length_cons m messages)) in
    let left : refusal_behind (len + (4 + length (spelled_message m))) messages ≡ None = short_none (len + (4 + length (spelled_message m))) messages short.1 (omega (arith, most, length_cons m messages)) in
    let m_short = short.0 in
    rw (m_short, fitting) left

length_batch : (b : BatchContent) → length (spelled_batch b) ≡ length (spelled_head b.head) + length (spelled_messages b.messages)
unfolding spelled_batch
length_batch b = length-append (spelled_head b.head) (spelled_messages b.messages)

pub not_refused : (b : BatchContent) → IsHead b.head → refusal b ≡ None → AreShort b.messages × (length (spelled_batch b) ≤ most_bytes)
not_refused b is none =
    let w = refused_none (length (spelled_head b.head)) b.messages (omega (arith, length_head b.head is)) none in
    (w.0, omega (arith, w.1, length_batch b))

pub fitting_taken : (b : BatchContent) → AreShort b.messages → length (spelled_batch b) ≤ most_bytes → refusal b ≡ None
fitting_taken b short most = short_none (length (spelled_head b.head)) b.messages short (omega (arith, most, length_batch b))

-- ---- a message more

messages_last : (messages : List Message) (m : Message) → spelled_messages (messages ++ m ∷ []) ≡ spelled_messages messages ++ spelled_piece (spelled_message m)
unfolding spelled_messages
messages_last [] m = append-nil (spelled_piece (spelled_message m))
messages_last (x ∷ messages) m = ap (λ (t : List ℕ). spelled_piece (spelled_message x) ++ t) (messages_last messages m) ∙ sym (append_assoc (spelled_piece (spelled_message x)) (spelled_messages messages) (spelled_piece (spelled_message m)))

pub spelled_last : (b : BatchContent) (m : Message) → spelled_batch (with_last m b) ≡ spelled_batch b ++ spelled_piece (spelled_message m)
unfolding spelled_batch
spelled_last b m = ap (λ (t : List ℕ). spelled_head b.head ++ t) (messages_last b.messages m) ∙ sym (append_assoc (spelled_head b.head) (spelled_messages b.messages) (spelled_piece (spelled_message m)))
