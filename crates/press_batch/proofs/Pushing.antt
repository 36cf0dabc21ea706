-- Messages, put behind a report one by one.
use Rattle.std.proofs.Common.{◌≡◌, ℕ, ◌+◌, ◌<◌, ◌≤◌, Bool, true, false, cond, slice_index_or, List, [], ◌∷◌, ◌++◌, length, drop, Option, None, Some, refl, sym, ap, subst, ◌∙◌, append_assoc, add-one, drop-cons}
use Rattle.std.proofs.Math.ListN.{drop_of_length-le}
use Rattle.std.proofs.lemmas.List.{append-nil}
use Rattle.press_wire.specs.declared.message.Message.{Message}
use Rattle.press_wire.specs.Spelling.{spelled_message, is_too_long_message}
use Rattle.press_batch.specs.Held.{ReadsBack, ReadBack}
use Rattle.press_batch.specs.Refusals.{IsRefusal}
use Rattle.press_batch.specs.Spelling.{fits, refusal_behind, spelled_messages, spelled_piece}
use Rattle.press_batch.specs.declared.fault.BatchFault.{BatchFault}
use Rattle.press_batch.specs.declared.fault.BatchFault.TheVariants.{NoMemory, TooLong, BadMessage}
use Rattle.press_batch.proofs.Lengths.{length_put}

-- what is written, with these messages still to come
pub record Puts (now start : List ℕ) (left messages : List Message) : Type 0 where
  pub written : now ++ spelled_messages left ≡ start ++ spelled_messages messages
  pub refused : refusal_behind (length now) left ≡ refusal_behind (length start) messages
  pub back : ReadBack left → ReadBack messages

pub starts : (start : List ℕ) (messages : List Message) → Puts start start (drop 0 messages) messages
starts start messages = record { written = refl; refused = refl; back = λ read. read }

drop_at : (messages : List Message) (i : ℕ) (m : Message) → i < length messages → m ≡ slice_index_or messages i m → drop i messages ≡ m ∷ drop (i + 1) messages
drop_at messages i m within is = rw (add-one, drop-cons messages i m within, ← is) refl

abbrev pub At : (now start : List ℕ) (messages : List Message) (i : ℕ) (m : Message) → Type 0
At now start messages i m = Puts now start (m ∷ drop (i + 1) messages) messages

pub at : (now start : List ℕ) (messages : List Message) (i : ℕ) (m : Message) → i < length messages → m ≡ slice_index_or messages i m → Puts now start (drop i messages) messages → At now start messages i m
at now start messages i m within is p = subst (λ (left : List Message). Puts now start left messages) (drop_at messages i m within is) p

-- ---- a message more

behind_fitting : (len : ℕ) (m : Message) (messages : List Message) → is_too_long_message m ≡ false → fits len m ≡ true → refusal_behind len (m ∷ messages) ≡ refusal_behind (len + (4 + length (spelled_message m))) messages
behind_fitting len m messages short fitting = rw (short, fitting) refl

pub one_put : (now more start : List ℕ) (messages : List Message) (i : ℕ) (m : Message) → At now start messages i m → is_too_long_message m ≡ false → fits (length now) m ≡ true → more ≡ now ++ spelled_piece (spelled_message m) → ReadsBack m → Puts more start (drop (i + 1) messages) messages
unfolding spelled_messages
one_put now more start messages i m p short fitting put reads = record {
  written = ap (λ (b : List ℕ). b ++ spelled_messages (drop (i + 1) messages)) put ∙ append_assoc now (spelled_piece (spelled_message m)) (spelled_messages (drop (i + 1) messages)) ∙ p.written;
  refused = ap (λ n. refusal_behind n (drop (i + 1) messages)) (length_put now more (spelled_message m) put) ∙ sym (behind_fitting (length now) m (drop (i + 1) messages) short fitting) ∙ p.refused;
  back = λ read. p.back (reads, read);
}

-- ---- a message that isn't put

full_behind : (len : ℕ) (m : Message) (messages : List Message) → is_too_long_message m ≡ false → fits len m ≡ false → refusal_behind len (m ∷ messages) ≡ Some TooLong
full_behind len m messages short full = rw (short, full) refl

pub is_full : (now start : List ℕ) (messages : List Message) (i : ℕ) (m : Message) → At now start messages i m → is_too_long_message m ≡ false → fits (length now) m ≡ false → refusal_behind (length start) messages ≡ Some TooLong
is_full now start messages i m p short full = sym p.refused ∙ full_behind (length now) m (drop (i + 1) messages) short full

bad_behind : (len : ℕ) (m : Message) (messages : List Message) → is_too_long_message m ≡ true → refusal_behind len (m ∷ messages) ≡ Some BadMessage
bad_behind len m messages long = rw long refl

told : (b : Bool) (f : BatchFault) (r : Option BatchFault) → f ≡ cond b BadMessage NoMemory → (b ≡ true → r ≡ Some BadMessage) → IsRefusal r f
told true f r is bad = subst (λ (x : BatchFault). IsRefusal r x) (sym is) (bad refl)
told false f r is bad = subst (λ (x : BatchFault). IsRefusal r x) (sym is) tt

pub is_refused : (now start : List ℕ) (messages : List Message) (i : ℕ) (m : Message) (f : BatchFault) → At now start messages i m → f ≡ cond (is_too_long_message m) BadMessage NoMemory → IsRefusal (refusal_behind (length start) messages) f
is_refused now start messages i m f p is = told (is_too_long_message m) f (refusal_behind (length start) messages) is (λ long. sym p.refused ∙ bad_behind (length now) m (drop (i + 1) messages) long)

-- ---- the end

pub over : (now start : List ℕ) (messages : List Message) (i : ℕ) → length messages ≤ i → Puts now start (drop i messages) messages → Puts now start [] messages
over now start messages i past p = subst (λ (left : List Message). Puts now start left messages) (drop_of_length-le messages past) p

pub all_written : (now start : List ℕ) (messages : List Message) → Puts now start [] messages → now ≡ start ++ spelled_messages messages
unfolding spelled_messages
all_written now start messages p = sym (append-nil now) ∙ p.written

pub none_refused : (now start : List ℕ) (messages : List Message) → Puts now start [] messages → refusal_behind (length start) messages ≡ None
none_refused now start messages p = sym p.refused

pub all_back : (now start : List ℕ) (messages : List Message) → Puts now start [] messages → ReadBack messages
all_back now start messages p = p.back tt
