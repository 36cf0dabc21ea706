-- Messages, read one by one.
use Rattle.std.proofs.Common.{◌≡◌, ℕ, zero, suc, ◌<◌, ◌≤◌, true, false, nat_eq, List, [], ◌∷◌, ◌++◌, length, Result, Ok, Err, refl, sym, ap, ◌∙◌, append_assoc, arith}
use Rattle.std.proofs.lemmas.Bool.{eqb-true, eqb-false}
use Rattle.std.proofs.lemmas.List.{append-nil, nil_from_length}
use Rattle.press_wire.specs.declared.message.Message.{Message}
use Rattle.press_batch.specs.Fields.{◌>>=◌}
use Rattle.press_batch.specs.Reading.{message_at, messages_in, messages_within}
use Rattle.press_batch.specs.Refusals.{Refuses}
use Rattle.press_batch.specs.declared.fault.BatchFault.{BatchFault}
use Rattle.press_batch.specs.declared.fault.BatchFault.TheVariants as fault
use Rattle.press_batch.proofs.Lengths.{message_leaves}

-- what is read comes behind these messages
abbrev pub behind : List Message → Result (List Message) BatchFault → Result (List Message) BatchFault
behind messages (Ok more) = Ok (messages ++ more)
behind messages (Err fault) = Err fault

-- these messages were read from the beginning, and these bytes are left
pub record Left (bytes : List ℕ) (messages : List Message) (start : List ℕ) : Type 0 where
  pub most : ℕ
  pub enough : length bytes ≤ most
  pub reads : behind messages (messages_within most bytes) ≡ messages_in start
  pub back : length bytes ≤ length start

behind_none : (r : Result (List Message) BatchFault) → behind [] r ≡ r
behind_none (Ok r) = refl
behind_none (Err f) = refl

behind_one : (messages : List Message) (m : Message) (r : Result (List Message) BatchFault) → behind messages (r >>= λ more. Ok (m ∷ more)) ≡ behind (messages ++ m ∷ []) r
behind_one messages m (Ok r) = ap (λ (xs : List Message). Ok xs) (sym (append_assoc messages (m ∷ []) r))
behind_one messages m (Err f) = refl

pub begins : (start : List ℕ) (messages : List Message) → messages ≡ [] → Left start messages start
begins start messages none = record {
  most = length start;
  enough = omega arith;
  reads = ap (λ (xs : List Message). behind xs (messages_in start)) none ∙ behind_none (messages_in start);
  back = omega arith;
}

-- ---- a message more

goes_on : (most : ℕ) (bytes : List ℕ) → length bytes ≤ most → nat_eq (length bytes) 0 ≡ false → (more : ℕ) × (most ≡ suc more) × (messages_within most bytes ≡ (message_at bytes >>= λ m. messages_within more m.1 >>= λ messages. Ok (m.0 ∷ messages)))
unfolding messages_within
goes_on most [] enough left = absurd cc
goes_on zero (b ∷ bytes) enough left = absurd (omega (arith, enough))
goes_on (suc more) (b ∷ bytes) enough left = (more, refl, refl)

pub one_read : (bytes rest start : List ℕ) (messages longer : List Message) (m : Message) → Left bytes messages start → nat_eq (length bytes) 0 ≡ false → message_at bytes ≡ Ok (m, rest) → longer ≡ messages ++ m ∷ [] → Left rest longer start
one_read bytes rest start messages longer m l left is pushed =
    let g = goes_on l.most bytes l.enough left in
    let less = message_leaves bytes m rest is in
    record {
      most = g.0;
      enough = omega (arith, less, l.enough, g.1);
      reads = ap (λ (xs : List Message). behind xs (messages_within g.0 rest)) pushed
          ∙ sym (behind_one messages m (messages_within g.0 rest))
          ∙ ap (λ (r : Result (Message × List ℕ) BatchFault). behind messages (r >>= λ x. messages_within g.0 x.1 >>= λ more. Ok (x.0 ∷ more))) (sym is)
          ∙ ap (behind messages) (sym g.2)
          ∙ l.reads;
      back = omega (arith, less, l.back);
    }

-- ---- a message that is none

none_read : (bytes start : List ℕ) (messages : List Message) (f : BatchFault) → Left bytes messages start → nat_eq (length bytes) 0 ≡ false → message_at bytes ≡ Err f → messages_in start ≡ Err f
none_read bytes start messages f l left is =
    let g = goes_on l.most bytes l.enough left in
    sym l.reads ∙ ap (behind messages) g.2
    ∙ ap (λ (r : Result (Message × List ℕ) BatchFault). behind messages (r >>= λ x. messages_within g.0 x.1 >>= λ more. Ok (x.0 ∷ more))) is

pub refused : (bytes start : List ℕ) (messages : List Message) (f : BatchFault) → Left bytes messages start → nat_eq (length bytes) 0 ≡ false → Refuses f (message_at bytes) → Refuses f (messages_in start)
refused bytes start messages fault.NoMemory l left refuses = tt
refused bytes start messages fault.TooLong l left refuses = none_read bytes start messages fault.TooLong l left refuses
refused bytes start messages fault.Short l left refuses = none_read bytes start messages fault.Short l left refuses
refused bytes start messages fault.BadVersion l left refuses = none_read bytes start messages fault.BadVersion l left refuses
refused bytes start messages fault.BadMember l left refuses = none_read bytes start messages fault.BadMember l left refuses
refused bytes start messages fault.BadRecall l left refuses = none_read bytes start messages fault.BadRecall l left refuses
refused bytes start messages fault.BadMessage l left refuses = none_read bytes start messages fault.BadMessage l left refuses
refused bytes start messages fault.Extra l left refuses = none_read bytes start messages fault.Extra l left refuses

-- ---- the end

none_within : (most : ℕ) → messages_within most [] ≡ Ok []
unfolding messages_within
none_within zero = refl
none_within (suc more) = refl

pub ends : (bytes start : List ℕ) (messages : List Message) → Left bytes messages start → nat_eq (length bytes) 0 ≡ true → messages_in start ≡ Ok messages
ends bytes start messages l over =
    let nothing : bytes ≡ [] = nil_from_length bytes (eqb-true _ _ over) in
    sym l.reads ∙ ap (λ (xs : List ℕ). behind messages (messages_within l.most xs)) nothing ∙ ap (behind messages) (none_within l.most) ∙ ap (λ (xs : List Message). Ok xs) (append-nil messages)

-- something was there at the beginning
pub some_at_start : (bytes start : List ℕ) (messages : List Message) → Left bytes messages start → nat_eq (length bytes) 0 ≡ false → 0 < length start
some_at_start bytes start messages l left = omega (arith, l.back, eqb-false (length bytes) 0 left)
