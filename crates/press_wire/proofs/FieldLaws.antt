-- The fields: what is read is spelled so, and what is spelled so is read.
use Rattle.std.proofs.Common.{◌≡◌, ℕ, ◌^◌, ◌<◌, ◌≤◌, Bool, true, false, cond, ltb, List, [], ◌∷◌, ◌++◌, length, take, drop, Some, Result, Ok, Err, refl, sym, ap, subst, ◌∙◌, append_assoc, arith}
use Rattle.std.specs.Str.{is_utf8}
use Rattle.std.specs.Int.{Width, w32, w64, byte_len, from_be_bytes, to_be_bytes}
use Rattle.std.proofs.lemmas.Bool.{ltb-false, le-ltb}
use Rattle.std.proofs.lemmas.Bool.Decides.{nat_tests}
use Rattle.std.proofs.lemmas.List.{take_at, drop_at, take-append-drop, length-append, length-take}
use Rattle.std.proofs.lemmas.Nat.{be_bytes_4, be_bytes_8, from_be_bytes-to_be_bytes_4, from_be_bytes-to_be_bytes_8}
use Rattle.press_text.specs.Moments.{moment_of}
use Rattle.press_text.specs.Names.{is_name, IsName}
use Rattle.press_posts.specs.declared.status.Status.{Status}
use Rattle.press_posts.specs.declared.status.Status.TheVariants as status
use Rattle.press_wire.specs.declared.ballot.Ballot.{Ballot}
use Rattle.press_wire.specs.declared.fault.WireFault.{WireFault}
use Rattle.press_wire.specs.declared.fault.WireFault.TheVariants.{Short, BadField}
use Rattle.press_wire.specs.Fields.{checked_at, counted_bytes_at, byte_at, bytes_at, number_at, number4_at, number8_at, short_at, name_at, text_at, moment_at, status_at, node_at, slot_at, round_at, ballot_at}
use Rattle.press_wire.specs.Held.{IsBytes, IsText, IsMoment, IsRound, IsNode, IsSlot, IsBallot}
use Rattle.press_wire.specs.Kinds.{status_of, status_number}
use Rattle.press_wire.specs.Ranges.{only, is_at_most, is_within, member_id_of, slot_of, round_of}
use Rattle.press_wire.specs.Spelling.{number4, number8, name, text, ballot}
use Rattle.press_wire.proofs.Codec.{IsBytes-drop, IsBytes-take, IsBytes-rest, Takes, Codec, step, step_again, ok_is, checked_codec, only_named, only_passes, passes_only, or_next, or_none, recast, paired_codec}

-- ---- one byte

abbrev pub one : ℕ → List ℕ
one b = b ∷ []

byte_takes : (bytes : List ℕ) (v : ℕ) (rest : List ℕ) → IsBytes bytes → byte_at bytes ≡ Ok (v, rest) → Takes one (λ b. b < 256) bytes v rest
byte_takes [] v rest fits e = absurd cc
byte_takes (b ∷ bytes) v rest fits e =
    subst (λ (p : ℕ × List ℕ). Takes one (λ x. x < 256) (b ∷ bytes) p.0 p.1) (ok_is (b, bytes) (v, rest) e) (record { parts = refl; rest_fits = IsBytes-rest b bytes fits; fits = fits 0 })

pub byte_codec : Codec byte_at one (λ b. b < 256)
byte_codec = record { takes = byte_takes; again = λ v rest fits. refl }

-- ---- numbers

record IsWide (w : Width) (limit : ℕ) (spell : ℕ → List ℕ) : Type 0 where
  pub is : (n : ℕ) → spell n ≡ to_be_bytes w n
  pub len : (n : ℕ) → length (to_be_bytes w n) ≡ byte_len w
  pub back : (bytes : List ℕ) → length bytes ≡ byte_len w → IsBytes bytes → to_be_bytes w (from_be_bytes w bytes) ≡ bytes
  pub again : (n : ℕ) → n < limit → from_be_bytes w (to_be_bytes w n) ≡ n
  pub below : (bytes : List ℕ) → IsBytes bytes → from_be_bytes w bytes < limit

number4_is : (n : ℕ) → number4 n ≡ to_be_bytes w32 n
unfolding number4
number4_is n = refl

number8_is : (n : ℕ) → number8 n ≡ to_be_bytes w64 n
unfolding number8
number8_is n = refl

wide4 : IsWide w32 (2 ^ 32) number4
wide4 = record {
  is = number4_is;
  len = λ n. refl;
  back = λ bytes len fits. be_bytes_4 bytes _ len fits refl;
  again = λ n lt. from_be_bytes-to_be_bytes_4 n lt;
  below = λ bytes fits. omega (arith, fits 0, fits 1, fits 2, fits 3);
}

wide8 : IsWide w64 (2 ^ 64) number8
wide8 = record {
  is = number8_is;
  len = λ n. refl;
  back = λ bytes len fits. be_bytes_8 bytes _ len fits refl;
  again = λ n lt. from_be_bytes-to_be_bytes_8 n lt;
  below = λ bytes fits. omega (arith, fits 0, fits 1, fits 2, fits 3, fits 4, fits 5, fits 6, fits 7);
}

guard_ok : {A : Type 0} (b : Bool) (d : WireFault) (x y : A) → cond b (Err d) (Ok x) ≡ Ok y → (b ≡ false) × (x ≡ y)
guard_ok true d x y e = absurd cc
guard_ok false d x y e = (refl, cc)

number_takes : (w : Width) (limit : ℕ) (spell : ℕ → List ℕ) → IsWide w limit spell → (bytes : List ℕ) (n : ℕ) (rest : List ℕ) → IsBytes bytes → number_at w bytes ≡ Ok (n, rest) → Takes spell (λ v. v < limit) bytes n rest
number_takes w limit spell wide bytes n rest fits e =
    let g = guard_ok (ltb (length bytes) (byte_len w)) Short (from_be_bytes w (take (byte_len w) bytes), drop (byte_len w) bytes) (n, rest) e in
    let long : byte_len w ≤ length bytes = ltb-false _ _ g.0 in
    let n-is : from_be_bytes w (take (byte_len w) bytes) ≡ n = ap (λ (p : ℕ × List ℕ). p.0) g.1 in
    let rest-is : drop (byte_len w) bytes ≡ rest = ap (λ (p : ℕ × List ℕ). p.1) g.1 in
    let front : spell n ≡ take (byte_len w) bytes = wide.is n ∙ rw (← n-is) (wide.back (take (byte_len w) bytes) (omega (arith, length-take (byte_len w) bytes)) (IsBytes-take (byte_len w) bytes fits)) in
    record { parts = rw (front, ← rest-is) (sym (take-append-drop (byte_len w) bytes)); rest_fits = rw (← rest-is) (IsBytes-drop (byte_len w) bytes fits); fits = rw (← n-is) (wide.below (take (byte_len w) bytes) (IsBytes-take (byte_len w) bytes fits)) }

number_again : (w : Width) (limit : ℕ) (spell : ℕ → List ℕ) → IsWide w limit spell → (n : ℕ) (rest : List ℕ) → n < limit → number_at w (spell n ++ rest) ≡ Ok (n, rest)
number_again w limit spell wide n rest lt =
    let len = wide.len n in
    let long : ltb (length (to_be_bytes w n ++ rest)) (byte_len w) ≡ false = le-ltb _ _ (omega (arith, length-append (to_be_bytes w n) rest)) in
    rw (wide.is n, long, take_at (to_be_bytes w n) rest (byte_len w) len, drop_at (to_be_bytes w n) rest (byte_len w) len, wide.again n lt) refl

number_codec : (w : Width) (limit : ℕ) (spell : ℕ → List ℕ) → IsWide w limit spell → Codec (number_at w) spell (λ v. v < limit)
number_codec w limit spell wide = record { takes = number_takes w limit spell wide; again = number_again w limit spell wide }

pub number4_codec : Codec number4_at number4 (λ n. n < 2 ^ 32)
unfolding number4_at
number4_codec = recast (number_codec w32 (2 ^ 32) number4 wide4) number4_at number4 (λ n. n < 2 ^ 32) (λ bytes. refl) (λ n. refl) (λ n fits. fits) (λ n fits. fits)

pub number8_codec : Codec number8_at number8 (λ n. n < 2 ^ 64)
unfolding number8_at
number8_codec = recast (number_codec w64 (2 ^ 64) number8 wide8) number8_at number8 (λ n. n < 2 ^ 64) (λ bytes. refl) (λ n. refl) (λ n fits. fits) (λ n fits. fits)

-- ---- counted bytes

abbrev pub spell_counted : (ℕ → List ℕ) → List ℕ → List ℕ
spell_counted spell s = spell (length s) ++ s

pub counted_codec : {at : List ℕ → Result (ℕ × List ℕ) WireFault} {spell : ℕ → List ℕ} {Fits : ℕ → Type 0} (codec : Codec at spell Fits) → Codec (counted_bytes_at at) (spell_counted spell) (λ s. Fits (length s))
counted_codec {at = at} {spell = spell} {Fits = Fits} codec = record {
  takes = λ bytes v rest fits e.
      let s = step codec (λ n. bytes_at n.0 n.1) (v, rest) bytes fits e in
      let g = guard_ok (ltb (length s.rest) s.value) Short (take s.value s.rest, drop s.value s.rest) (v, rest) s.next in
      let long : s.value ≤ length s.rest = ltb-false _ _ g.0 in
      let len : length (take s.value s.rest) ≡ s.value = omega (arith, length-take s.value s.rest) in
      let parts : bytes ≡ spell_counted spell (take s.value s.rest) ++ drop s.value s.rest =
      s.took.parts ∙ ap (λ (r : List ℕ). spell s.value ++ r) (sym (take-append-drop s.value s.rest)) ∙ sym (append_assoc (spell s.value) (take s.value s.rest) (drop s.value s.rest))
      ∙ ap (λ (k : ℕ). (spell k ++ take s.value s.rest) ++ drop s.value s.rest) (sym len) in
      let found : Takes (spell_counted spell) (λ x. Fits (length x)) bytes (take s.value s.rest) (drop s.value s.rest) = record { parts = parts; rest_fits = IsBytes-drop s.value s.rest s.took.rest_fits; fits = subst Fits (sym len) s.took.fits } in
      subst (λ (p : List ℕ × List ℕ). Takes (spell_counted spell) (λ x. Fits (length x)) bytes p.0 p.1) g.1 found;
  again = λ v rest fits.
      let long : ltb (length (v ++ rest)) (length v) ≡ false = le-ltb _ _ (omega (arith, length-append v rest)) in
      ap (λ (b : List ℕ). counted_bytes_at at b) (append_assoc (spell (length v)) v rest) ∙ step_again codec (λ n. bytes_at n.0 n.1) (length v) (v ++ rest) fits ∙ rw (long, take_at v rest (length v) refl, drop_at v rest (length v) refl) refl;
}

-- ---- numbers in their ranges

abbrev same_number : ℕ → ℕ
same_number n = n

abbrev at_most : ℕ → ℕ → Bool
at_most most n = is_at_most most n

pub moment_codec : Codec moment_at number8 IsMoment
unfolding moment_at
moment_codec = recast (checked_codec number8_codec BadField moment_of same_number (only_named (is_at_most (2 ^ 40)))) moment_at number8 IsMoment
    (λ bytes. refl) (λ n. refl) (λ n fits. let t = only_passes (is_at_most (2 ^ 40)) n n fits.1 in grind (arith, nat_tests))
    (λ n fits. (omega (arith, fits), passes_only (is_at_most (2 ^ 40)) n (grind (arith, nat_tests))))

pub round_codec : Codec round_at number8 IsRound
unfolding round_at
round_codec = recast (checked_codec number8_codec BadField round_of same_number (only_named (is_within 1 (2 ^ 40)))) round_at number8 IsRound
    (λ bytes. refl) (λ n. refl) (λ n fits. let t = only_passes (is_within 1 (2 ^ 40)) n n fits.1 in (grind (arith, nat_tests), grind (arith, nat_tests)))
    (λ n fits. (omega (arith, fits.1), passes_only (is_within 1 (2 ^ 40)) n (grind (arith, nat_tests))))

pub slot_codec : Codec slot_at number4 IsSlot
unfolding slot_at
slot_codec = recast (checked_codec number4_codec BadField slot_of same_number (only_named (is_within 1 1000000))) slot_at number4 IsSlot
    (λ bytes. refl) (λ n. refl) (λ n fits. let t = only_passes (is_within 1 1000000) n n fits.1 in (grind (arith, nat_tests), grind (arith, nat_tests)))
    (λ n fits. (omega (arith, fits.1), passes_only (is_within 1 1000000) n (grind (arith, nat_tests))))

pub node_codec : Codec node_at one IsNode
unfolding node_at
node_codec = recast (checked_codec byte_codec BadField member_id_of same_number (only_named (is_within 1 7))) node_at one IsNode
    (λ bytes. refl) (λ n. refl) (λ n fits. let t = only_passes (is_within 1 7) n n fits.1 in (grind (arith, nat_tests), grind (arith, nat_tests)))
    (λ n fits. (omega (arith, fits.1), passes_only (is_within 1 7) n (grind (arith, nat_tests))))

status_named : (n : ℕ) (s : Status) → status_of n ≡ Some s → n ≡ status_number s
status_named n s =
    or_next status_number n 0 status.Publish s _ refl (or_next status_number n 1 status.Future s _ refl (or_next status_number n 2 status.Draft s _ refl
    (or_next status_number n 3 status.Pending s _ refl (or_next status_number n 4 status.Private s _ refl (or_next status_number n 5 status.Trash s _ refl (or_none status_number n s))))))

status_known : (s : Status) → (status_number s < 256) × (status_of (status_number s) ≡ Some s)
status_known status.Publish = (omega arith, refl)
status_known status.Future = (omega arith, refl)
status_known status.Draft = (omega arith, refl)
status_known status.Pending = (omega arith, refl)
status_known status.Private = (omega arith, refl)
status_known status.Trash = (omega arith, refl)

pub status_codec : Codec status_at (λ s. one (status_number s)) (λ s. Unit {0})
unfolding status_at
status_codec = recast (checked_codec byte_codec BadField status_of status_number status_named) status_at (λ s. one (status_number s)) (λ s. Unit {0})
    (λ bytes. refl) (λ s. refl) (λ s fits. tt) (λ s fits. status_known s)

-- ---- names and texts

abbrev same_bytes : List ℕ → List ℕ
same_bytes bytes = bytes

short_codec : Codec short_at name (λ s. (1 ≤ length s) × (length s ≤ 32))
unfolding short_at name
short_codec = recast (counted_codec (checked_codec byte_codec BadField (only (is_within 1 32)) same_number (only_named (is_within 1 32)))) short_at name (λ s. (1 ≤ length s) × (length s ≤ 32))
    (λ bytes. refl) (λ s. refl) (λ s fits. let t = only_passes (is_within 1 32) (length s) (length s) fits.1 in (grind (arith, nat_tests), grind (arith, nat_tests)))
    (λ s fits. (omega (arith, fits.1), passes_only (is_within 1 32) (length s) (grind (arith, nat_tests))))

pub name_codec : Codec name_at name (λ s. IsName 32 s)
unfolding name_at
name_codec = recast (checked_codec short_codec BadField (only (is_name 32)) same_bytes (only_named (is_name 32))) name_at name (λ s. IsName 32 s)
    (λ bytes. refl) (λ s. refl) (λ s fits. only_passes (is_name 32) s s fits.1)
    (λ s fits. ((grind (arith, nat_tests), grind (arith, nat_tests)), passes_only (is_name 32) s fits))

-- so many bytes at most behind their length
pub sized_codec : (most : ℕ) → most < 2 ^ 32 → Codec (counted_bytes_at (checked_at BadField (only (is_at_most most)) number4_at)) text (λ s. length s ≤ most)
unfolding text
sized_codec most small = recast (counted_codec (checked_codec number4_codec BadField (only (is_at_most most)) same_number (only_named (is_at_most most)))) (counted_bytes_at (checked_at BadField (only (is_at_most most)) number4_at)) text (λ s. length s ≤ most)
    (λ bytes. refl) (λ s. refl) (λ s fits. let t = only_passes (is_at_most most) (length s) (length s) fits.1 in grind (arith, nat_tests))
    (λ s fits. (omega (arith, fits, small), passes_only (is_at_most most) (length s) (grind (arith, nat_tests))))

abbrev pub FitsText : List ℕ → Type 0
FitsText s = (length s ≤ 65536) × IsText s

pub text_codec : Codec text_at text FitsText
unfolding text_at
text_codec = recast (checked_codec (sized_codec 65536 (omega arith)) BadField (only is_utf8) same_bytes (only_named is_utf8)) text_at text FitsText
    (λ bytes. refl) (λ s. refl) (λ s fits. (fits.0, only_passes is_utf8 s s fits.1))
    (λ s fits. (fits.0, passes_only is_utf8 s fits.1))

-- ---- ballots

made_ballot : ℕ → ℕ → Ballot
made_ballot r n = record { round = r; node = n }

pub ballot_codec : Codec ballot_at ballot IsBallot
unfolding ballot_at ballot
ballot_codec = recast (paired_codec round_codec node_codec (λ r n. record { round = r; node = n }) ballot IsBallot (λ r n. refl) (λ r n good place. (good, place)) (λ b fits. (b.round, b.node, refl, fits.0, fits.1))) ballot_at ballot IsBallot
    (λ bytes. refl) (λ b. refl) (λ b fits. fits) (λ b fits. fits)
