-- Names that stand in place compare by words as they do byte by byte.
use Rattle.std.proofs.Common.{◌≡◌, refl, sym, ◌∙◌, ap, ap₂, subst, ℕ, zero, suc, ◌+◌, ◌*◌, ◌<◌, ◌≤◌, Bool, true, false, ◌&&◌, nat_lt, nat_le, List, [], ◌∷◌, length, drop, replicate, arith}
use Rattle.std.specs.Prelude.{◌++◌, slice_index, take}
use Rattle.std.specs.List.{list_all, AllByRecursion}
use Rattle.std.specs.Cmp.{nat_cmp_is}
use Rattle.std.specs.Cmp.Lexicographic.{slice_cmp}
use Rattle.std.specs.Ordering.{nat_cmp, ordering_then}
use Rattle.std.specs.declared.cmp.Ordering.{Ordering}
use Rattle.std.specs.declared.cmp.Ordering.TheVariants.{Less, Equal, Greater}
use Rattle.std.proofs.lemmas.Bool.Decides.{nat_tests}
use Rattle.std.proofs.lemmas.Bool.{and_parts}
use Rattle.std.proofs.lemmas.List.{length-drop}
use Rattle.std.proofs.lemmas.Cmp.{ranked, nat_cmp_total, tied_itself}
use Rattle.press_text.specs.Names.{is_name_byte, IsName}
use Rattle.press_text.specs.Padded.{AreBytes, eight, number, padded_name, IsKept}

-- what begins less stays less
less : (m n : ℕ) (xs ys : List ℕ) → length xs ≡ length ys → AreBytes xs → AreBytes ys → m < n → number m xs < number n ys
less m n [] [] e s t h = h
less m n [] (y ∷ ys) e s t h = absurd (omega arith)
less m n (x ∷ xs) [] e s t h = absurd (omega arith)
less m n (x ∷ xs) (y ∷ ys) e s t h =
    let a : x < 256 = s.0 in
    less (m * 256 + x) (n * 256 + y) xs ys (omega arith) s.1 t.1 (omega arith)

ordered : (n : ℕ) (xs ys : List ℕ) → length xs ≡ length ys → AreBytes xs → AreBytes ys → nat_cmp (number n xs) (number n ys) ≡ slice_cmp nat_cmp xs ys
ordered n [] [] e s t = tied_itself nat_cmp_total n
ordered n [] (y ∷ ys) e s t = absurd (omega arith)
ordered n (x ∷ xs) [] e s t = absurd (omega arith)
ordered n (x ∷ xs) (y ∷ ys) e s t =
    let long : length xs ≡ length ys = omega arith in
    first (nat_cmp x y) refl long (λ m. ordered m xs ys long s.1 t.1)
  where
    first : (o : Ordering) → o ≡ nat_cmp x y → length xs ≡ length ys → ((m : ℕ) → nat_cmp (number m xs) (number m ys) ≡ slice_cmp nat_cmp xs ys) →
        nat_cmp (number (n * 256 + x) xs) (number (n * 256 + y) ys) ≡ ordering_then o (slice_cmp nat_cmp xs ys)
    first Less f long again =
        let lt : x < y = ranked x y Less f in
        sym (nat_cmp_is _ _ Less (less (n * 256 + x) (n * 256 + y) xs ys long s.1 t.1 (omega arith)))
    first Equal f long again =
        let same : x ≡ y = ranked x y Equal f in
        subst (λ z. nat_cmp (number (n * 256 + x) xs) (number (n * 256 + z) ys) ≡ slice_cmp nat_cmp xs ys) same (again (n * 256 + x))
    first Greater f long again =
        let gt : y < x = ranked x y Greater f in
        sym (nat_cmp_is _ _ Greater (less (n * 256 + y) (n * 256 + x) ys xs (sym long) t.1 s.1 (omega arith)))

-- ---- eight bytes as a word

then_assoc : (a b c : Ordering) → ordering_then (ordering_then a b) c ≡ ordering_then a (ordering_then b c)
then_assoc Less b c = refl
then_assoc Equal b c = refl
then_assoc Greater b c = refl

joined : (zs ws xs ys : List ℕ) → length zs ≡ length ws → slice_cmp nat_cmp (zs ++ xs) (ws ++ ys) ≡ ordering_then (slice_cmp nat_cmp zs ws) (slice_cmp nat_cmp xs ys)
joined [] [] xs ys e = refl
joined [] (b ∷ ws) xs ys e = absurd (omega arith)
joined (a ∷ zs) [] xs ys e = absurd (omega arith)
joined (a ∷ zs) (b ∷ ws) xs ys e =
    ap (ordering_then (nat_cmp a b)) (joined zs ws xs ys (omega arith))
    ∙ sym (then_assoc (nat_cmp a b) (slice_cmp nat_cmp zs ws) (slice_cmp nat_cmp xs ys))

parted : (at : ℕ) (xs : List ℕ) → at + 8 ≤ length xs → drop at xs ≡ eight at xs ++ drop (at + 8) xs
parted zero (a ∷ b ∷ c ∷ d ∷ e ∷ f ∷ g ∷ h ∷ xs) le = refl
parted zero [] le = absurd (omega arith)
parted zero (a ∷ []) le = absurd (omega arith)
parted zero (a ∷ b ∷ []) le = absurd (omega arith)
parted zero (a ∷ b ∷ c ∷ []) le = absurd (omega arith)
parted zero (a ∷ b ∷ c ∷ d ∷ []) le = absurd (omega arith)
parted zero (a ∷ b ∷ c ∷ d ∷ e ∷ []) le = absurd (omega arith)
parted zero (a ∷ b ∷ c ∷ d ∷ e ∷ f ∷ []) le = absurd (omega arith)
parted zero (a ∷ b ∷ c ∷ d ∷ e ∷ f ∷ g ∷ []) le = absurd (omega arith)
parted (suc i) [] le = absurd (omega arith)
parted (suc i) (x ∷ xs) le = rw (on 1, on 2, on 3, on 4, on 5, on 6, on 7, on 8) (parted i xs (omega arith))
  where
    on : (k : ℕ) → suc i + k ≡ suc (i + k)
    on k = omega arith

all_dropped : (n : ℕ) (xs : List ℕ) → AreBytes xs → AreBytes (drop n xs)
all_dropped zero xs s = s
all_dropped (suc n) [] s = tt
all_dropped (suc n) (x ∷ xs) s = all_dropped n xs s.1

-- whatever is at a place of bytes is a byte
byte_at : (xs : List ℕ) (i : ℕ) → AreBytes xs → slice_index xs i < 256
byte_at [] i s = omega arith
byte_at (x ∷ xs) zero s = s.0
byte_at (x ∷ xs) (suc i) s = byte_at xs i s.1

eight_bytes : (at : ℕ) (xs : List ℕ) → AreBytes xs → AreBytes (eight at xs)
eight_bytes at xs s =
    let on : (k : ℕ) → slice_index xs (at + k) < 256 = λ k. byte_at xs (at + k) s in
    (byte_at xs at s, (on 1, (on 2, (on 3, (on 4, (on 5, (on 6, (on 7, tt))))))))

-- the first word that differs decides
word_first : (at : ℕ) (xs ys : List ℕ) → at + 8 ≤ length xs → at + 8 ≤ length ys → AreBytes xs → AreBytes ys →
    slice_cmp nat_cmp (drop at xs) (drop at ys)
    ≡ ordering_then (nat_cmp (number 0 (eight at xs)) (number 0 (eight at ys))) (slice_cmp nat_cmp (drop (at + 8) xs) (drop (at + 8) ys))
word_first at xs ys le le' s t =
    rw (parted at xs le, parted at ys le')
    (joined (eight at xs) (eight at ys) (drop (at + 8) xs) (drop (at + 8) ys) refl
    ∙ ap (λ o. ordering_then o (slice_cmp nat_cmp (drop (at + 8) xs) (drop (at + 8) ys)))
    (sym (ordered 0 (eight at xs) (eight at ys) refl (eight_bytes at xs s) (eight_bytes at ys t))))

module _ (at : ℕ) (xs ys : List ℕ) (x y : ℕ) (le : at + 8 ≤ length xs) (le' : at + 8 ≤ length ys) (s : AreBytes xs) (t : AreBytes ys) (e : x ≡ number 0 (eight at xs)) (f : y ≡ number 0 (eight at ys)) where
  by_words : slice_cmp nat_cmp (drop at xs) (drop at ys) ≡ ordering_then (nat_cmp x y) (slice_cmp nat_cmp (drop (at + 8) xs) (drop (at + 8) ys))
  by_words = rw (e, f) (word_first at xs ys le le' s t)

  pub differ : (x ≡ y → ⊥) → nat_cmp x y ≡ slice_cmp nat_cmp (drop at xs) (drop at ys)
  differ n = decided (nat_cmp x y) refl ∙ sym by_words
    where
      decided : (o : Ordering) → o ≡ nat_cmp x y → nat_cmp x y ≡ ordering_then (nat_cmp x y) (slice_cmp nat_cmp (drop (at + 8) xs) (drop (at + 8) ys))
      decided Less h = rw (← h) refl
      decided Equal h = absurd (n (ranked x y Equal h))
      decided Greater h = rw (← h) refl

  pub agree : x ≡ y → slice_cmp nat_cmp (drop (at + 8) xs) (drop (at + 8) ys) ≡ slice_cmp nat_cmp (drop at xs) (drop at ys)
  agree g =
      let same : nat_cmp x y ≡ Equal = subst (λ z. nat_cmp x z ≡ Equal) g (tied_itself nat_cmp_total x) in
      sym (by_words ∙ ap (λ o. ordering_then o (slice_cmp nat_cmp (drop (at + 8) xs) (drop (at + 8) ys))) same)

-- ---- names, and zeros up to 32

name_byte : (b : ℕ) → is_name_byte b ≡ true → (0 < b) × (b < 256)
name_byte b e = grind (arith, nat_tests)

abbrev AreNamed : List ℕ → Type 0
AreNamed bytes = AllByRecursion (λ b. (0 < b) × (b < 256)) bytes

named : (bytes : List ℕ) → list_all is_name_byte bytes ≡ true → AreNamed bytes
named [] e = tt
named (b ∷ bytes) e = let p = and_parts _ _ e in (name_byte b p.0, named bytes p.1)

abbrev AreZeros : List ℕ → Type 0
AreZeros bytes = AllByRecursion (λ b. b ≡ 0) bytes

zeros : (n : ℕ) → AreZeros (replicate n 0)
zeros zero = tt
zeros (suc n) = (refl, zeros n)

zeros_dropped : (n : ℕ) (xs : List ℕ) → AreZeros xs → AreZeros (drop n xs)
zeros_dropped zero xs s = s
zeros_dropped (suc n) [] s = tt
zeros_dropped (suc n) (x ∷ xs) s = zeros_dropped n xs s.1

all_zeros : (xs ys : List ℕ) → length xs ≡ length ys → AreZeros xs → AreZeros ys → slice_cmp nat_cmp xs ys ≡ Equal
all_zeros [] [] e s t = refl
all_zeros [] (y ∷ ys) e s t = absurd (omega arith)
all_zeros (x ∷ xs) [] e s t = absurd (omega arith)
all_zeros (x ∷ xs) (y ∷ ys) e s t = rw (s.0, t.0) (all_zeros xs ys (omega arith) s.1 t.1)

-- zeros behind names change nothing
ended : (zs ws xs ys : List ℕ) → AreNamed zs → AreNamed ws → AreZeros xs → AreZeros ys → length zs + length xs ≡ length ws + length ys → slice_cmp nat_cmp (zs ++ xs) (ws ++ ys) ≡ slice_cmp nat_cmp zs ws
ended [] [] xs ys n m s t e = all_zeros xs ys (omega arith) s t
ended [] (b ∷ ws) [] ys n m s t e = absurd (omega arith)
ended [] (b ∷ ws) (x ∷ xs) ys n m s t e =
    let low : 0 < b = m.0.0 in
    let first : nat_cmp x b ≡ Less = sym (nat_cmp_is x b Less (rw s.0 low)) in
    rw first refl
ended (a ∷ zs) [] xs [] n m s t e = absurd (omega arith)
ended (a ∷ zs) [] xs (y ∷ ys) n m s t e =
    let low : 0 < a = n.0.0 in
    let first : nat_cmp a y ≡ Greater = sym (nat_cmp_is a y Greater (rw t.0 low)) in
    rw first refl
ended (a ∷ zs) (b ∷ ws) xs ys n m s t e =
    ap (ordering_then (nat_cmp a b)) (ended zs ws xs ys n.1 m.1 s t (omega arith))

bytes_joined : (xs ys : List ℕ) → AreBytes xs → AreBytes ys → AreBytes (xs ++ ys)
bytes_joined [] ys s t = t
bytes_joined (x ∷ xs) ys s t = (s.0, bytes_joined xs ys s.1 t)

named_bytes : (xs : List ℕ) → AreNamed xs → AreBytes xs
named_bytes [] n = tt
named_bytes (x ∷ xs) n = (n.0.1, named_bytes xs n.1)

zero_bytes : (xs : List ℕ) → AreZeros xs → AreBytes xs
zero_bytes [] s = tt
zero_bytes (x ∷ xs) s = (let e : x ≡ 0 = s.0 in omega arith, zero_bytes xs s.1)

abbrev tail : List ℕ → List ℕ
tail name = drop (length name) (replicate 32 0)

tail_zeros : (name : List ℕ) → AreZeros (tail name)
tail_zeros name = zeros_dropped (length name) (replicate 32 0) (zeros 32)

last_of : (a b c : Bool) → (a && b && c) ≡ true → c ≡ true
last_of true true c e = e
last_of true false c e = cc
last_of false b c e = cc

name_named : (name : List ℕ) → IsName 32 name → AreNamed name
name_named name e = named name (last_of (nat_lt 0 (length name)) (nat_le (length name) 32) (list_all is_name_byte name) e)

name_short : (name : List ℕ) → IsName 32 name → length name ≤ 32
name_short name e = grind (arith, nat_tests)

filled : (name : List ℕ) → IsName 32 name → length name + length (tail name) ≡ 32
filled name e =
    let short = name_short name e in
    rw (length-drop {A = ℕ} (length name) (replicate 32 0)) (omega arith)

pub kept_bytes : (bytes : List ℕ) (len : ℕ) → IsKept bytes len → AreBytes bytes
kept_bytes bytes len k =
    let name = take len bytes in
    subst AreBytes k.padded (bytes_joined name (tail name) (named_bytes name (name_named name k.name)) (zero_bytes (tail name) (tail_zeros name)))

-- the bytes of a name are its own, and zeros up to 32
pub kept_word : (bytes : List ℕ) (len i : ℕ) → IsKept bytes len → number 0 (eight (8 * i) bytes) ≡ number 0 (eight (8 * i) (padded_name (take len bytes)))
kept_word bytes len i k = ap (λ xs. number 0 (eight (8 * i) xs)) (sym k.padded)

pub kept_order : (a b : List ℕ) (m n : ℕ) → IsKept a m → IsKept b n → slice_cmp nat_cmp a b ≡ slice_cmp nat_cmp (take m a) (take n b)
kept_order a b m n k l =
    let x = take m a in
    let y = take n b in
    ap₂ (slice_cmp nat_cmp) (sym k.padded) (sym l.padded)
    ∙ ended x y (tail x) (tail y) (name_named x k.name) (name_named y l.name) (tail_zeros x) (tail_zeros y)
    (filled x k.name ∙ sym (filled y l.name))
