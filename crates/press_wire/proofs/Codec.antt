-- A reader and a speller that undo each other, and how such pairs are put together.
use Rattle.std.proofs.Common.{◌≡◌, ℕ, suc, ◌+◌, Bool, true, false, cond, List, [], ◌∷◌, ◌++◌, length, take, drop, Option, Some, None, Result, Ok, Err, refl, sym, ap, subst, ◌∙◌, append_assoc, arith, inl, inr, eqb}
use Rattle.std.proofs.lemmas.Bool.{cases_lt, eqb-true}
use Rattle.std.proofs.lemmas.List.{get_or-drop, get_or-take, get_or_past, length-take, take_at}
use Rattle.press_wire.specs.declared.fault.WireFault.{WireFault}
use Rattle.press_wire.specs.Fields.{◌>>=◌, or_fault, checked_at}
use Rattle.press_wire.specs.Held.{IsBytes}
use Rattle.press_wire.specs.Ranges.{only}

pub IsBytes-drop : (n : ℕ) (bytes : List ℕ) → IsBytes bytes → IsBytes (drop n bytes)
IsBytes-drop n bytes h i = rw get_or-drop (h (n + i))

pub IsBytes-take : (n : ℕ) (bytes : List ℕ) → IsBytes bytes → IsBytes (take n bytes)
IsBytes-take n bytes h i =
    elim (cases_lt i n) [
      | inl lt ↦ rw (get_or-take n bytes i 0 lt) (h i)
      | inr le ↦ rw (get_or_past (take n bytes) i 0 (omega (arith, length-take n bytes))) (omega arith)
    ]

pub IsBytes-rest : (b : ℕ) (bytes : List ℕ) → IsBytes (b ∷ bytes) → IsBytes bytes
IsBytes-rest b bytes h i = h (suc i)

pub IsBytes-front : (xs ys : List ℕ) → IsBytes (xs ++ ys) → IsBytes xs
IsBytes-front xs ys h = subst IsBytes (take_at xs ys (length xs) refl) (IsBytes-take (length xs) (xs ++ ys) h)

pub IsBytes-back : (xs ys : List ℕ) → IsBytes (xs ++ ys) → IsBytes ys
IsBytes-back [] ys h = h
IsBytes-back (x ∷ xs) ys h = IsBytes-back xs ys (λ i. h (suc i))

-- what was read off the front is spelled so
pub record Takes {A : Type 0} (spell : A → List ℕ) (Fits : A → Type 0) (bytes : List ℕ) (v : A) (rest : List ℕ) : Type 0 where
  pub parts : bytes ≡ spell v ++ rest
  pub rest_fits : IsBytes rest
  pub fits : Fits v

-- what is read is spelled so, and what is spelled so is read
pub record Codec {A : Type 0} (at : List ℕ → Result (A × List ℕ) WireFault) (spell : A → List ℕ) (Fits : A → Type 0) : Type 0 where
  pub takes : (bytes : List ℕ) (v : A) (rest : List ℕ) → IsBytes bytes → at bytes ≡ Ok (v, rest) → Takes spell Fits bytes v rest
  pub again : (v : A) (rest : List ℕ) → Fits v → at (spell v ++ rest) ≡ Ok (v, rest)

-- ---- steps

abbrev done : {A : Type 0} → A → Result A WireFault
done x = Ok x

pub ok_is : {A : Type 0} (x y : A) → done x ≡ done y → x ≡ y
ok_is x y e = cc

-- the value of a step that did not fail
pub bind_ok : {A B : Type 0} (r : Result A WireFault) (f : A → Result B WireFault) (y : B) → (r >>= f) ≡ Ok y → (x : A) × (r ≡ Ok x) × (f x ≡ Ok y)
bind_ok (Ok x) f y e = (x, refl, e)
bind_ok (Err d) f y e = absurd cc

-- a step that read a value, and what is still read
pub record Step {A Y : Type 0} (spell : A → List ℕ) (Fits : A → Type 0) (f : A × List ℕ → Result Y WireFault) (y : Y) (bytes : List ℕ) : Type 0 where
  pub value : A
  pub rest : List ℕ
  pub took : Takes spell Fits bytes value rest
  pub next : f (value, rest) ≡ Ok y

pub step : {A Y : Type 0} {at : List ℕ → Result (A × List ℕ) WireFault} {spell : A → List ℕ} {Fits : A → Type 0} (codec : Codec at spell Fits) (f : A × List ℕ → Result Y WireFault) (y : Y) (bytes : List ℕ)
    → IsBytes bytes → (at bytes >>= f) ≡ Ok y → Step spell Fits f y bytes
step {at = at} codec f y bytes fits e =
    let b = bind_ok (at bytes) f y e in
    record { value = b.0.0; rest = b.0.1; took = codec.takes bytes b.0.0 b.0.1 fits b.1; next = b.2 }

pub step_again : {A Y : Type 0} {at : List ℕ → Result (A × List ℕ) WireFault} {spell : A → List ℕ} {Fits : A → Type 0} (codec : Codec at spell Fits) (f : A × List ℕ → Result Y WireFault) (v : A) (rest : List ℕ)
    → Fits v → (at (spell v ++ rest) >>= f) ≡ f (v, rest)
step_again codec f v rest fits = rw (codec.again v rest fits) refl

-- one piece and then another
pub join : (a x b y c : List ℕ) → a ≡ x ++ b → b ≡ y ++ c → a ≡ (x ++ y) ++ c
join a x b y c p q = p ∙ ap (λ (t : List ℕ). x ++ t) q ∙ sym (append_assoc x y c)

-- ---- fields that have to be one of some

or_ok : {A : Type 0} (fault : WireFault) (o : Option A) (rest : List ℕ) (y : A × List ℕ) → or_fault fault o rest ≡ Ok y → (o ≡ Some y.0) × (rest ≡ y.1)
or_ok fault None rest y e = absurd cc
or_ok fault (Some x) rest y e = let same = ok_is (x, rest) y e in (ap (λ (p : _ × List ℕ). Some p.0) same, ap (λ (p : _ × List ℕ). p.1) same)

pub checked_codec : {A B : Type 0} {at : List ℕ → Result (A × List ℕ) WireFault} {spell : A → List ℕ} {Fits : A → Type 0} (codec : Codec at spell Fits) (fault : WireFault) (of : A → Option B) (name : B → A)
    → ((a : A) (b : B) → of a ≡ Some b → a ≡ name b) → Codec (checked_at fault of at) (λ b. spell (name b)) (λ b. Fits (name b) × (of (name b) ≡ Some b))
checked_codec {A = A} {spell = spell} {Fits = Fits} codec fault of name named = record {
  takes = λ bytes v rest fits e.
      let s = step codec (λ x. or_fault fault (of x.0) x.1) (v, rest) bytes fits e in
      let w = or_ok fault (of s.value) s.rest (v, rest) s.next in
      let same : s.value ≡ name v = named s.value v w.0 in
      record {
        parts = s.took.parts ∙ ap (λ (a : A). spell a ++ s.rest) same ∙ ap (λ (r : List ℕ). spell (name v) ++ r) w.1;
        rest_fits = subst IsBytes w.1 s.took.rest_fits;
        fits = (subst Fits same s.took.fits, subst (λ (a : A). of a ≡ Some v) same w.0);
      };
  again = λ v rest fits. step_again codec (λ x. or_fault fault (of x.0) x.1) (name v) rest fits.0 ∙ rw fits.1 refl;
}

chosen : {A : Type 0} (t : Bool) (a b : A) → cond t (Some a) None ≡ Some b → (t ≡ true) × (a ≡ b)
chosen true a b e = (refl, cc)
chosen false a b e = absurd cc

pub only_named : {A : Type 0} (test : A → Bool) (a b : A) → only test a ≡ Some b → a ≡ b
only_named test a b e = (chosen (test a) a b e).1

pub only_passes : {A : Type 0} (test : A → Bool) (a b : A) → only test a ≡ Some b → test a ≡ true
only_passes test a b e = (chosen (test a) a b e).0

pub passes_only : {A : Type 0} (test : A → Bool) (a : A) → test a ≡ true → only test a ≡ Some a
passes_only test a e = rw e refl

-- one more of the numbers that stand for something
found : {B : Type 0} (n k : ℕ) (x b : B) (number : B → ℕ) (more : Option B) (t : Bool) → eqb n k ≡ t → number x ≡ k → (more ≡ Some b → n ≡ number b) → cond t (Some x) more ≡ Some b → n ≡ number b
found n k x b number more true e is others same = let x-is : x ≡ b = cc in eqb-true n k e ∙ sym is ∙ ap number x-is
found n k x b number more false e is others same = others same

pub or_next : {B : Type 0} (number : B → ℕ) (n k : ℕ) (x b : B) (more : Option B) → number x ≡ k → (more ≡ Some b → n ≡ number b) → cond (eqb n k) (Some x) more ≡ Some b → n ≡ number b
or_next number n k x b more is others same = found n k x b number more (eqb n k) refl is others same

pub or_none : {B : Type 0} (number : B → ℕ) (n : ℕ) (b : B) → None ≡ Some b → n ≡ number b
or_none number n b e = absurd cc

-- ---- readers in a row

-- the same reader under other words
pub recast : {A : Type 0} {at : List ℕ → Result (A × List ℕ) WireFault} {spell : A → List ℕ} {Fits : A → Type 0} (codec : Codec at spell Fits) (at' : List ℕ → Result (A × List ℕ) WireFault) (spell' : A → List ℕ) (Fits' : A → Type 0)
    → ((bytes : List ℕ) → at' bytes ≡ at bytes) → ((v : A) → spell' v ≡ spell v) → ((v : A) → Fits v → Fits' v) → ((v : A) → Fits' v → Fits v) → Codec at' spell' Fits'
recast codec at' spell' Fits' same_at same_spell into back = record {
  takes = λ bytes v rest fits e.
      let t = codec.takes bytes v rest fits (sym (same_at bytes) ∙ e) in
      record { parts = t.parts ∙ ap (λ (s : List ℕ). s ++ rest) (sym (same_spell v)); rest_fits = t.rest_fits; fits = into v t.fits };
  again = λ v rest fits. same_at (spell' v ++ rest) ∙ rw (same_spell v) (codec.again v rest (back v fits));
}

abbrev pub mapped : {A B : Type 0} → (List ℕ → Result (A × List ℕ) WireFault) → (A → B) → List ℕ → Result (B × List ℕ) WireFault
mapped at f bytes = at bytes >>= λ x. Ok (f x.0, x.1)

-- a value made of what one reader gives
pub mapped_codec : {A B : Type 0} {at : List ℕ → Result (A × List ℕ) WireFault} {spell : A → List ℕ} {Fits : A → Type 0} (codec : Codec at spell Fits) (f : A → B) (spell' : B → List ℕ) (Fits' : B → Type 0)
    → ((a : A) → spell' (f a) ≡ spell a) → ((a : A) → Fits a → Fits' (f a)) → ((b : B) → Fits' b → (a : A) × (b ≡ f a) × Fits a) → Codec (mapped at f) spell' Fits'
mapped_codec {A = A} {B = B} {at = at} {spell = spell} codec f spell' Fits' same into back = record {
  takes = λ bytes v rest fits e.
      let s = step codec (λ x. Ok (f x.0, x.1)) (v, rest) bytes fits e in
      let made : Takes spell' Fits' bytes (f s.value) s.rest =
      record { parts = s.took.parts ∙ ap (λ (t : List ℕ). t ++ s.rest) (sym (same s.value)); rest_fits = s.took.rest_fits; fits = into s.value s.took.fits } in
      subst (λ (p : B × List ℕ). Takes spell' Fits' bytes p.0 p.1) (ok_is (f s.value, s.rest) (v, rest) s.next) made;
  again = λ v rest fits.
      let o = back v fits in
      let spelled : spell' v ≡ spell o.0 = ap spell' o.1 ∙ same o.0 in
      ap (λ (t : List ℕ). mapped at f (t ++ rest)) spelled ∙ step_again codec (λ x. Ok (f x.0, x.1)) o.0 rest o.2 ∙ ap (λ (b : B). done (b, rest)) (sym o.1);
}

abbrev pub paired : {A B C : Type 0} → (List ℕ → Result (A × List ℕ) WireFault) → (List ℕ → Result (B × List ℕ) WireFault) → (A → B → C) → List ℕ → Result (C × List ℕ) WireFault
paired first second f bytes = first bytes >>= λ x. second x.1 >>= λ y. Ok (f x.0 y.0, y.1)

-- a value made of what two readers give, one after the other
pub paired_codec : {A B C : Type 0} {first : List ℕ → Result (A × List ℕ) WireFault} {second : List ℕ → Result (B × List ℕ) WireFault} {spell1 : A → List ℕ} {spell2 : B → List ℕ} {Fits1 : A → Type 0} {Fits2 : B → Type 0}
    (codec1 : Codec first spell1 Fits1) (codec2 : Codec second spell2 Fits2) (f : A → B → C) (spell' : C → List ℕ) (Fits' : C → Type 0)
    → ((a : A) (b : B) → spell' (f a b) ≡ spell1 a ++ spell2 b) → ((a : A) (b : B) → Fits1 a → Fits2 b → Fits' (f a b)) → ((c : C) → Fits' c → (a : A) × (b : B) × (c ≡ f a b) × Fits1 a × Fits2 b)
    → Codec (paired first second f) spell' Fits'
paired_codec {C = C} {first = first} {second = second} {spell1 = spell1} {spell2 = spell2} codec1 codec2 f spell' Fits' same into back = record {
  takes = λ bytes v rest fits e.
      let s = step codec1 (λ x. second x.1 >>= λ y. Ok (f x.0 y.0, y.1)) (v, rest) bytes fits e in
      let t = step codec2 (λ y. Ok (f s.value y.0, y.1)) (v, rest) s.rest s.took.rest_fits s.next in
      let made : Takes spell' Fits' bytes (f s.value t.value) t.rest = record {
        parts = join bytes (spell1 s.value) s.rest (spell2 t.value) t.rest s.took.parts t.took.parts ∙ ap (λ (l : List ℕ). l ++ t.rest) (sym (same s.value t.value));
        rest_fits = t.took.rest_fits;
        fits = into s.value t.value s.took.fits t.took.fits;
      } in
      subst (λ (p : C × List ℕ). Takes spell' Fits' bytes p.0 p.1) (ok_is (f s.value t.value, t.rest) (v, rest) t.next) made;
  again = λ v rest fits.
      let o = back v fits in
      let spelled : spell' v ++ rest ≡ spell1 o.0 ++ (spell2 o.1 ++ rest) =
      ap (λ (l : List ℕ). l ++ rest) (ap spell' o.2 ∙ same o.0 o.1) ∙ append_assoc (spell1 o.0) (spell2 o.1) rest in
      ap (paired first second f) spelled ∙ step_again codec1 (λ x. second x.1 >>= λ y. Ok (f x.0 y.0, y.1)) o.0 (spell2 o.1 ++ rest) o.3
      ∙ step_again codec2 (λ y. Ok (f o.0 y.0, y.1)) o.1 rest o.4 ∙ ap (λ (c : C). done (c, rest)) (sym o.2);
}
