-- What is above ASCII is not escaped, and a text is escaped character by character.
use Rattle.std.proofs.lemmas.Bool.{ne_eqb}
use Rattle.std.proofs.Common.{◌≡◌, ℕ, suc, ◌<◌, ◌≤◌, List, [], ◌∷◌, ◌++◌, refl, sym, ap, ap₂, ◌∙◌, arith, get_or, length, append-nil, inl, inr}
use Rattle.std.specs.Str.{encode_utf8_all}
use Rattle.std.specs.Char.{encode_utf8}
use Rattle.std.proofs.lemmas.Bool.{cases_lt}
use Rattle.std.proofs.lemmas.Str.{encode_ascii, inside_one, encodes-append}
use Rattle.std.proofs.lemmas.List.Concat.{flat_map-cons}
use Rattle.std.proofs.lemmas.Grind.{flat_map-append}
use Rattle.press_text.specs.Escapes.{escaped_byte, escaped_text}

-- a byte that is none of the five
stays : (b : ℕ) → (b ≡ 38 → ⊥) → (b ≡ 60 → ⊥) → (b ≡ 62 → ⊥) → (b ≡ 34 → ⊥) → (b ≡ 39 → ⊥) → escaped_byte b ≡ b ∷ []
stays b p q r s t = rw (ne_eqb b 38 p, ne_eqb b 60 q, ne_eqb b 62 r, ne_eqb b 34 s, ne_eqb b 39 t) refl

high_stay : (xs : List ℕ) → ((k : ℕ) → k < length xs → 128 ≤ get_or xs k 0) → escaped_text xs ≡ xs
high_stay [] h = refl
high_stay (x ∷ xs) h =
    let high : 128 ≤ x = h 0 (omega arith) in
    flat_map-cons escaped_byte x xs ∙ ap₂ (λ (a b : List ℕ). a ++ b) (stays x (λ e. omega arith) (λ e. omega arith) (λ e. omega arith) (λ e. omega arith) (λ e. omega arith)) (high_stay xs (λ k below. h (suc k) (omega arith)))

pub escaped_char : (c : ℕ) → (c ≡ 38 → ⊥) → (c ≡ 60 → ⊥) → (c ≡ 62 → ⊥) → (c ≡ 34 → ⊥) → (c ≡ 39 → ⊥) → escaped_text (encode_utf8 c) ≡ encode_utf8 c
escaped_char c p q r s t = elim (cases_lt c 128) [
  | inl small ↦ rw (encode_ascii c small) (flat_map-cons escaped_byte c [] ∙ append-nil _ ∙ stays c p q r s t)
  | inr big ↦ high_stay (encode_utf8 c) (λ k below. elim (cases_lt (get_or (encode_utf8 c) k 0) 128) [
    | inl low ↦ absurd (omega (arith, inside_one c [] (encode_utf8 c) k (sym (append-nil _)) below low))
    | inr h ↦ h
  ])
]

pub escaped-append : (xs ys : List ℕ) → escaped_text (xs ++ ys) ≡ escaped_text xs ++ escaped_text ys
escaped-append xs ys = flat_map-append escaped_byte xs ys

-- one more character
pub escaped_more : (cs : List ℕ) (c : ℕ) → escaped_text (encode_utf8_all (cs ++ c ∷ [])) ≡ escaped_text (encode_utf8_all cs) ++ escaped_text (encode_utf8 c)
escaped_more cs c = ap escaped_text (encodes-append cs (c ∷ []) ∙ ap (λ (x : List ℕ). encode_utf8_all cs ++ x) (append-nil (encode_utf8 c))) ∙ escaped-append (encode_utf8_all cs) (encode_utf8 c)
