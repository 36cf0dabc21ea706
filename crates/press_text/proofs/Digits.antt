-- A text of digits alone is read as the number that they write.
use Rattle.std.proofs.Common.{◌≡◌, refl, sym, ◌∙◌, ap, subst, ℕ, ◌<◌, ◌≤◌, ◌^◌, Bool, true, false, cond, ◌&&◌, nat_lt, nat_le, nat_eq, List, [], ◌∷◌, length, Some, None, Result, Ok, Err, arith}
use Rattle.std.specs.List.{list_all}
use Rattle.std.specs.Char.{is_ascii_digit, digit_value}
use Rattle.std.specs.Result.{result_ok}
use Rattle.std.specs.Str.Parse.{digits_value, ParsesUnsigned, IsNumeral, AllDigits, without_leading_plus}
use Rattle.std.proofs.lemmas.Bool.Decides.{nat_tests}
use Rattle.std.proofs.lemmas.Bool.{and_parts}
use borrow.Author.Tests.{ltb-true, leb-true}
use Rattle.press_text.specs.Decimals.{decimal_in}

digit_below : (b : ℕ) → is_ascii_digit b ≡ true → digit_value b < 10
digit_below b e = grind (arith, nat_tests)

all_below : (bytes : List ℕ) → list_all is_ascii_digit bytes ≡ true → AllDigits 10 bytes
all_below [] e = tt
all_below (b ∷ bytes) e = let p = and_parts _ _ e in (digit_below b p.0, all_below bytes p.1)

no_plus : (bytes : List ℕ) → list_all is_ascii_digit bytes ≡ true → without_leading_plus bytes ≡ bytes
no_plus [] e = refl
no_plus (b ∷ bytes) e =
    let d : is_ascii_digit b ≡ true = (and_parts _ _ e).0 in
    let f : nat_eq b 43 ≡ false = grind (arith, nat_tests) in
    rw f refl

some_where : (t : Bool) (n : ℕ) → t ≡ true → cond t (Some n) None ≡ Some n
some_where true n e = refl
some_where false n e = cc

none_where : (t : Bool) (n : ℕ) → (t ≡ true → ⊥) → cond t (Some n) None ≡ None
none_where true n h = absurd (h refl)
none_where false n h = refl

all_true : (a b c d : Bool) → a ≡ true → b ≡ true → c ≡ true → d ≡ true → ((a && b && c) && d) ≡ true
all_true true true true true p q r s = refl
all_true true true true false p q r s = s
all_true true true false d p q r s = cc
all_true true false c d p q r s = cc
all_true false b c d p q r s = cc

-- a text that is too long or holds another byte
pub no_decimal : (bytes : List ℕ) → (length bytes ≤ 20 → list_all is_ascii_digit bytes ≡ true → ⊥) → decimal_in bytes ≡ None
no_decimal bytes h = none_where _ _ (λ t. let p = and_parts _ _ (and_parts _ _ t).0 in let q = and_parts _ _ p.0 in h (leb-true _ _ q.1) p.1)

pub parsed : {E : Type 0} (bytes : List ℕ) (r : Result ℕ E) → length bytes ≤ 20 → list_all is_ascii_digit bytes ≡ true → ParsesUnsigned 64 10 bytes r → result_ok r ≡ decimal_in bytes
parsed bytes (Ok x) h e p =
    let n : (0 < length bytes) × AllDigits 10 bytes = subst (IsNumeral 10) (no_plus bytes e) p.0.0 in
    let small : digits_value 10 bytes < 2 ^ 64 = subst (λ (ds : List ℕ). digits_value 10 ds < 2 ^ 64) (no_plus bytes e) p.0.1 in
    let value : x ≡ digits_value 10 bytes = p.1 ∙ ap (digits_value 10) (no_plus bytes e) in
    let some : nat_lt 0 (length bytes) ≡ true = grind (arith, nat_tests, n.0) in
    let few : nat_le (length bytes) 20 ≡ true = grind (arith, nat_tests) in
    let fits : nat_lt (digits_value 10 bytes) (2 ^ 64) ≡ true = grind (arith, nat_tests) in
    ap (λ (k : ℕ). Some k) value ∙ sym (some_where _ _ (all_true _ _ _ _ some few e fits))
parsed bytes (Err f) h e p =
    sym (none_where _ _ (λ t.
    let a = and_parts _ _ t in
    let b = and_parts _ _ (and_parts _ _ a.0).0 in
    let own : IsNumeral 10 bytes × (digits_value 10 bytes < 2 ^ 64) = ((ltb-true _ _ b.0, all_below bytes e), ltb-true _ _ a.1) in
    p (subst (λ (ds : List ℕ). IsNumeral 10 ds × (digits_value 10 ds < 2 ^ 64)) (sym (no_plus bytes e)) own)))
