-- Digits are text, and are read as the number that they write.
use Rattle.std.proofs.Common.{◌≡◌, ℕ, zero, suc, ◌<◌, ◌≤◌, ◌^◌, true, List, [], ◌∷◌, length, get_or, Ok, Err, MatchOption, rules, arith}
use Rattle.std.specs.Prelude.{Result, IsUtf8}
use Rattle.std.specs.List.{list_all}
use Rattle.std.specs.Char.{is_ascii_digit}
use Rattle.std.specs.Result.{result_ok}
use Rattle.std.specs.Str.Parse.{digits_value, ParsesUnsigned}
use Rattle.std.proofs.lemmas.Bool.Decides.{nat_tests}
use Rattle.std.proofs.lemmas.Bool.{and_parts}
use Rattle.std.proofs.lemmas.Str.{IsUtf8-from_ascii}
use Rattle.std.proofs.lemmas.Str.Parse.{IsNumeralModel, numerals_by_value, parse_digits}
use Rattle.std.proofs.Math.Nat.{lt_of_not-le}
use borrow.Author.Tests.{ltb-true}
use Rattle.press_http.specs.Bodies.{are_digits}

pub numerals : IsNumeralModel (λ ds. list_all is_ascii_digit ds ≡ true) (digits_value 10)
numerals = numerals_by_value _ (search rules)

-- a digit is below 128, so that digits are ASCII
pub digits_below : (bs : List ℕ) → list_all is_ascii_digit bs ≡ true → (i : ℕ) → get_or bs i 0 < 128
digits_below [] e i = omega arith
digits_below (b ∷ bs) e zero = let d : is_ascii_digit b ≡ true = (and_parts _ _ e).0 in grind (arith, nat_tests)
digits_below (b ∷ bs) e (suc i) = digits_below bs (and_parts _ _ e).1 i

pub digits_are_text : (bs : List ℕ) → are_digits bs ≡ true → IsUtf8 bs
digits_are_text bs e = IsUtf8-from_ascii bs (digits_below bs (and_parts _ _ e).1)

not_below : (a b : ℕ) → (a < b → ⊥) → b ≤ a
not_below a b h = let over : b < suc a = lt_of_not-le h in omega (arith, over)

pub number_read : {E : Type 0} (bs : List ℕ) (r : Result ℕ E) → are_digits bs ≡ true → ParsesUnsigned 64 10 bs r
    → MatchOption (result_ok r) (2 ^ 64 ≤ digits_value 10 bs) (λ n. n ≡ digits_value 10 bs)
number_read {E = E} bs (Ok n) e p = (parse_digits numerals {E = E} 64 bs (Ok n) p (and_parts _ _ e).1).1
number_read {E = E} bs (Err f) e p =
    let some : 0 < length bs = ltb-true _ _ (and_parts _ _ e).0 in
    let no = parse_digits numerals {E = E} 64 bs (Err f) p (and_parts _ _ e).1 in
    not_below (digits_value 10 bs) (2 ^ 64) (λ h. no (some, h))
