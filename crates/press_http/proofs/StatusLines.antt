-- A status line is text, and its status has three digits.
use Rattle.std.proofs.Common.{◌≡◌, ◌<◌, ◌≤◌, ◌^◌, ℕ, true, false, Bool, List, length, take, codes, Some, None, if◌then◌else◌, subst, sym, rules, arith, refl}
use Rattle.std.specs.Prelude.{IsUtf8}
use Rattle.std.specs.List.{list_all}
use Rattle.std.specs.Char.{is_ascii_digit}
use Rattle.std.specs.Str.Parse.{digits_value}
use Rattle.std.proofs.lemmas.Bool.{and_parts}
use Rattle.std.proofs.lemmas.Str.{IsUtf8-append, IsUtf8-from_ascii}
use Rattle.std.proofs.lemmas.Str.Parse.{digits_value_short}
use Rattle.press_text.specs.Decimals.{decimal_in}
use Rattle.press_http.specs.StatusLine.{SaysStatus, front_length}
use Rattle.press_http.proofs.Digits.{digits_below, numerals}

record IsRead (digits : List ℕ) (status : ℕ) : Type 0 where
  pub all : list_all is_ascii_digit digits ≡ true
  pub value : status ≡ digits_value 10 digits

taken : (b : Bool) (v n : ℕ) → (if b then Some v else None) ≡ Some n → (b ≡ true) × (n ≡ v)
taken true v n e = (refl, search rules)
taken false v n e = search rules

read : (digits : List ℕ) (status : ℕ) → decimal_in digits ≡ Some status → IsRead digits status
read digits status e =
    let t = taken _ _ _ e in
    record { all = (and_parts _ _ (and_parts _ _ t.0).0).1; value = t.1 }

pub said_is_text : (reply : List ℕ) (status : ℕ) → SaysStatus reply status → IsUtf8 (take front_length reply)
said_is_text reply status (digits, some, front, is) =
    subst IsUtf8 (sym front) (IsUtf8-append (codes "HTTP/1.1 ") digits (search rules) (IsUtf8-from_ascii digits (digits_below digits (read digits status is).all)))

pub said_is_small : (reply : List ℕ) (status : ℕ) → SaysStatus reply status → status < 2 ^ 16
said_is_small reply status (digits, some, front, is) =
    let r = read digits status is in
    let three : length digits ≤ 3 = search (rules, arith) in
    let few = digits_value_short numerals digits 3 r.all three in
    omega (arith, r.value, few)
