-- Numbers of 64 bits as signed ones.
use Rattle.std.proofs.Common.{◌≡◌, ◌≤◌, ◌<◌, ◌^◌, ◌-◌, ℕ, pos, sym, ap, ◌∙◌, inl, inr, arith}
use Rattle.std.specs.Prelude.{nat_lt}
use Rattle.std.proofs.lemmas.Bool.{cases_Bool}
use Rattle.press_store.specs.Owned.{signed_number, unsigned_number}

half_less : (n : ℕ) → n < 2 ^ 64 → 2 ^ 64 - 1 - (2 ^ 64 - 1 - n) ≡ n
half_less n less = omega (arith, less)

pub signed_back : (n : ℕ) → n < 2 ^ 64 → unsigned_number (signed_number n) ≡ n
signed_back n less = elim (cases_Bool (nat_lt n (2 ^ 63))) [
  | inl low ↦ rw low
  | inr high ↦ rw high (half_less n less)
]

pub same_signed : (m n : ℕ) → m < 2 ^ 64 → n < 2 ^ 64 → signed_number m ≡ signed_number n → m ≡ n
same_signed m n a b e = sym (signed_back m a) ∙ ap unsigned_number e ∙ signed_back n b

pub signed_some : (n : ℕ) → 1 ≤ n → n < 2 ^ 64 → signed_number n ≡ pos 0 → ⊥
signed_some n low high e =
    let none : n ≡ 0 = sym (signed_back n high) ∙ ap unsigned_number e in
    omega (arith, low, none)
