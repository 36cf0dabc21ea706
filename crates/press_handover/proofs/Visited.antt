-- Values shown one after the other.
use Rattle.std.proofs.Common.{◌≡◌, ℕ, ◌+◌, ◌<◌, ◌≤◌, List, [], ◌∷◌, ◌++◌, length, get_or, drop, refl, sym, subst}
use Rattle.std.proofs.Math.ListN.{drop_of_length-le}
use Rattle.press_apply.specs.declared.value.Value.{Value}
use Rattle.press_handover.specs.Voted.{Visits}
use Rattle.press_handover.proofs.Pieces.{next_is}

module _ {V : Type 0} (one : V → Value → V → Type 0) where
  pub joined : (xs ys : List Value) (old mid new : V) → Visits one old xs mid → Visits one mid ys new → Visits one old (xs ++ ys) new
  joined [] ys old mid new h k = subst (λ (v : V). Visits one v ys new) (sym h) k
  joined (x ∷ xs) ys old mid new h k = (h.0, h.1, joined xs ys h.0 mid new h.2 k)

  -- one more value, as a loop shows it
  pub turns : (xs : List Value) (i : ℕ) (x : Value) (old next new : V) → i < length xs → x ≡ get_or xs i x → one old x next → Visits one next (drop (i + 1) xs) new
      → Visits one old (drop i xs) new
  turns xs i x old next new lt here step rest = subst (λ (ys : List Value). Visits one old ys new) (sym (next_is xs i x lt here)) (next, step, rest)

  pub rests : (xs : List Value) (i : ℕ) (v : V) → length xs ≤ i → Visits one v (drop i xs) v
  rests xs i v le = subst (λ (ys : List Value). Visits one v ys v) (sym (drop_of_length-le xs le)) refl
