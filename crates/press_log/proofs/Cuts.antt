-- Pieces of a list, and that no number of a log has a fraction.
use Rattle.std.proofs.Common.{ℕ, zero, suc, ◌≡◌, ◌≤◌, ◌<◌, ◌+◌, ◌-◌, ◌∙◌, ◌⊎◌, inl, inr, min, false, List, [], ◌∷◌, length, map, take, drop, take_all, drop_of_length-le, length-drop, refl, sym, ap, arith}
use Rattle.std.proofs.lemmas.Bool.{cases_lt}
use Rattle.serde_json.specs.View.{items_of}
use Rattle.serde_json.specs.Written.{has_float, items_have_float}
use Rattle.press_apply.specs.declared.value.Value.{Value}
use Rattle.press_apply.specs.declared.value.Value.TheVariants as value
use Rattle.press_apply.specs.declared.command.Command.TheVariants as command
use Rattle.press_log.specs.Log.{entry_data, log_data}

-- ---- pieces

none_of : {A : Type 0} (n : ℕ) → take {A = A} n [] ≡ []
none_of zero = refl
none_of (suc n) = refl

-- as many as there are, where there are fewer
first_of : {A : Type 0} (n k : ℕ) (xs : List A) → k ≡ min n (length xs) → take k xs ≡ take n xs
first_of n k xs e = go (cases_lt n (length xs))
  where
    go : (n < length xs) ⊎ (length xs ≤ n) → take k xs ≡ take n xs
    go (inl h) = ap (λ m. take m xs) (omega (arith, e, h))
    go (inr h) = take_all k xs (omega (arith, e, h)) ∙ sym (take_all n xs h)

-- the first so many behind a place that is no further than the end
pub piece : {A : Type 0} (xs : List A) (n from first end : ℕ) → first ≡ min from (length xs) → end ≡ min (first + n) (length xs) → take (end - first) (drop first xs) ≡ take n (drop from xs)
piece xs n from first end f e = go (cases_lt from (length xs))
  where
    go : (from < length xs) ⊎ (length xs ≤ from) → take (end - first) (drop first xs) ≡ take n (drop from xs)
    go (inl h) =
        let is : first ≡ from = omega (arith, f, h) in
        first_of n (end - first) (drop first xs) (omega (arith, e, length-drop first xs)) ∙ ap (λ m. take n (drop m xs)) is
    go (inr h) =
        ap (take (end - first)) (drop_of_length-le xs (omega (arith, f, h))) ∙ none_of (end - first) ∙ sym (none_of n) ∙ sym (ap (take n) (drop_of_length-le xs h))

-- ---- no number has a fraction

no_float_entry : (v : Value) → has_float (entry_data v) ≡ false
no_float_entry (value.Noop at) = refl
no_float_entry (value.Cmd s) = elim s.command as (λ c. has_float (entry_data (value.Cmd (record s { command = c }))) ≡ false) [
  | command.Insert d ↦ refl
  | command.Update id d ↦ refl
  | command.Trash id ↦ refl
  | command.Untrash id ↦ refl
  | command.Delete id ↦ refl
  | command.SetOption n t ↦ refl
  | command.Activate p ↦ refl
  | command.Deactivate p ↦ refl
  | command.Tick ↦ refl
  | command.Profile p ↦ refl
]

no_float_entries : (values : List Value) → items_have_float (items_of (map entry_data values)) ≡ false
no_float_entries [] = refl
no_float_entries (v ∷ vs) = rw (no_float_entry v, no_float_entries vs) refl

pub no_float_log : (values : List Value) (from : ℕ) → has_float (log_data values from) ≡ false
no_float_log values from = rw (no_float_entries (take 64 (drop from values))) refl
