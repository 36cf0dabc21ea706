-- Things with a name in the order of their names, byte by byte.
use Rattle.std.specs.Prelude.{ℕ, suc, List, [], ◌∷◌, length, Bool, true, false, not, ◌||◌, ◌&&◌, cond, bytes_eq, insert, position, unwrap_or, Option, Some, None, option_map}
use Rattle.std.specs.List.{list_any, list_all}
use Rattle.press_text.specs.NameOrder.{is_before}

-- before the first of a later name, or last
abbrev pub place_by_name : {T : Type 0} → (T → List ℕ) → T → List T → ℕ
place_by_name name x xs = unwrap_or (position (λ y. is_before (name x) (name y)) xs) (length xs)

abbrev pub put_by_name : {T : Type 0} → (T → List ℕ) → T → List T → List T
put_by_name name x xs = insert xs (place_by_name name x xs) x

abbrev pub by_name : {T : Type 0} → (T → List ℕ) → List T → List T
by_name name [] = []
by_name name (x ∷ xs) = put_by_name name x (by_name name xs)

-- whether no name stands before an earlier one
abbrev pub in_order : {T : Type 0} → (T → List ℕ) → List T → Bool
in_order name [] = true
in_order name (x ∷ xs) = list_all (λ y. not (is_before (name y) (name x))) xs && in_order name xs

-- whether a name stands twice
abbrev pub has_two : {T : Type 0} → (T → List ℕ) → List T → Bool
has_two name [] = false
has_two name (x ∷ xs) = list_any (λ y. bytes_eq (name y) (name x)) xs || has_two name xs

-- where the first of that name stands
abbrev pub place_of : {T : Type 0} → (T → List ℕ) → List ℕ → List T → Option ℕ
place_of name n [] = None
place_of name n (x ∷ xs) = cond (bytes_eq (name x) n) (Some 0) (option_map suc (place_of name n xs))
