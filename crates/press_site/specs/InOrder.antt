-- Whether names stand in their order (own).
use Rattle.std.specs.Prelude.{ℕ, List, [], ◌∷◌, Bool, true, not, ◌&&◌}
use Rattle.std.specs.List.{list_all}
use Rattle.press_text.specs.NameOrder.{is_before}

-- whether no name stands before an earlier one
abbrev pub in_order : List (List ℕ) → Bool
in_order [] = true
in_order (n ∷ ns) = list_all (λ m. not (is_before m n)) ns && in_order ns
