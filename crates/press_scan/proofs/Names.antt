-- A name among the registered tags.
use Rattle.std.proofs.Common.{◌≡◌, ℕ, List, [], ◌∷◌, ◌||◌, true, bytes_eq, sym, ap, refl, Contains}
use Rattle.std.specs.List.{list_any}
use Rattle.std.proofs.lemmas.List.Folds.{list_any_at}
use Rattle.std.proofs.lemmas.Map.Views.{Contains-from_any}
use Rattle.std.proofs.lemmas.Slice.Eq.{bytes_eq-Decides}
use Rattle.press_scan.specs.Tags.{is_tag, names_of}
use Rattle.press_scan.specs.declared.tag_row.TagRow.{TagRow}

pub registered_true : (name : List ℕ) (names : List (List ℕ)) → list_any (bytes_eq name) names ≡ true → Contains names name
registered_true name names e = Contains-from_any (λ x y s. (bytes_eq-Decides x y).0 s) name names e

pub registered_from : (name : List ℕ) (names : List (List ℕ)) → Contains names name → list_any (bytes_eq name) names ≡ true
registered_from name names c = list_any_at (bytes_eq name) names c.0 name c.1 ((bytes_eq-Decides _ _).1 (sym c.2))

pub any_names : (name : List ℕ) (rows : List TagRow) → list_any (is_tag name) rows ≡ list_any (bytes_eq name) (names_of rows)
any_names name [] = refl
any_names name (r ∷ rs) = ap (λ b. bytes_eq name r.name || b) (any_names name rs)
