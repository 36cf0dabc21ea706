-- Tests of words that are borrowed, and of the keys of an object.
use Rattle.std.proofs.Common.{◌≡◌, Bool, true, false, not, cond, List, [], ◌∷◌, ℕ, map, Option, Some, None, refl, ap}
use Rattle.std.specs.Prelude.{◌||◌, String, find, option_map, string_bytes}
use Rattle.std.specs.List.{list_any}
use Rattle.std.specs.Map.{keys_of}
use Rattle.std.specs.declared.alloc.Global.{Global}
use Rattle.serde_json.specs.View.{members_view}
use Rattle.serde_json.specs.declared.value.Value.{Value}
use Rattle.press_kit.specs.Fields.{is_one_of}
use Rattle.press_lint.specs.Bad.{unknown_key}

pub any_mapped : {X Y : Type 0} (p : Y → Bool) (h : X → Y) (xs : List X) → list_any (λ x. p (h x)) xs ≡ list_any p (map h xs)
any_mapped p h [] = refl
any_mapped p h (x ∷ xs) = ap (λ (b : Bool). p (h x) || b) (any_mapped p h xs)

pub mapped_twice : {A B C : Type 0} (f : A → B) (g : B → C) (o : Option A) → option_map (λ x. g (f x)) o ≡ option_map g (option_map f o)
mapped_twice f g None = refl
mapped_twice f g (Some x) = refl

pub first_unknown : (keys : List (List ℕ)) (ms : List (String Global × Value)) → option_map string_bytes (find (λ s. not (is_one_of keys (string_bytes s))) (keys_of ms)) ≡ unknown_key keys (members_view ms)
first_unknown keys [] = refl
first_unknown keys (m ∷ ms) = go (is_one_of keys (string_bytes m.0)) (first_unknown keys ms)
  where
    go : (b : Bool) → option_map string_bytes (find (λ s. not (is_one_of keys (string_bytes s))) (keys_of ms)) ≡ unknown_key keys (members_view ms)
        → option_map string_bytes (cond (not b) (Some m.0) (find (λ s. not (is_one_of keys (string_bytes s))) (keys_of ms))) ≡ cond b (unknown_key keys (members_view ms)) (Some (string_bytes m.0))
    go true h = h
    go false h = refl
