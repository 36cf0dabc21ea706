-- The keys of an object.
use Rattle.std.proofs.Common.{◌≡◌, ℕ, Bool, List, [], ◌∷◌, map, refl, ap}
use Rattle.std.specs.Prelude.{String, string_bytes, ◌||◌, ◌&&◌}
use Rattle.std.specs.List.{list_any, list_all}
use Rattle.std.specs.declared.alloc.Global.{Global}
use Rattle.std.specs.Map.{keys_of}
use Rattle.serde_json.specs.View.{members_view}
use Rattle.serde_json.specs.declared.value.Value.{Value}
use Rattle.press_kit.specs.Fields.{keys_in}

pub any_mapped : {X Y : Type 0} (p : Y → Bool) (h : X → Y) (xs : List X) → list_any (λ x. p (h x)) xs ≡ list_any p (map h xs)
any_mapped p h [] = refl
any_mapped p h (x ∷ xs) = ap (λ (b : Bool). p (h x) || b) (any_mapped p h xs)

pub all_keys : (p : List ℕ → Bool) (ms : List (String Global × Value)) → list_all (λ s. p (string_bytes s)) (keys_of ms) ≡ list_all p (keys_in (members_view ms))
all_keys p [] = refl
all_keys p (m ∷ ms) = ap (λ (b : Bool). p (string_bytes m.0) && b) (all_keys p ms)
