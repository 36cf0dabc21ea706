-- The nodes of a new cluster.
use Rattle.std.specs.Prelude.{ℕ, ◌+◌, ◌≡◌, List, [], ◌∷◌, map}
use Rattle.std.specs.List.{AllByRecursion}
use Rattle.press_callbacks.specs.Kits.{KitView, kit_view}
use Rattle.press_callbacks.specs.declared.kit.Kit.{Kit}
use Rattle.press_world.specs.Seats.{Static}

-- what never changes of the members from this one on, by their kits
abbrev pub statics_from : ℕ → ℕ → List KitView → List Static
statics_from id n [] = []
statics_from id n (kit ∷ kits) = record { id = id; members = n; kit = kit } ∷ statics_from (id + 1) n kits

abbrev pub views_of : {t : _} {F : _} {g : _} → List (Kit t F g) → List KitView
views_of kits = map kit_view kits

-- each is this kit
abbrev pub AreKit : KitView → List KitView → Type 0
AreKit kit kits = AllByRecursion (λ k. k ≡ kit) kits
