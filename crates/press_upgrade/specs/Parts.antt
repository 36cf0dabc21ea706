-- How a part of one kit, a callback or a plugin, stands among those of another: by its name there (own).
use Rattle.std.specs.Prelude.{◌≡◌, ◌≢◌, ℕ, List, [], ◌∷◌, cond, bytes_eq, slice_get, take, Option, Some, None, MatchOption}
use Rattle.std.specs.List.{AllByRecursion}
use Rattle.press_upgrade.specs.declared.part.Loss.{Loss}
use Rattle.press_upgrade.specs.declared.part.Loss.TheVariants.{Other, Gone}

-- the first part of that name
abbrev pub part_of : {A : Type 0} → (A → List ℕ) → List ℕ → List A → Option A
part_of title name [] = None
part_of title name (x ∷ xs) = cond (bytes_eq (title x) name) (Some x) (part_of title name xs)

-- it is there as it is, or another part has its name, or none has
abbrev pub Stands : {A : Type 0} → (A → List ℕ) → List A → A → Option Loss → Type 0
Stands title among x None = part_of title (title x) among ≡ Some x
Stands {A} title among x (Some Other) = (y : A) × (part_of title (title x) among ≡ Some y) × (y ≢ x)
Stands title among x (Some Gone) = part_of title (title x) among ≡ None

-- all of them are there as they are
abbrev pub AreKept : {A : Type 0} → (A → List ℕ) → List A → List A → Type 0
AreKept title among xs = AllByRecursion (λ x. Stands title among x None) xs

-- this is the first of them that isn't, and why
abbrev pub IsFirstLost : {A : Type 0} → (A → List ℕ) → List A → List A → A → Loss → Type 0
IsFirstLost title among xs x loss = (i : ℕ) × (slice_get xs i ≡ Some x) × AreKept title among (take i xs) × Stands title among x (Some loss)

abbrev pub FindsLoss : {A : Type 0} → (A → List ℕ) → List A → List A → Option (A × Loss) → Type 0
FindsLoss title among xs found = MatchOption found (AreKept title among xs) (λ lost. IsFirstLost title among xs lost.0 lost.1)
