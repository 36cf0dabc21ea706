-- The entries of a map's clone are those of the map.
use Rattle.std.proofs.Common.{◌≡◌, refl, ℕ, List, [], ◌∷◌}
use Rattle.std.specs.Prelude.{String, string_bytes}
use Rattle.std.specs.List.{AllZip}
use Rattle.press_site.specs.Options.{by_bytes}

-- where keys are cloned as they are, and so are values
pub same_entries : {K X : Type 0} (D : X → X → Type 0) → ((x y : X) → D x y → y ≡ x) → (es fs : List (K × X)) → AllZip (λ p q. (q.0 ≡ p.0) × D p.1 q.1) es fs → fs ≡ es
same_entries D same [] [] z = refl
same_entries D same [] (f ∷ fs) z = absurd z
same_entries D same (e ∷ es) [] z = absurd z
same_entries D same (e ∷ es) (f ∷ fs) z = λ i. (z.0.0 i, same e.1 f.1 z.0.1 i) ∷ same_entries D same es fs z.1 i

-- where a key's clone has its bytes
pub same_by_bytes : {S : Type 0} (es fs : List (String S × List ℕ)) → AllZip (λ p q. (string_bytes q.0 ≡ string_bytes p.0) × (q.1 ≡ p.1)) es fs → by_bytes fs ≡ by_bytes es
same_by_bytes [] [] z = refl
same_by_bytes [] (f ∷ fs) z = absurd z
same_by_bytes (e ∷ es) [] z = absurd z
same_by_bytes (e ∷ es) (f ∷ fs) z = λ i. (z.0.0 i, z.0.1 i) ∷ same_by_bytes es fs z.1 i
