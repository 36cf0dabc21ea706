-- Fields whose names are written as they are.
use Rattle.std.proofs.Common.{◌≡◌, ℕ, List, ◌∷◌, subst}
use Rattle.std.specs.Prelude.{All}
use Rattle.std.proofs.lemmas.List.Elements.{All-tail}
use Rattle.form_urlencoded.specs.Form.{IsPlainText}

-- what is left of such fields behind the first
pub plain_rest : (all : List (List ℕ × List ℕ)) (pair : List ℕ × List ℕ) (pairs : List (List ℕ × List ℕ)) → all ≡ pair ∷ pairs
    → All (λ p. IsPlainText p.0) all → All (λ p. IsPlainText p.0) pairs
plain_rest all pair pairs e h =
    All-tail (λ (p : List ℕ × List ℕ). IsPlainText p.0) pair pairs (subst (λ (l : List (List ℕ × List ℕ)). All (λ p. IsPlainText p.0) l) e h)
