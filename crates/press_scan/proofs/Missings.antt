-- One more name without a closing tag.
use Rattle.std.proofs.Common.{◌≡◌, ℕ, List, [], ◌∷◌, ◌++◌, subst, sym}
use Rattle.std.proofs.lemmas.List.Elements.{All-push}
use Rattle.press_scan.specs.Missing.{AreMissing, IsMissing}
use Rattle.press_scan.specs.declared.missing.Missing.{Missing}

pub missing_more : (text : List ℕ) (xs ys : List Missing) (m : Missing) → ys ≡ xs ++ m ∷ [] → AreMissing text xs → IsMissing text m → AreMissing text ys
missing_more text xs ys m e were is = subst (λ (zs : List Missing). AreMissing text zs) (sym e) (All-push (IsMissing text) xs m were is)
