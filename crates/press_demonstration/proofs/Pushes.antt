-- Scripts put at the end of a list.
use Rattle.std.proofs.Common.{◌≡◌, refl, ap, List, [], ◌∷◌, ◌++◌}
use Rattle.press_callbacks.specs.Kits.{Scripts}
use Rattle.press_demonstration.specs.Demonstration.{scripts_of}
use Rattle.press_demonstration.specs.declared.scripted.Scripted.{Scripted}

pub one_more : (old : List Scripted) (s : Scripted) → scripts_of (old ++ s ∷ []) ≡ scripts_of old ++ (s.id, s.script) ∷ []
one_more [] s = refl
one_more (t ∷ ts) s = ap (λ (xs : Scripts). (t.id, t.script) ∷ xs) (one_more ts s)
