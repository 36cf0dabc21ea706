-- The callbacks of the demonstration kit, as a loop puts them.
use Rattle.std.proofs.Common.{◌≡◌, ◌∙◌, List, [], ◌∷◌, ◌++◌, ℕ, map, refl, sym, ap, append-nil}
use Rattle.press_callbacks.specs.Kits.{Scripts}
use Rattle.press_callbacks.specs.declared.script.Op.{Op}
use Rattle.press_demonstration.specs.Demonstration.{scripts_of}
use Rattle.press_demonstration.specs.declared.scripted.Scripted as demonstrated
use Rattle.press_kit.specs.declared.kit_parts.Scripted.{Scripted}

pub is_done : (xs : Scripts) (left : List demonstrated.Scripted) (total : Scripts) → left ≡ [] → xs ++ scripts_of left ≡ total → xs ≡ total
is_done xs left total e h = sym (append-nil xs) ∙ ap (λ (ys : List demonstrated.Scripted). xs ++ scripts_of ys) (sym e) ∙ h

-- callbacks that have these names and scripts
pub put_together : (cs : List Scripted) → map (λ (c : List ℕ × List Op). record { id = c.0; script = c.1 }) (map (λ (s : Scripted). (s.id, s.script)) cs) ≡ cs
put_together [] = refl
put_together (c ∷ cs) = ap (λ (xs : List Scripted). c ∷ xs) (put_together cs)
