-- A loop over scripts that is done.
use Rattle.std.proofs.Common.{◌≡◌, sym, ap, ◌∙◌, append-nil, List, [], ◌++◌}
use Rattle.press_callbacks.specs.Kits.{Scripts}
use Rattle.press_demonstration.specs.Demonstration.{scripts_of}
use Rattle.press_demonstration.specs.declared.scripted.Scripted.{Scripted}

pub is_done : (xs : Scripts) (left : List Scripted) (total : Scripts) → left ≡ [] → xs ++ scripts_of left ≡ total → xs ≡ total
is_done xs left total e h = sym (append-nil xs) ∙ ap (λ (ys : List Scripted). xs ++ scripts_of ys) (sym e) ∙ h
