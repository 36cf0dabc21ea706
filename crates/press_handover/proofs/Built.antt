-- The callbacks of a kit, as a loop puts them.
use Rattle.std.proofs.Common.{◌≡◌, ◌∙◌, List, [], ◌++◌, map, sym, ap, append-nil}
use Rattle.press_callbacks.specs.Kits.{Scripts}
use Rattle.press_kit.specs.declared.kit_parts.Scripted.{Scripted}

-- none is left
pub all_put : (put : Scripts) (left : List Scripted) (total : Scripts) → left ≡ [] → put ++ map (λ (s : Scripted). (s.id, s.script)) left ≡ total → put ≡ total
all_put put left total none so_far = sym (append-nil put) ∙ ap (λ (ss : List Scripted). put ++ map (λ (s : Scripted). (s.id, s.script)) ss) (sym none) ∙ so_far
