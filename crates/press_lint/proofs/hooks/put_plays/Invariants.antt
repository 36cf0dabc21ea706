use Rattle.std.proofs.Common.{◌≡◌, ℕ, List, take, bytes_eq}
use Rattle.std.specs.Prelude.{◌||◌}
use Rattle.std.specs.List.{list_any}
use Rattle.press_kit.specs.declared.play_file.Play.{Play}
use Rattle.press_lint.specs.NameSets.{holds}
use Rattle.press_lint.proofs.hooks.put_plays.Given as goal

abbrev pub invariant-loop-play : goal.invariant-loop-play
invariant-loop-play l = (q : List ℕ) → holds l.hooks q ≡ (list_any (λ (p : Play). bytes_eq p.hook q) (take l.play-index l.plays) || holds l.fn.hooks q)
