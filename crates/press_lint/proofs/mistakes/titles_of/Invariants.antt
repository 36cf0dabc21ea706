use Rattle.std.proofs.Common.{◌≡◌, ◌≤◌, ℕ, List, length, drop}
use Rattle.press_callbacks.specs.Kits.{is_named}
use Rattle.press_lint.specs.Mistakes.{first, same_name}
use Rattle.press_lint.specs.NameSets.{holds}
use Rattle.press_lint.proofs.mistakes.titles_of.Given as goal

abbrev pub invariant-loop-n : goal.invariant-loop-n
invariant-loop-n g l = record {
  within : l.n ≤ length l.items;
  named : (q : List ℕ) → holds l.names q ≡ is_named g.T.Titled.title (drop l.n l.items) q;
  told : l.same ≡ first (same_name g.T.Titled.title g.T.Titled.place) l.n (drop l.n l.items);
}

abbrev pub decreases-loop-n : goal.decreases-loop-n
decreases-loop-n g l = l.n
