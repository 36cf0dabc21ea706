-- What one boot counts: the starts of actions (`did_action`), the hooks that are running (`doing_filter`), and the turns played.
use Rattle.std.specs.Prelude.{ℕ, List, []}

pub record Counts : Type 0 where
  pub did : List (List ℕ)
  pub doing : List (List ℕ)
  pub turns : ℕ

abbrev pub no_counts : Counts
no_counts = record { did = []; doing = []; turns = 0 }
