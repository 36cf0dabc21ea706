-- Names in a set (own).
use Rattle.std.specs.Prelude.{ℕ, List, Bool}
use Rattle.std.specs.BTreeSet.{contains_by}
use Rattle.std.specs.Cmp.Lexicographic.{slice_cmp}
use Rattle.std.specs.Ordering.{nat_cmp}
use Rattle.press_lint.specs.declared.name_set.NameSet.{NameSet}

-- whether a set has a name
abbrev pub holds : NameSet → List ℕ → Bool
holds set name = contains_by (λ k. slice_cmp nat_cmp name k.now) set.names
