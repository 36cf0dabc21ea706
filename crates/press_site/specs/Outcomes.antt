-- What became of each command, in the order of their tokens: by editor, byte by byte, then by number (own).
use Rattle.std.specs.Prelude.{List, Option}
use Rattle.std.specs.BTreeMap.{insert_entry, is_at}
use Rattle.std.specs.Cmp.Lexicographic.{slice_cmp}
use Rattle.std.specs.Map.{lookup}
use Rattle.std.specs.Ordering.{nat_cmp, on, then_cmp}
use Rattle.std.specs.declared.cmp.Ordering.{Ordering}
use Rattle.press_site.specs.declared.token.Token.{Token}
use Rattle.press_site.specs.declared.token.Outcome.{Outcome}

abbrev pub token_cmp : Token → Token → Ordering
token_cmp = then_cmp (on (λ t. t.editor) (slice_cmp nat_cmp)) (on (λ t. t.seq) nat_cmp)

abbrev pub outcome_of : Token → List (Token × Outcome) → Option Outcome
outcome_of token kept = lookup (is_at (token_cmp token)) kept

abbrev pub with_outcome : Token → Outcome → List (Token × Outcome) → List (Token × Outcome)
with_outcome token outcome kept = insert_entry token_cmp kept token outcome
