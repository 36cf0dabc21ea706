use Rattle.std.proofs.Common.{sym, Some, None}
use Rattle.press_scan.proofs.Computes.{is_computed, first_by_relation, none_by_relation}
use Rattle.press_scan.proofs.laws.computes_first.Goals as goal

pub returns-clause-some : goal.returns-clause-some
returns-clause-some c = λ text tags from s. (first_by_relation text tags from s, λ p. sym (is_computed text tags from (Some s) p))

pub returns-clause-none : goal.returns-clause-none
returns-clause-none c = λ text tags from. (none_by_relation text tags from, λ p. sym (is_computed text tags from None p))
