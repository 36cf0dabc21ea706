use Rattle.std.proofs.Common.{◌∙◌, rules}
use Rattle.press_site.proofs.Copies.{same_entries}
use Rattle.press_site.proofs.outcomes.Outcomes.copy.Goals as goal

pub returns-clause-same : goal.returns-clause-same
returns-clause-same c = same_entries _ (λ x y d. search rules) c.self.inside.kept.entries c.in_ok-kept.kept.entries c.in_ok-kept.ensures.cases ∙ c.self.view_is
