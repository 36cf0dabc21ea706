use Rattle.std.proofs.Common.{◌∙◌}
use Rattle.press_site.proofs.Copies.{same_by_bytes}
use Rattle.press_site.proofs.options.Options.copy.Goals as goal

pub returns-clause-same : goal.returns-clause-same
returns-clause-same c = same_by_bytes c.self.inside.values.entries c.in_ok-values.values.entries c.in_ok-values.ensures.cases ∙ c.self.view_is
