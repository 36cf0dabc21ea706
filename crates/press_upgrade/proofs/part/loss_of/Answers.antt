use Rattle.std.proofs.Common.{rules}
use Rattle.press_upgrade.proofs.part.loss_of.Goals as goal

pub returns : goal.returns
returns g c = (c.in-Some.found.now, search rules, λ e. let same = c.same.ensures.1 e in cc)
