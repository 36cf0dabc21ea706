use Rattle.press_upgrade.proofs.Built.{built, extends_built}
use Rattle.press_upgrade.proofs.laws.built_kits_are_whole.Goals as goal

pub returns-clause-whole : goal.returns-clause-whole
returns-clause-whole c = built

pub returns-clause-extends : goal.returns-clause-extends
returns-clause-extends c = extends_built
