use Rattle.press_scan.proofs.Cuts.{cut_token}
use Rattle.press_scan.proofs.gathering.cuts.Goals as goal

pub returns-clause-cuts : goal.returns-clause-cuts
returns-clause-cuts c = (cut_token _ _ c.args.token c.utf8.text c.requires.there c.requires.within c.requires.token).cuts

pub returns-clause-end : goal.returns-clause-end
returns-clause-end c = (cut_token _ _ c.args.token c.utf8.text c.requires.there c.requires.within c.requires.token).end
