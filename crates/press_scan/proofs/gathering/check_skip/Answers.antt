use Rattle.press_scan.proofs.Cuts.{after_spaces}
use Rattle.press_scan.proofs.gathering.check_skip.Goals as goal

pub returns : goal.returns
returns c = after_spaces _ c.args.from c.args.place c.utf8.text c.requires.there c.requires.first
