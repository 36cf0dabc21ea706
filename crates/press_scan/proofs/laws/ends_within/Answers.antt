use Rattle.press_scan.proofs.Edges as shown
use Rattle.press_scan.proofs.laws.ends_within.Goals as goal

pub returns : goal.returns
returns c = shown.ends_within
