use Rattle.press_scan.proofs.OneReading as shown
use Rattle.press_scan.proofs.laws.one_reading.Goals as goal

pub returns : goal.returns
returns c = shown.one_reading
