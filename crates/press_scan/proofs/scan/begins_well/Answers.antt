use Rattle.std.proofs.lemmas.Str.{IsCharBoundary-start}
use Rattle.press_scan.proofs.scan.begins_well.Goals as goal

pub returns : goal.returns
returns c = IsCharBoundary-start _ c.utf8.text
