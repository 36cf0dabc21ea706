use Rattle.press_scan.proofs.Bytes.{found_byte, no_byte}
use Rattle.press_scan.proofs.places.find_byte.Goals as goal

pub returns-in-Some : goal.returns-in-Some
returns-in-Some c = found_byte c.args.text.now c.args.byte c.args.from c.in-Some.ahead c.in-Some.ensures

pub returns-in-None : goal.returns-in-None
returns-in-None c = no_byte c.args.text.now c.args.byte c.args.from c.requires c.in-None.ensures
