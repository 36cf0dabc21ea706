use Rattle.std.proofs.Common.{sym}
use Rattle.press_wire.proofs.Names.{no_name}
use Rattle.press_wire.proofs.reader.Reader.name.Goals as goal

pub returns-in_default-clause-read : goal.returns-in_default-clause-read
returns-in_default-clause-read c = no_name _ _ _ c.in_ok-short.ensures.read (sym c.in_default.ensures)
