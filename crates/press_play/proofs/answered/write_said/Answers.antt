use Rattle.std.proofs.Common.{rules, refl}
use Rattle.press_play.proofs.Telling.{no_memory_line}
use Rattle.press_play.proofs.answered.write_said.Goals as goal

pub returns-in_err-write_once-in-Err : goal.returns-in_err-write_once-in-Err
returns-in_err-write_once-in-Err g c = rw (c.in-Err.is, no_memory_line) (search rules)

pub returns-in_ok-write_once-in-Err : goal.returns-in_ok-write_once-in-Err
returns-in_ok-write_once-in-Err g c = rw (c.in-Err.is, no_memory_line) (refl, c.in_ok-write_once-in-Err.ensures.ok)
