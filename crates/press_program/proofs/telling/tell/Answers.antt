use Rattle.press_program.proofs.Told.{front_written}
use Rattle.press_program.proofs.telling.tell.Goals as goal

pub returns : goal.returns
returns g c = front_written _ _ c.args.line.now c.write_once.result c.write_once.ensures.ok c.write_once.ensures.err
