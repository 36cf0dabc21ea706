use Rattle.press_play.specs.Answers.{or_no_memory}
use Rattle.press_play.proofs.Telling.{told}
use Rattle.press_play.proofs.answered.write_fault.Goals as goal

pub returns : goal.returns
returns g c = (or_no_memory c.answer_fault-said.result, told c.args.fault c.answer_fault-said.result c.answer_fault-said.ensures, c.write_said.ensures)
