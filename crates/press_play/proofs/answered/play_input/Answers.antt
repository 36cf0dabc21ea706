use Rattle.press_play.proofs.Telling.{written}
use Rattle.press_play.proofs.answered.play_input.Goals as goal

pub returns-clause-writes : goal.returns-clause-writes
returns-clause-writes g c = written (g.R.Read.remaining c.args.reader.now) c.read_and_play.result c.outcome-said.result _ _ c.write_said.result c.read_and_play.ensures.gives c.outcome-said.ensures c.write_said.ensures
