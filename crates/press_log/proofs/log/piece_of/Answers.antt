use Rattle.std.proofs.Common.{arith}
use Rattle.press_log.proofs.Cuts.{piece}
use Rattle.press_log.proofs.log.piece_of.Goals as goal

pub returns : goal.returns
returns c =
    piece c.args.values.now 64 c.args.from c.min-first.result c.min-end.result c.min-first.ensures
    (omega (arith, c.min-end.ensures, c.saturating_add.ensures))
