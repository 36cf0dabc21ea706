use Rattle.std.proofs.Common.{arith}
use Rattle.press_program.proofs.Named.{among, meets, texts}
use Rattle.press_program.proofs.kitting.read_all.Goals as goal

pub returns-in-Err-clause-fault : goal.returns-in-Err-clause-fault
returns-in-Err-clause-fault g c = meets (texts c.args.names.now) _ c.in-Err.fault c.in-Err.ensures (among c.args.names.now c.loop-i.i _ (omega arith))
