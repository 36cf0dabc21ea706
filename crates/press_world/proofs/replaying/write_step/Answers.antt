use Rattle.std.proofs.Common.{OnErr, subst}
use Rattle.press_text.specs.Streams.{AppendsFront}
use Rattle.press_world.specs.Transcript.{step_line}
use Rattle.press_world.proofs.replaying.write_step.Goals as goal

pub returns-clause-err : goal.returns-clause-err
returns-clause-err g c =
    subst (λ to. OnErr c.write.result (AppendsFront (g.W.Write.contents c.args.writer.now) (g.W.Write.contents c.write.new.writer) (step_line to c.args.number c.args.step.now c.args.played.now)))
    c.receiver-to.ensures c.write.ensures.err
