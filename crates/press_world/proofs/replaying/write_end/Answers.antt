use Rattle.std.proofs.Common.{OnErr, ap, map, subst, ◌∙◌}
use Rattle.press_text.specs.Streams.{AppendsFront}
use Rattle.press_world.specs.Seats.{places_of}
use Rattle.press_world.specs.Telling.{applied_count_at}
use Rattle.press_world.specs.Transcript.{end_line}
use Rattle.press_world.proofs.replaying.write_end.Goals as goal

pub returns-clause-err : goal.returns-clause-err
returns-clause-err g c =
    subst (λ nodes. OnErr c.write_end_line.result (AppendsFront (g.W.Write.contents c.args.writer.now) (g.W.Write.contents c.write_end_line.new.writer) (end_line nodes)))
    (c.deref-2.ensures.value ∙ c.in_ok-counts.ensures ∙ ap (λ seats. map applied_count_at (places_of seats)) c.deref.ensures.value) c.write_end_line.ensures.err
