use Rattle.std.proofs.Common.{Ok, Err}
use Rattle.press_node.proofs.Serving.{told_answers, refused_answers}
use Rattle.press_node.proofs.serve.serve_event.Goals as goal

pub returns-in-Ok-clause-plays : goal.returns-in-Ok-clause-plays
returns-in-Ok-clause-plays g c =
    let e = c.in-Ok.ensures in (
      Ok c.in-Ok.outbox.items,
      record { member = e.member; whole = e.whole; plays = e.plays },
      told_answers (λ s. s.status) (λ s. s.outbox.items) c.args.reply.now (g.W.Write.contents c.args.writer.now) (g.W.Write.contents c.write_reply_or_503.new.writer) c.write_reply_or_503.result c.in-Ok.outbox.items c.write_reply_or_503.ensures.outbox c.write_reply_or_503.ensures.ok c.write_reply_or_503.ensures.err c.write_reply_or_503.ensures.fault,
    )

pub returns-in-Err-clause-plays : goal.returns-in-Err-clause-plays
returns-in-Err-clause-plays g c =
    let e = c.in-Err.ensures in (
      Err c.in-Err.fault,
      record { member = e.member; whole = e.whole; plays = e.plays },
      refused_answers (λ s. s.status) (λ s. s.outbox.items) c.args.reply.now (g.W.Write.contents c.args.writer.now) (g.W.Write.contents c.refuse.new.writer) c.refuse.result c.in-Err.fault c.status.result c.status.ensures.value c.refuse.ensures.ok c.refuse.ensures.err c.refuse.ensures.fault,
    )
