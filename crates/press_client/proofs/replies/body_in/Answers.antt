use Rattle.std.proofs.Common.{codes}
use Rattle.press_client.proofs.Splitting.{around}
use Rattle.press_client.proofs.replies.body_in.Goals as goal

pub returns-in-Some : goal.returns-in-Some
returns-in-Some c = around c.args.reply.now c.in-Some.field-0-0.now c.in-Some.body.now (codes "\r\n\r\n") c.in-Some.ensures.cases
