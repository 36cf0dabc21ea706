use Rattle.press_client.proofs.replies.told_by.Goals as goal

pub returns-in_default-2 : goal.returns-in_default-2
returns-in_default-2 c = λ said. c.status_of_reply.ensures.none c.in_default.is 404 said
