use Rattle.press_client.proofs.replies.taken_by.Goals as goal

pub returns-in_default-3 : goal.returns-in_default-3
returns-in_default-3 c = λ status said. absurd (c.status_of_reply.ensures.none c.in_default.is status said)
