use Rattle.std.proofs.Common.{rules}
use Rattle.press_loop.proofs.front.Front.status.Goals as goal

pub returns-clause-none : goal.returns-clause-none
returns-clause-none c = λ e status said. let none = c.status_of_reply.ensures.none e status in search rules
