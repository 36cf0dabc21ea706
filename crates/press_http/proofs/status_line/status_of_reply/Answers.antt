use Rattle.std.proofs.Common.{rules, arith}
use Rattle.press_http.proofs.StatusLines.{said_is_small, said_is_text}
use Rattle.press_http.proofs.status_line.status_of_reply.Goals as goal

pub returns-in_err-front-clause-none : goal.returns-in_err-front-clause-none
returns-in_err-front-clause-none c = λ none status said. let text = said_is_text c.args.reply.now status said in search rules

pub returns-clause-none : goal.returns-clause-none
returns-clause-none c = λ none status said. let small = said_is_small c.args.reply.now status said in search (rules, arith)
