use Rattle.std.proofs.Common.{rules, arith}
use Rattle.press_text.proofs.Escapes.{escaped_char}
use Rattle.press_text.proofs.escape.push_escaped.Goals as goal

pub returns-in_default : goal.returns-in_default
returns-in_default c = rw (escaped_char c.args.c (λ e. omega arith) (λ e. omega arith) (λ e. omega arith) (λ e. omega arith) (λ e. omega arith)) (search rules)
