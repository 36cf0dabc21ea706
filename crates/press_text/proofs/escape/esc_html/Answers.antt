use Rattle.std.proofs.Common.{List, ℕ, ◌++◌, ◌∙◌, sym, ap}
use Rattle.std.specs.Char.{encode_utf8}
use Rattle.press_text.specs.Escapes.{escaped_text}
use Rattle.press_text.proofs.Escapes.{escaped_more}
use Rattle.press_text.proofs.escape.esc_html.Goals as goal

pub loop-c-preserved : goal.loop-c-preserved
loop-c-preserved c = c.in_ok-push_escaped.ensures ∙ ap (λ (x : List ℕ). x ++ escaped_text (encode_utf8 c.in-Some.c)) c.loop-c.invariant ∙ sym (escaped_more c.loop-c.yielded c.in-Some.c)
