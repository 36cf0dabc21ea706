use Rattle.std.proofs.Common.{◌≡◌, string_bytes}
use Rattle.std.specs.Str.{encode_utf8_all}
use Rattle.press_text.specs.Escapes.{escaped_text}
use Rattle.press_text.proofs.escape.esc_html.Given as goal

abbrev pub invariant-loop-c : goal.invariant-loop-c
invariant-loop-c l = string_bytes l.out ≡ escaped_text (encode_utf8_all l.yielded)
