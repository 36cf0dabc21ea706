-- What is still to be read of a text of parts.
use Rattle.std.specs.Prelude.{ℕ, List, ◌++◌}
use Rattle.press_text.specs.Escapes.{escaped_text}
use Rattle.press_callbacks.specs.Turns.{text_of}
use Rattle.press_callbacks.specs.declared.unread_text.UnreadText.{UnreadText}

abbrev pub unread : UnreadText → List ℕ
unread p = p.piece.now ++ (escaped_text p.to_escape.now ++ text_of p.call.now p.parts.now)
