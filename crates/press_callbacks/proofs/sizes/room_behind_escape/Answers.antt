use Rattle.std.proofs.Common.{◌≡◌, refl, sym, ◌∙◌, length, get_or, ℕ, ◌<◌, arith, None}
use Rattle.press_text.specs.Escapes.{escaped_byte}
use Rattle.press_callbacks.proofs.Past.{past_bytes}
use Rattle.press_callbacks.proofs.sizes.room_behind_escape.Goals as goal

pub returns-then-left-length : goal.returns-then-left-length
returns-then-left-length c =
    let b : ℕ = get_or c.args.text.now c.loop-byte.byte-index 0 in
    let e : c.escaped_length-length.result ≡ length (escaped_byte b) = c.escaped_length-length.ensures in
    let more : c.loop-byte.left < c.escaped_length-length.result = c.if-left-length.true in
    sym (past_bytes c.args.text.now c.loop-byte.byte-index b c.loop-byte.left c.args.room c.loop-byte-test.true refl c.loop-byte.invariant (omega (arith, e, more)))
