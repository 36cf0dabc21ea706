use Rattle.std.proofs.Common.{length, ap, Err}
use Rattle.press_http.proofs.LineEnds.{too_many}
use Rattle.press_http.proofs.head.look.Goals as goal

pub returns-in-Err-TooManyHeaders : goal.returns-in-Err-TooManyHeaders
returns-in-Err-TooManyHeaders c =
    too_many (length c.args.headers.now) c.args.buf.now c.requires c.in-Err-TooManyHeaders.ensures.no_room (c.in-Err-TooManyHeaders.ensures.too_many (ap Err c.in-Err-TooManyHeaders.field-0-is))
