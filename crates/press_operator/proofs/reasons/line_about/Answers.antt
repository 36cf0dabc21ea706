use Rattle.std.proofs.Common.{Some}
use Rattle.std.specs.Prelude.{string_bytes}
use Rattle.press_operator.proofs.Blames.{is_told}
use Rattle.press_operator.specs.Screening.{ahead_of}
use Rattle.press_operator.proofs.reasons.line_about.Goals as goal

pub returns : goal.returns
returns c =
    let r = c.in-Ok.ensures in
    is_told (λ line. string_bytes line) (ahead_of c.args.options.now) c.args.now c.args.bytes.now r.0 (Some c.read_request.new.reader.now) c.in-Ok.request c.in_ok-reason.reason c.line.result
    c.ok.result r.1 r.3 c.in_ok-reason.ensures c.line.ensures c.ok.ensures.value
