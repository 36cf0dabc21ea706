use Rattle.std.proofs.Common.{◌≡◌, ◌∙◌, length, arith}
use Rattle.press_handover.proofs.Taking.{behind_is, file_is, holds_file, holds_length, length_is}
use Rattle.press_handover.proofs.kept.next_file.Goals as goal

pub returns-then-bytes-lt-LENGTH-clause-next : goal.returns-then-bytes-lt-LENGTH-clause-next
returns-then-bytes-lt-LENGTH-clause-next c = λ file rest lt are. holds_length c.args.bytes.now file rest lt are c.if-bytes-lt-LENGTH.true

pub returns-then-rest-long-clause-next : goal.returns-then-rest-long-clause-next
returns-then-rest-long-clause-next c = λ file rest lt are.
    let long : c.from_be_bytes-long.result ≡ length file = c.from_be_bytes-long.ensures ∙ length_is c.args.bytes.now file rest lt are c.split_at.result.0.now c.split_at.ensures.front in
    holds_file c.args.bytes.now file rest lt are c.split_at.result.1.now c.split_at.ensures.back (omega arith)

pub returns-clause-next : goal.returns-clause-next
returns-clause-next c = λ file rest lt are.
    let long : c.from_be_bytes-long.result ≡ length file = c.from_be_bytes-long.ensures ∙ length_is c.args.bytes.now file rest lt are c.split_at.result.0.now c.split_at.ensures.front in (
      c.split_at-2.ensures.front ∙ file_is c.args.bytes.now file rest lt are c.split_at.result.1.now c.from_be_bytes-long.result c.split_at.ensures.back long,
      c.split_at-2.ensures.back ∙ behind_is c.args.bytes.now file rest lt are c.split_at.result.1.now c.from_be_bytes-long.result c.split_at.ensures.back long,
    )
