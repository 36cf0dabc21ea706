use Rattle.press_http.proofs.Digits.{digits_are_text}
use Rattle.press_http.proofs.fields.text_of.Goals as goal

pub unreachable-requires : goal.unreachable-requires
unreachable-requires c = c.in_default.ensures.cases.0 (digits_are_text c.args.digits.now c.requires)
