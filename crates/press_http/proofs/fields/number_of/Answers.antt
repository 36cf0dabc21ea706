use Rattle.press_http.proofs.Digits.{number_read}
use Rattle.press_http.proofs.fields.number_of.Goals as goal

pub returns : goal.returns
returns c = rw c.ok.ensures.value (number_read c.args.digits.now _ c.requires c.parse.ensures.value.0)
