use Rattle.std.proofs.Common.{◌≡◌, ◌∙◌, true, arith}
use Rattle.std.specs.List.{list_all}
use Rattle.std.specs.Char.{is_ascii_digit}
use Rattle.press_text.proofs.Digits.{parsed}
use Rattle.press_text.proofs.decimal.dec_u64.Goals as goal

pub returns : goal.returns
returns c =
    let digits : list_all is_ascii_digit c.args.text.now ≡ true = cc in
    c.ok.ensures.value ∙ parsed c.args.text.now c.parse.result (omega arith) digits c.parse.ensures.value.0
