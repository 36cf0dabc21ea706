use Rattle.std.proofs.Common.{◌≡◌, ◌==◌, false, length, map, option_map, string_bytes, sym, ap, ◌∙◌}
use Rattle.std.proofs.lemmas.List.{length-map}
use Rattle.std.proofs.lemmas.Result.{IfOk-weaker}
use Rattle.press_program.proofs.Arguments.{asked_nothing}
use Rattle.press_program.specs.Words.{arguments_of}
use Rattle.press_program.proofs.words.read_words.Goals as goal

pub returns-in-Err : goal.returns-in-Err
returns-in-Err c =
    let words = c.args.words.now in
    let some : (length (map string_bytes words) == 0) ≡ false = ap (λ k. k == 0) (length-map words string_bytes) ∙ sym c.is_empty.ensures ∙ c.if-is_empty.false in
    IfOk-weaker c.no_arguments.result _ _ (λ a h. ap (option_map (λ a. arguments_of a)) h.0 ∙ sym (asked_nothing (map string_bytes words) c.in-Err.e some c.in-Err.ensures.kinds h.1)) c.no_arguments.ensures
