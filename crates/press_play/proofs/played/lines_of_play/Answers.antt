use Rattle.std.proofs.Common.{◌≡◌, ◌∙◌, sym, []}
use Rattle.std.proofs.lemmas.List.{nil_from_length}
use Rattle.std.proofs.lemmas.Result.{err_from_is_err_and}
use Rattle.std.specs.Vec.Iter.{into_iter_items}
use Rattle.press_callbacks.specs.Kits.{scripts_given}
use Rattle.press_play.specs.Played.{scripts_of}
use Rattle.press_play.proofs.Refused.{all_given, kit_refused}
use Rattle.press_play.proofs.played.lines_of_play.Goals as goal

pub returns-in_err-kit : goal.returns-in_err-kit
returns-in_err-kit c =
    let at = c.loop-scripted in
    let left = into_iter_items at.scripted-iterator in
    let none : left ≡ [] = nil_from_length left (sym at.scripted-iterator.rest.ok.0 ∙ c.in-None.ensures.steps.0) in
    let given = all_given (scripts_given at.callbacks.items) left (scripts_of c.args.file.kit.callbacks) none at.invariant in
    let p = err_from_is_err_and c.from_residual-in_err-kit.result c.from_residual-in_err-kit.ensures.1 in
    rw (p.1, p.2) (kit_refused c.in_err-kit.field-0.0 _ _ _ _ _ given c.into_vec.ensures c.in_err-kit.ensures.builds)
