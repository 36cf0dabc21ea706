use Rattle.std.proofs.Common.{◌≡◌, ◌∙◌, sym}
use Rattle.press_apply.specs.declared.value.Value.TheVariants.{Cmd}
use Rattle.press_loop.proofs.answering.submit_from.Goals as goal

pub returns-in-Submit : goal.returns-in-Submit
returns-in-Submit c =
    let same : Cmd c.in-Submit.command ≡ Cmd c.args.came =
    c.same_values_are_equal.ensures.same (Cmd c.in-Submit.command) (Cmd c.args.came) (sym c.is.ensures ∙ c.if-is.true) in
    cc
