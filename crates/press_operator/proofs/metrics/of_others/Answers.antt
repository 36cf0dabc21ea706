use Rattle.std.proofs.Common.{ℕ, List, ◌++◌, ◌∙◌, ap₂}
use Rattle.std.proofs.lemmas.Result.{IfOk-weaker}
use Rattle.press_operator.proofs.metrics.of_others.Goals as goal

pub returns : goal.returns
returns c =
    let foreign_is = c.as_str.ensures.value ∙ c.in_ok-foreign.ensures in
    let agreement_is = c.as_str-2.ensures.value ∙ c.in_ok-agreement.ensures in
    let rest_is = c.as_str-4.ensures.value ∙ c.in_ok-rest.ensures ∙ ap₂ (λ (a b : List ℕ). a ++ b) foreign_is agreement_is in
    let chosen_is = c.as_str-3.ensures.value ∙ c.in_ok-chosen.ensures in
    IfOk-weaker c.two-2.result _ _ (λ t is. is ∙ ap₂ (λ (a b : List ℕ). a ++ b) chosen_is rest_is) c.two-2.ensures
