use Rattle.std.proofs.Common.{ℕ, List, ◌++◌, ◌∙◌, ap₂}
use Rattle.std.proofs.lemmas.Result.{IfOk-weaker}
use Rattle.press_operator.proofs.metrics.of_node.Goals as goal

pub returns : goal.returns
returns c =
    let down_is = c.as_str.ensures.value ∙ c.in_ok-down.ensures in
    let forgotten_is = c.as_str-2.ensures.value ∙ c.in_ok-forgotten.ensures in
    let stops_is = c.as_str-3.ensures.value ∙ c.in_ok-stops.ensures ∙ ap₂ (λ (a b : List ℕ). a ++ b) down_is forgotten_is in
    let queued_is = c.as_str-4.ensures.value ∙ c.in_ok-queued.ensures in
    let standing_is = c.as_str-6.ensures.value ∙ c.in_ok-standing.ensures ∙ ap₂ (λ (a b : List ℕ). a ++ b) stops_is queued_is in
    let applied_is = c.as_str-5.ensures.value ∙ c.in_ok-applied.ensures in
    IfOk-weaker c.two-3.result _ _ (λ t is. is ∙ ap₂ (λ (a b : List ℕ). a ++ b) applied_is standing_is) c.two-3.ensures
