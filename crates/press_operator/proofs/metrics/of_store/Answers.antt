use Rattle.std.proofs.Common.{ℕ, List, ◌++◌, ◌∙◌, ap₂}
use Rattle.std.proofs.lemmas.Result.{IfOk-weaker}
use Rattle.press_operator.proofs.metrics.of_store.Goals as goal

pub returns : goal.returns
returns c =
    let saves_is = c.as_str.ensures.value ∙ c.in_ok-saves.ensures in
    let millis_is = c.as_str-2.ensures.value ∙ c.in_ok-millis.ensures in
    IfOk-weaker c.two.result _ _ (λ t is. is ∙ ap₂ (λ (a b : List ℕ). a ++ b) saves_is millis_is) c.two.ensures
