-- A node's state, as data.
use Rattle.std.specs.Prelude.{ℕ, List, Option, refl}
use Rattle.std.specs.Coded.{Coded, code_by, coded×, coded_ℕ, coded_option}
use Rattle.press_apply.specs.declared.value.Value.{Value}
use Rattle.press_learner.specs.Kept.{KeptVotes}
use Rattle.press_proposer.specs.Proposing.{ProposerState}
use Rattle.press_site.specs.SiteView.{SiteView}
use Rattle.press_node.specs.States.{NodeState, Up}

abbrev pub up_code : Coded ProposerState → Coded KeptVotes → Coded (List Value) → Coded SiteView → Coded Up
up_code proposer learner values site =
    code_by (ProposerState × (KeptVotes × (List Value × SiteView)))
    (coded× proposer (coded× learner (coded× values site)))
    (λ up. (up.running.proposer, (up.running.learner, (up.running.values, up.site))))
    (λ p. record { running = record { proposer = p.0; learner = p.1.0; values = p.1.1.0 }; site = p.1.1.1 })
    (λ _. refl)

abbrev pub state_code : Coded ProposerState → Coded KeptVotes → Coded (List Value) → Coded SiteView → Coded NodeState
state_code proposer learner values site =
    code_by (ℕ × (ℕ × Option Up))
    (coded× coded_ℕ (coded× coded_ℕ (coded_option (up_code proposer learner values site))))
    (λ state. (state.id, (state.members, state.up)))
    (λ p. record { id = p.0; members = p.1.0; up = p.1.1 })
    (λ _. refl)
