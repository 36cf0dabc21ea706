-- What a client and the members of a cluster say to each other (own).
use Rattle.std.specs.Prelude.{ℕ, ◌≡◌, ◌⊎◌, List, [], ◌∷◌, ◌++◌, Option, None, Some}
use Rattle.press_apply.specs.declared.command.Stamped.{Stamped}
use Rattle.press_site.specs.declared.token.Token.{Token}
use Rattle.press_client.specs.declared.newsroom.FormAnswer.{FormAnswer}
use Rattle.press_client.specs.declared.newsroom.OutcomeAnswer.{OutcomeAnswer}

-- a command goes to the member at a place, which makes this of it; or a member is asked for the
-- outcome under a token, and says this
pub data Said : Type 0 where
  sends : ℕ → Stamped → FormAnswer → Said
  asks : ℕ → Token → OutcomeAnswer → Said

-- it was said
abbrev pub Has : List Said → Said → Type 0
Has [] one = ⊥
Has (newest ∷ earlier) one = (one ≡ newest) ⊎ Has earlier one

-- These were said, the last first, since what was known by then; of what isn't known nothing is
-- claimed.
abbrev pub Says : Option (List Said) → Option (List Said) → List Said → Type 0
Says None new more = Unit {0}
Says (Some old) new more = new ≡ Some (more ++ old)

abbrev pub Adds : Option (List Said) → Option (List Said) → Said → Type 0
Adds old new one = Says old new (one ∷ [])

abbrev pub SaysNothing : Option (List Said) → Option (List Said) → Type 0
SaysNothing old new = Says old new []
