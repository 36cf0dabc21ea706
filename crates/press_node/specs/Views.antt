-- What is in memory, as the model's, and what its parts leave of it.
use Rattle.std.specs.Prelude.{◌≡◌, ℕ, Bool, true, false, Option, None, Some, option_map}
use Rattle.press_apply.specs.Apply.{applied, site_after}
use Rattle.press_apply.specs.declared.value.Value.{Value}
use Rattle.press_callbacks.specs.Kits.{KitView}
use Rattle.press_learner.specs.Chosen.{chosen_next}
use Rattle.press_node.specs.NodeEvent.{RunningNode, with_applied}
use Rattle.press_node.specs.Plays.{MemoryMove}
use Rattle.press_node.specs.States as states
use Rattle.press_node.specs.States.{IsRunningAt, IsWholeWhere}
use Rattle.press_node.specs.declared.up.Up.{Up}

abbrev pub running_of : Up → RunningNode
running_of up = record { proposer = up.proposer; learner = up.learner; values = up.values.items }

abbrev pub view_one : Up → states.Up
view_one up = record { running = running_of up; site = up.site }

abbrev pub view_up : Option Up → Option states.Up
view_up up = option_map view_one up

abbrev pub IsUpAt : ℕ → ℕ → Up → Type 0
IsUpAt id members up = IsRunningAt id members (running_of up)

abbrev pub IsUp : ℕ → ℕ → Option Up → Type 0
IsUp id members up = IsWholeWhere id members (option_map running_of up)

-- memory, before and after
abbrev pub up_move : ℕ → ℕ → Up → Up → MemoryMove
up_move id members old new = record {
  id = id;
  members = members;
  before = Some (running_of old);
  same = new ≡ old;
  has = λ node. running_of new ≡ node;
  down = Unit {0};
}

-- only the proposer may differ, and it is of the same node
pub record IsBeside (old new : Up) : Type 0 where
  pub id : new.proposer.id ≡ old.proposer.id
  pub members : new.proposer.members ≡ old.proposer.members
  pub learner : new.learner ≡ old.learner
  pub values : new.values ≡ old.values
  pub site : new.site ≡ old.site

-- the site is what the kit makes of the applied values
abbrev pub IsUpFolded : KitView → Up → Type 0
IsUpFolded kit up = up.site ≡ site_after kit up.values.items

-- the value that is chosen for the next slot was applied, or there is none
abbrev pub Applies : KitView → Up → Bool → Up → Type 0
Applies kit old true new = (value : Value) × (chosen_next old.learner ≡ Some value) × (running_of new ≡ with_applied (running_of old) value) × (new.site ≡ (applied kit old.site value).0)
Applies kit old false new = (chosen_next old.learner ≡ None) × (new ≡ old)
