-- A node without its kit and its store: which member it is, and what it has in memory while it is
-- up.
use Rattle.std.specs.Prelude.{◌≡◌, ◌≤◌, ℕ, Bool, true, false, List, [], Option, None, Some, option_map, length, not}
use Rattle.press_callbacks.specs.Kits.{KitView}
use Rattle.press_apply.specs.Apply.{site_after}
use Rattle.press_apply.specs.declared.value.Value.{Value}
use Rattle.press_site.specs.SiteView.{SiteView}
use Rattle.press_site.specs.Effects.{no_site}
use Rattle.press_acceptor.specs.StoreMap.{StoreMap}
use Rattle.press_learner.specs.Chosen.{chosen_next}
use Rattle.press_proposer.specs.Queues.{is_empty}
use Rattle.press_node.specs.declared.event.Event.{Event}
use Rattle.press_node.specs.NodeEvent.{RunningNode, Answer, fresh, on_event}
use Rattle.press_wire.specs.Ranges.{most_members}

pub record Up : Type 0 where
  pub running : RunningNode
  -- what the applied values make
  pub site : SiteView

pub record NodeState : Type 0 where
  pub id : ℕ
  pub members : ℕ
  -- none where the node is down
  pub up : Option Up

abbrev pub running_in : NodeState → Option RunningNode
running_in state = option_map (λ up. up.running) state.up

-- its answer to an event, where it is up
abbrev pub answer_in : StoreMap → NodeState → Event → Option Answer
answer_in store state event = option_map (λ up. on_event state.members state.id store up.running event) state.up

abbrev pub stopped_state : NodeState → NodeState
stopped_state state = record { id = state.id; members = state.members; up = None }

-- just started, over a store with this last round
abbrev pub started_at : ℕ → ℕ → ℕ → NodeState
started_at id members last_round = record { id = id; members = members; up = Some (record { running = fresh members id last_round; site = no_site }) }

abbrev pub is_down_where : Option Up → Bool
is_down_where None = true
is_down_where (Some up) = false

abbrev pub is_down : NodeState → Bool
is_down state = is_down_where state.up

-- how many values were applied since the start; none where the node is down
abbrev pub count_where : Option Up → ℕ
count_where None = 0
count_where (Some up) = length up.running.values

abbrev pub applied_count : NodeState → ℕ
applied_count state = count_where state.up

-- a command waits to be chosen; none does where the node is down
abbrev pub is_waiting_where : Option Up → Bool
is_waiting_where None = false
is_waiting_where (Some up) = not (is_empty up.running.proposer.queue)

abbrev pub is_waiting : NodeState → Bool
is_waiting state = is_waiting_where state.up

-- how many commands wait to be chosen; none does where the node is down
abbrev pub waiting_where : Option Up → ℕ
waiting_where None = 0
waiting_where (Some up) = length up.running.proposer.queue

abbrev pub waiting_count : NodeState → ℕ
waiting_count state = waiting_where state.up

-- the values that were applied since the start, in the order of their slots; none where the node is
-- down
abbrev pub values_where : Option Up → List Value
values_where None = []
values_where (Some up) = up.running.values

abbrev pub applied_values : NodeState → List Value
applied_values state = values_where state.up

-- the site is what the kit makes of the applied values
abbrev pub IsFolded : KitView → NodeState → Type 0
IsFolded kit state = option_map (λ up. up.site) state.up ≡ option_map (λ up. site_after kit up.running.values) state.up

-- What holds of a running node at every moment: its parts are of one node of at most seven, it has
-- applied as many values as its learner counts, and none is chosen that it has not applied.
pub record IsRunningAt (id members : ℕ) (node : RunningNode) : Type 0 where
  pub small : members ≤ most_members
  pub member : id ≤ members
  pub id_of : node.proposer.id ≡ id
  pub members_of : node.proposer.members ≡ members
  pub members_too : node.learner.members ≡ members
  pub count : node.learner.applied ≡ length node.values
  pub none : chosen_next node.learner ≡ None

abbrev pub IsWholeWhere : ℕ → ℕ → Option RunningNode → Type 0
IsWholeWhere id members None = (members ≤ most_members) × (id ≤ members)
IsWholeWhere id members (Some node) = IsRunningAt id members node

-- and of a node
abbrev pub IsWhole : NodeState → Type 0
IsWhole state = IsWholeWhere state.id state.members (running_in state)

-- the same member of as many
abbrev pub IsMemberOf : NodeState → NodeState → Type 0
IsMemberOf old new = (new.id ≡ old.id) × (new.members ≡ old.members)
