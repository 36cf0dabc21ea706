-- What holds of a world after any steps.
use Rattle.std.specs.Prelude.{ℕ, ◌+◌, ◌≡◌, Option, None, Some, IfSome, List, length, slice_get, Result, Ok, Err}
use Rattle.std.specs.List.{AllByRecursion}
use Rattle.press_apply.specs.declared.value.Value.{Value}
use Rattle.press_apply.specs.Apply.{site_after}
use Rattle.press_acceptor.specs.Trace.{Fact, Chosen}
use Rattle.press_callbacks.specs.Kits.{KitView}
use Rattle.press_page.specs.Page.{page_of}
use Rattle.press_page.specs.declared.reply.Reply.{Reply}
use Rattle.press_page.specs.declared.reply.Target.{Target}
use Rattle.press_node.specs.NodeEvent.{RunningNode}
use Rattle.press_world.specs.Refusing.{place_numbered}
use Rattle.press_world.specs.Seats.{Static}
use Rattle.press_world.specs.Stored.{StoredWorld}
use Rattle.press_world.specs.Worlds.{Place}
use Rattle.press_world.specs.declared.fault.WorldFault.{WorldFault}
use Rattle.press_world.specs.declared.played.Played.{Played}
use Rattle.press_world.specs.declared.step.Step.{Step}
use Rattle.press_world.specs.declared.step.Step.TheVariants.{Submit, Wake, Deliver, Restart, Get}

-- the node has applied these values
abbrev pub HasValues : Option RunningNode → List Value → Type 0
HasValues None values = ⊥
HasValues (Some node) values = node.values ≡ values

abbrev pub HasApplied : Option Place → List Value → Type 0
HasApplied None values = ⊥
HasApplied (Some place) values = HasValues place.up values

-- each node's kit is this one
abbrev pub HaveKit : KitView → List Static → Type 0
HaveKit kit statics = AllByRecursion (λ x. x.kit ≡ kit) statics

-- each value that a node has applied is chosen for its slot
abbrev pub AppliesChosen : ℕ → List Fact → List Place → Type 0
AppliesChosen n trace places =
    (index : ℕ) (values : List Value) → HasApplied (slice_get places index) values →
    (i : ℕ) (v : Value) → slice_get values i ≡ Some v → Chosen n trace (i + 1) v

-- no slot is chosen two ways, the one at the earlier moment and the other at the later
abbrev pub ChoosesOnce : ℕ → List Fact → List Fact → Type 0
ChoosesOnce n earlier later = (slot : ℕ) (v w : Value) → Chosen n earlier slot v → Chosen n later slot w → v ≡ w

-- two nodes that have applied as many values, the one at the earlier moment and the other at the
-- later, have applied the same, and so show the same pages
abbrev pub ShowsAlike : List Place → List Place → Type 0
ShowsAlike earlier later =
    (i j : ℕ) (vs ws : List Value) → HasApplied (slice_get earlier i) vs → HasApplied (slice_get later j) ws → length vs ≡ length ws →
    (vs ≡ ws) × ((kit : KitView) (target : Target) → page_of kit (site_after kit vs) target ≡ page_of kit (site_after kit ws) target)

-- The reply is the page of the site that the values of slots 1 to k make: the node has applied
-- these k, and each is chosen.
pub record IsPage (n : ℕ) (trace : List Fact) (place : Option Place) (kit : KitView) (target : Target) (reply : Reply) : Type 0 where
  pub values : List Value
  pub own : HasApplied place values
  pub chosen : (i : ℕ) (v : Value) → slice_get values i ≡ Some v → Chosen n trace (i + 1) v
  pub page : reply ≡ page_of kit (site_after kit values) target

-- the reply of a request for a page is one
abbrev pub IsAnswered : KitView → ℕ → List Fact → StoredWorld → Step → Result Played WorldFault → Type 0
IsAnswered kit n trace s (Get number target) (Ok played) = IfSome played.reply (λ reply. ∥ IsPage n trace (place_numbered s number) kit target reply ∥₁)
IsAnswered kit n trace s (Get number target) (Err fault) = Unit {0}
IsAnswered kit n trace s (Submit number command cut) result = Unit {0}
IsAnswered kit n trace s (Wake number cut) result = Unit {0}
IsAnswered kit n trace s (Deliver number cut) result = Unit {0}
IsAnswered kit n trace s (Restart number) result = Unit {0}
