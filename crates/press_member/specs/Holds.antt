-- What holds of members after any moves.
use Rattle.std.specs.Prelude.{ℕ, ◌+◌, ◌≡◌, ◌⊎◌, Option, None, Some, List, ◌∷◌, length, slice_get}
use Rattle.press_apply.specs.Apply.{site_after}
use Rattle.press_apply.specs.declared.value.Value.{Value}
use Rattle.press_acceptor.specs.Agrees.{IsOf, StoreAgrees}
use Rattle.press_wire.specs.Blocks.{block_of}
use Rattle.press_acceptor.specs.Seen.{Seen}
use Rattle.press_acceptor.specs.StoreMap.{StoreMap}
use Rattle.press_acceptor.specs.Trace.{Allowed, Chosen, Fact, Legal}
use Rattle.press_callbacks.specs.Kits.{KitView}
use Rattle.press_node.specs.States.{running_in}
use Rattle.press_page.specs.Page.{page_of}
use Rattle.press_page.specs.declared.reply.Target.{Target}
use Rattle.press_world.specs.Adding.{Adds}
use Rattle.press_world.specs.Whole.{ChoosesOnce, HasValues}
use Rattle.press_member.specs.Members.{MayLeave, Member, Members}

-- the member has applied these values
abbrev pub HasApplied : {S : Type 0} → Option (Member S) → List Value → Type 0
HasApplied None values = ⊥
HasApplied (Some member) values = HasValues (running_in member.state) values

-- What a stop may leave holds what the trace says of the member; or it does so once one legal fact
-- of its own is added, that of a save that failed and is there all the same.
abbrev pub LeavesAgreeing : ℕ → ℕ → StoreMap → List Fact → Type 0
LeavesAgreeing n id left trace =
    StoreAgrees id left trace ⊎ ((fact : Fact) × IsOf id fact × Allowed n block_of trace fact × StoreAgrees id left (fact ∷ trace))

module _ {S : Type 0} (seen : S → Seen) where
  -- The trace is legal, and stores and applied values agree with it.
  pub record Holds (n : ℕ) (w : Members S) (trace : List Fact) : Type 0 where
    pub legal : Legal n block_of trace
    -- what a stop may leave of a store now agrees with it
    pub stores : (i : ℕ) (member : Member S) (left : StoreMap) → slice_get w.all i ≡ Some member → MayLeave seen member.store left → LeavesAgreeing n (i + 1) left trace
    -- each applied value is chosen for its slot
    pub applied : (index : ℕ) (values : List Value) → HasApplied (slice_get w.all index) values → (i : ℕ) (v : Value) → slice_get values i ≡ Some v → Chosen n trace (i + 1) v

  -- At two moments: it holds at each, facts are only added, and no slot is chosen two ways.
  pub record HoldsOn (n : ℕ) (early late : Members S) : Type 0 where
    pub before : List Fact
    pub trace : List Fact
    pub early_holds : Holds n early before
    pub late_holds : Holds n late trace
    pub adds : Adds before trace
    pub once : ChoosesOnce n before trace

-- who has applied as many values, the one at the earlier moment and the other at the later, has
-- applied the same, and so shows the same pages
abbrev pub ShowsAlike : {S : Type 0} → Members S → Members S → Type 0
ShowsAlike early late =
    (i j : ℕ) (vs ws : List Value) → HasApplied (slice_get early.all i) vs → HasApplied (slice_get late.all j) ws → length vs ≡ length ws →
    (vs ≡ ws) × ((kit : KitView) (target : Target) → page_of kit (site_after kit vs) target ≡ page_of kit (site_after kit ws) target)
