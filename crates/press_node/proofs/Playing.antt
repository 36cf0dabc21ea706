-- What an event did, told of a node's memory, is what it did to the node.
use Rattle.std.proofs.Common.{ℕ, ◌≡◌, inl, inr, Bool, true, false, Option, None, Some, List, Result, Ok, Err, refl, sym, ap, ◌∙◌, subst, if◌then◌else◌}
use Rattle.press_apply.specs.declared.value.Value.TheVariants.{Cmd}
use Rattle.press_wire.specs.Spelling.{is_too_long}
use Rattle.press_wire.specs.declared.message.Message.{Message}
use Rattle.press_acceptor.specs.Turned.{StoreMove}
use Rattle.press_acceptor.specs.declared.fault.StoreFault.{StoreFault}
use Rattle.press_acceptor.specs.declared.fault.StoreFault.TheVariants as store_fault
use Rattle.press_proposer.specs.Queues.{is_full}
use Rattle.press_node.specs.declared.event.Event.{Event}
use Rattle.press_node.specs.declared.event.Event.TheVariants.{Submit, Wake, Deliver}
use Rattle.press_node.specs.declared.fault.NodeFault.{NodeFault}
use Rattle.press_node.specs.declared.fault.NodeFault.TheVariants.{Down, TooLong, Full, SlotsUsedUp}
use Rattle.press_node.specs.Faults.{of_store, stops}
use Rattle.press_node.specs.NodeEvent.{RunningNode}
use Rattle.press_node.specs.Plays.{MemoryMove, Plays, PlaysUp, state_move}
use Rattle.press_node.specs.Refusals.{is_at_end, refusal_up}
use Rattle.press_node.specs.States.{NodeState, running_in, stopped_state}
use Rattle.press_node.specs.Views.{running_of, up_move, view_one}
use Rattle.press_node.specs.declared.up.Up.{Up}

stops_by : (by : StoreFault) → stops (of_store by) ≡ true
stops_by store_fault.NoMemory = refl
stops_by store_fault.Disk = refl
stops_by store_fault.Damaged = refl

abbrev fault_of : Result (List Message) NodeFault → NodeFault → NodeFault
fault_of (Ok out) other = other
fault_of (Err fault) other = fault

same_fault : (f g : NodeFault) (r q : Result (List Message) NodeFault) → r ≡ Err f → q ≡ Err g → r ≡ q → f ≡ g
same_fault f g r q i j e = sym (ap (λ x. fault_of x f) i) ∙ (ap (λ x. fault_of x f) e ∙ ap (λ x. fault_of x f) j)

-- none of the refusals without the store stops a node
abbrev Goes : Option NodeFault → Type 0
Goes None = Unit {0}
Goes (Some fault) = stops fault ≡ false

refusal_goes : (node : RunningNode) (event : Event) → Goes (refusal_up node event)
refusal_goes node (Submit command) = go (is_too_long (Cmd command)) (is_full node.proposer.queue)
  where
    inner : (b : Bool) → Goes (if b then Some Full else None)
    inner true = refl
    inner false = tt

    go : (a b : Bool) → Goes (if a then Some TooLong else (if b then Some Full else None))
    go true b = refl
    go false b = inner b
refusal_goes node Wake = go (is_at_end node)
  where
    go : (b : Bool) → Goes (if b then Some SlotsUsedUp else None)
    go true = refl
    go false = tt
refusal_goes node (Deliver message) = tt

module _ (store : StoreMove) (id members : ℕ) (s1 s2 d1 d2 : Type 0) (h1 h2 : RunningNode → Type 0) (event : Event) (fault : NodeFault)
    (same : stops fault ≡ false → s1 → s2) (down : stops fault ≡ true → d2) where
  abbrev pub first : Option RunningNode → MemoryMove
  first before = record { id = id; members = members; before = before; same = s1; has = h1; down = d1 }

  abbrev pub second : Option RunningNode → MemoryMove
  second before = record { id = id; members = members; before = before; same = s2; has = h2; down = d2 }

  up_moves : (before : Option RunningNode) (running : RunningNode) (o : Option NodeFault) → Goes o → PlaysUp o running store (first before) event (Err fault) → PlaysUp o running store (second before) event (Err fault)
  up_moves before running (Some f) goes h = (h.0, same (ap stops (same_fault fault f (Err fault) (Err f) refl refl h.0) ∙ goes) h.1, h.2)
  up_moves before running None goes (inl h) = inl (record { by = h.by; is = h.is; down = down (ap stops h.is ∙ stops_by h.by); turned = h.turned; last = h.last })
  up_moves before running None goes (inr h) = inr (record { is = h.is; wanted = h.wanted; same = same (ap stops h.is) h.same; turned = h.turned; none_left = h.none_left })

  -- an event that was not done
  pub err_moves : (before : Option RunningNode) → Plays store (first before) event (Err fault) → Plays store (second before) event (Err fault)
  err_moves None h = (h.0, same (ap stops (same_fault fault Down (Err fault) (Err Down) refl refl h.0)) h.1, h.2)
  err_moves (Some running) h = up_moves (Some running) running (refusal_up running event) (refusal_goes running event) h

-- a fault that stopped the node
pub stopped_plays : (store : StoreMove) (id members : ℕ) (up up_after : Up) (state after : NodeState) (event : Event) (fault : NodeFault)
    → state ≡ record { id = id; members = members; up = Some (view_one up) } → after ≡ record { id = id; members = members; up = None } → stops fault ≡ true
    → Plays store (up_move id members up up_after) event (Err fault) → Plays store (state_move state after) event (Err fault)
stopped_plays store id members up up_after state after event fault is gone stopping h =
    let whole : NodeState = record { id = id; members = members; up = Some (view_one up) } in
    subst (λ (s : NodeState). Plays store (state_move s after) event (Err fault)) (sym is)
    (err_moves store id members (up_after ≡ up) (after ≡ whole) (Unit {0}) (after ≡ stopped_state whole) (λ node. running_of up_after ≡ node) (λ node. running_in after ≡ Some node) event fault
    (λ e. absurd (let clash : true ≡ false = sym stopping ∙ e in cc)) (λ e. gone) (Some (running_of up)) h)
