-- A member is down where something stopped it, and nowhere else.
use Rattle.std.proofs.Common.{ℕ, ◌≡◌, inl, inr, Bool, true, false, cond, List, [], ◌∷◌, Option, None, Some, Result, Ok, Err, refl, sym, subst, ap, ◌∙◌}
use Rattle.std.specs.Prelude.{if◌then◌else◌, is_some, option_map}
use Rattle.press_apply.specs.declared.value.Value.TheVariants.{Cmd}
use Rattle.press_wire.specs.Spelling.{is_too_long}
use Rattle.press_wire.specs.declared.message.Message.{Message}
use Rattle.press_acceptor.specs.Seen.{Call, Seen}
use Rattle.press_acceptor.specs.Turned.{StoreMove, Trusts, store_move}
use Rattle.press_acceptor.specs.declared.fault.StoreFault.{StoreFault}
use Rattle.press_acceptor.specs.declared.fault.StoreFault.TheVariants as store_fault
use Rattle.press_proposer.specs.Queues.{is_full}
use Rattle.press_node.specs.EventPlans.{event_calls}
use Rattle.press_node.specs.Faults.{of_store, stop_of}
use Rattle.press_node.specs.NodeEvent.{RunningNode}
use Rattle.press_node.specs.Nodes.{IsPlayed, NodeMove}
use Rattle.press_node.specs.Plays.{Plays, PlaysUp, PlaysWhere, state_move}
use Rattle.press_node.specs.Refusals.{is_at_end, refusal_up}
use Rattle.press_node.specs.States.{NodeState, Up, is_down, is_down_where, running_in}
use Rattle.press_node.specs.declared.event.Event.{Event}
use Rattle.press_node.specs.declared.event.Event.TheVariants as event
use Rattle.press_node.specs.declared.fault.NodeFault.{NodeFault}
use Rattle.press_node.specs.declared.fault.NodeFault.TheVariants as fault
use Rattle.std.specs.declared.alloc.AllocError.{AllocError}
use Rattle.press_member.specs.Acts.{Acts, TellsStop, View}
use Rattle.press_member.specs.declared.input.Input.{Input}
use Rattle.press_member.specs.declared.output.Outputs.{Outputs}
use Rattle.press_member.specs.Deeds.{Deed, Does, later_stop, own_after, stop_after_all, stop_behind}
use Rattle.press_member.specs.Deeds.Deed.{Plays as Playing, Asks as Asking}
use Rattle.press_member.proofs.Coming.{honest_back}

-- a refusal stops nothing
mild_if : (b : Bool) (f g : NodeFault) (next : Option NodeFault) → stop_of f ≡ None → (next ≡ Some g → stop_of g ≡ None) → cond b (Some f) next ≡ Some g → stop_of g ≡ None
mild_if true f g next m h e = let k : f ≡ g = cc in ap stop_of (sym k) ∙ m
mild_if false f g next m h e = h e

mild_end : (g : NodeFault) → None ≡ Some g → stop_of g ≡ None
mild_end g e = absurd (let f = e in cc)

mild : (node : RunningNode) (e : Event) (g : NodeFault) → refusal_up node e ≡ Some g → stop_of g ≡ None
mild node (event.Submit command) g e =
    mild_if (is_too_long (Cmd command)) fault.TooLong g (if is_full node.proposer.queue then Some fault.Full else None) refl (λ h. mild_if (is_full node.proposer.queue) fault.Full g None refl (mild_end g) h) e
mild node event.Wake g e = mild_if (is_at_end node) fault.SlotsUsedUp g None refl (mild_end g) e
mild node (event.Deliver message) g e = mild_end g e

stops_so : (stop : Option StoreFault) (by : StoreFault) → later_stop stop (stop_of (of_store by)) ≡ Some by
stops_so stop store_fault.NoMemory = refl
stops_so stop store_fault.Disk = refl
stops_so stop store_fault.Damaged = refl

goes_on : (stop : Option StoreFault) (f : NodeFault) → stop_of f ≡ None → later_stop stop (stop_of f) ≡ stop
goes_on stop f e = ap (later_stop stop) e

up_so : (u : Option Up) (node : RunningNode) → option_map (λ (up : Up). up.running) u ≡ Some node → is_down_where u ≡ false
up_so None node e = absurd (let f = e in cc)
up_so (Some up) node e = refl

trusts : (calls : List Call) (m : StoreMove) → m.new.is_honest → Trusts calls m
trusts [] m h = tt
trusts (c ∷ cs) m h = h

none_stopped : (stop : Option StoreFault) → false ≡ is_some stop → stop ≡ None
none_stopped None e = refl
none_stopped (Some by) e = absurd (let f = e in cc)

module _ {S : Type 0} (seen : S → Seen) (s t : S) (honest : (seen t).is_honest) where
  pub event_stops : (old new : NodeState) (stop : Option StoreFault) (e : Event) (o : Result (List Message) NodeFault) → Plays (store_move seen s t) (state_move old new) e o → is_down old ≡ is_some stop → is_down new ≡ is_some (stop_behind stop o)
  event_stops old new stop e o p tells = go (running_in old) refl p
    where
      same : (f : NodeFault) → stop_of f ≡ None → o ≡ Err f → new ≡ old → is_down new ≡ is_some (stop_behind stop o)
      same f m is unchanged = ap is_down unchanged ∙ tells ∙ ap is_some (sym (ap (stop_behind stop) is ∙ goes_on stop f m))

      up : (node : RunningNode) → running_in old ≡ Some node → (r : Option NodeFault) → refusal_up node e ≡ r → (q : Result (List Message) NodeFault) → o ≡ q → PlaysUp r node (store_move seen s t) (state_move old new) e q → is_down new ≡ is_some (stop_behind stop o)
      up node was (Some f) r q is h = same f (mild node e f r) (is ∙ h.0) h.1
      up node was None r (Ok out) is h =
          let alive : is_down new ≡ false = up_so new.up _ (h.memory (trusts (event_calls old.members old.id node e) (store_move seen s t) honest)) in
          let before : false ≡ is_some stop = sym (up_so old.up node was) ∙ tells in
          alive ∙ before ∙ ap is_some (sym (ap (stop_behind stop) is))
      up node was None r (Err f) is (inl h) =
          ap is_down h.down ∙ ap is_some (sym (ap (stop_behind stop) is ∙ ap (λ g. later_stop stop (stop_of g)) h.is ∙ stops_so stop h.by))
      up node was None r (Err f) is (inr h) = same fault.RoundsUsedUp refl (is ∙ ap Err h.is) h.same

      go : (r : Option RunningNode) → running_in old ≡ r → PlaysWhere r (store_move seen s t) (state_move old new) e o → is_down new ≡ is_some (stop_behind stop o)
      go None was h = same fault.Down refl h.0 h.1
      go (Some node) was h = up node was (refusal_up node e) refl o refl h

module _ {S N : Type 0} (seen : S → Seen) (node_moves : N → N → NodeMove) (store : N → S) (state : N → NodeState)
    (is : (a b : N) (e : Event) (o : Result (List Message) NodeFault) → (node_moves a b).plays e o → IsPlayed (state a) (state b) (Plays (store_move seen (store a) (store b)) (state_move (state a) (state b)) e o))
    (n id : ℕ) where
  honest_first : (own : List Message) (ds : List (Deed N)) (a b : N) → Does node_moves n id own a ds b → (seen (store b)).is_honest → (seen (store a)).is_honest
  honest_first own [] a b d h = subst (λ x. (seen (store x)).is_honest) d h
  honest_first own (Playing cause e o kept next ∷ ds) a b d h =
      honest_back seen (store a) (store next) (honest_first (own_after id own (Playing cause e o kept next)) ds next b d.3 h) (state a) (state next) e o (is a next e o d.1).plays
  honest_first own (Asking to slot kept ∷ ds) a b d h = honest_first (own_after {N = N} id own (Asking to slot kept)) ds a b d.2 h

  pub deeds_stop : (own : List Message) (ds : List (Deed N)) (a b : N) (stop : Option StoreFault) → Does node_moves n id own a ds b → (seen (store b)).is_honest → is_down (state a) ≡ is_some stop → is_down (state b) ≡ is_some (stop_after_all stop ds)
  deeds_stop own [] a b stop d h tells = ap (λ x. is_down (state x)) d ∙ tells
  deeds_stop own (Playing cause e o kept next ∷ ds) a b stop d h tells =
      let more = own_after id own (Playing cause e o kept next) in
      deeds_stop more ds next b (stop_behind stop o) d.3 h
      (event_stops seen (store a) (store next) (honest_first more ds next b d.3 h) (state a) (state next) stop e o (is a next e o d.1).plays tells)
  deeds_stop own (Asking to slot kept ∷ ds) a b stop d h tells = deeds_stop (own_after {N = N} id own (Asking to slot kept)) ds a b stop d.2 h tells

  pub acts_stop : (i : Input) (old new : View N) (result : Result Outputs AllocError) → old.members ≡ n → old.id ≡ id → Acts node_moves i old new result → TellsStop (λ node. (seen (store node)).is_honest) state old new
  acts_stop i old new result count own acts = λ h tells.
      deeds_stop old.own acts.turned.deeds old.node new.node old.stop (subst (λ m. Does node_moves m id old.own old.node acts.turned.deeds new.node) count (subst (λ j. Does node_moves old.members j old.own old.node acts.turned.deeds new.node) own acts.turned.does)) h tells
      ∙ ap is_some (sym acts.turned.stop_is)
