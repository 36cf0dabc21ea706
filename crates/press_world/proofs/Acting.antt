-- What a node does at an event over its store in memory, by what every node says of it over any
-- store.
use Rattle.std.proofs.Common.{ℕ, ◌+◌, ◌≡◌, ◌≤◌, ◌⊎◌, inl, inr, Bool, true, false, cond, List, [], ◌∷◌, length, Option, None, Some, option_map, IfSome, Result, Ok, Err, IfOk, IfErr, refl, sym, subst, ap, ◌∙◌}
use Rattle.press_wire.specs.declared.message.Body.{Body}
use Rattle.press_wire.specs.declared.message.Body.TheVariants.{Prepare, Promise, Nack, Accept, Accepted, Query}
use Rattle.press_wire.specs.declared.message.Message.{Message}
use Rattle.press_apply.specs.declared.value.Value.TheVariants.{Cmd}
use Rattle.press_wire.specs.Spelling.{is_too_long}
use Rattle.press_acceptor.specs.InMemory.{EndsInMemory}
use Rattle.press_acceptor.specs.Plans.{answer_calls}
use Rattle.press_acceptor.specs.Seen.{Call, Seen, SavesIf}
use Rattle.press_acceptor.specs.Seen.Call.{LoadsBlock, SavesPromise, SavesVote, LoadsRound, SavesRound}
use Rattle.press_acceptor.specs.StoreMap.{StoreMap, Save, with_any_save}
use Rattle.press_acceptor.specs.Turned.{Trusts, LastEnds, Turned, TurnedBy, store_move}
use Rattle.press_acceptor.specs.declared.fault.StoreFault.{StoreFault}
use Rattle.press_acceptor.specs.declared.fault.StoreFault.TheVariants as store_fault
use Rattle.press_learner.specs.Chosen.{has_gap}
use Rattle.press_proposer.specs.Queues.{is_full}
use Rattle.press_proposer.specs.Turns.{is_content, is_used_up, next_round, asks, goes_on, prepares}
use Rattle.press_proposer.specs.Phases.{can_ask}
use Rattle.press_wire.specs.Blocks.{block_of}
use Rattle.press_proposer.specs.Wakes.{last_round_plan}
use Rattle.press_node.specs.declared.event.Event.{Event}
use Rattle.press_node.specs.declared.event.Event.TheVariants.{Submit, Wake, Deliver}
use Rattle.press_node.specs.declared.fault.NodeFault.{NodeFault}
use Rattle.press_node.specs.declared.fault.NodeFault.TheVariants.{Down, TooLong, Full, SlotsUsedUp, RoundsUsedUp, NoMemory}
use Rattle.press_node.specs.EventPlans.{calls_where, event_calls, event_plan, WantsRound}
use Rattle.press_node.specs.Faults.{of_store, stops}
use Rattle.press_node.specs.NodeEvent.{RunningNode, quiet, is_for, on_body, on_event}
use Rattle.press_node.specs.Plays.{IsStopped, IsLast, PlaysUp, PlaysWhere, messages_of_result, state_move}
use Rattle.press_node.specs.Refusals.{is_at_end, or_next, refusal, refusal_up, refusal_by_rounds}
use Rattle.press_node.specs.States.{NodeState, Up, answer_in, running_in}
use Rattle.press_world.specs.Acts.{DoesAt, Fails, FailsAt}
use Rattle.press_world.specs.Worlds.{Place}
use Rattle.press_world.proofs.Stored.{promise_saves}

-- what is seen of a store in memory
abbrev pub memory_seen : StoreMap → Seen
memory_seen s = record { is_honest = Unit {0}; is_open = true; kept = s; may_leave = λ left. left ≡ s; faults = 0; ends = EndsInMemory s }

-- ---- which faults there are

one_end : (t : StoreMap) (c : Call) (f : StoreFault) → EndsInMemory t c (Some f) → f ≡ store_fault.NoMemory
one_end t (LoadsBlock block) f e = e.0
one_end t (SavesPromise block) f e = e
one_end t (SavesVote slot) f e = e
one_end t LoadsRound f e = cc
one_end t SavesRound f e = cc

last_end : (t : StoreMap) (calls : List Call) (f : StoreFault) → LastEnds calls (memory_seen t) (Some f) → f ≡ store_fault.NoMemory
last_end t [] f e = absurd e
last_end t (c ∷ cs) f (inl e) = one_end t c f e
last_end t (c ∷ cs) f (inr e) = last_end t cs f e

module _ (s t : StoreMap) where
  trusts : (calls : List Call) → Trusts calls (store_move memory_seen s t)
  trusts [] = tt
  trusts (c ∷ cs) = tt

  memory_wanted : (calls : List Call) (takes : StoreMap → Type 0) (save : StoreMap → Option Save) (f : StoreFault) → TurnedBy calls takes save (store_move memory_seen s t) (Some f) → f ≡ store_fault.NoMemory
  memory_wanted [] takes save f turned = turned.1.0
  memory_wanted (c ∷ cs) takes save f turned = go turned.ends
    where
      go : LastEnds (c ∷ cs) (memory_seen t) (Some f) ⊎ ((f ≡ store_fault.NoMemory) × (Unit {0} → takes s) × LastEnds (c ∷ cs) (memory_seen t) None) → f ≡ store_fault.NoMemory
      go (inl e) = last_end t (c ∷ cs) f e
      go (inr e) = e.0

  -- the last round is always told
  round_told : (f : StoreFault) → Turned last_round_plan (store_move memory_seen s t) (Some f) → ⊥
  round_told f turned = go turned.ends
    where
      go : ((Some f ≡ None) ⊎ ⊥) ⊎ ((f ≡ store_fault.NoMemory) × (Unit {0} → ⊥) × ((◌≡◌ {A = Option StoreFault} None None) ⊎ ⊥)) → ⊥
      go (inl (inl e)) = cc
      go (inl (inr e)) = e
      go (inr e) = e.1 tt

  -- ---- what is saved

  done_store : (calls : List Call) (takes : StoreMap → Type 0) (save : StoreMap → Option Save) → (calls ≡ [] → save s ≡ None) → TurnedBy calls takes save (store_move memory_seen s t) None → t ≡ with_any_save s (save s)
  done_store [] takes save still turned = turned.0 ∙ ap (with_any_save s) (sym (still refl))
  done_store (c ∷ cs) takes save still turned = by (save s) (turned.saves tt)
    where
      by : (o : Option Save) → SavesIf o (memory_seen s) (memory_seen t) None → t ≡ with_any_save s o
      by None looks = looks.same refl
      by (Some x) d = d.kept

  left_store : (calls : List Call) (takes : StoreMap → Type 0) (save : StoreMap → Option Save) (f : StoreFault) → TurnedBy calls takes save (store_move memory_seen s t) (Some f) → (t ≡ s) ⊎ (t ≡ with_any_save s (save s))
  left_store [] takes save f turned = inl turned.0
  left_store (c ∷ cs) takes save f turned = by (save s) (turned.saves tt)
    where
      by : (o : Option Save) → SavesIf o (memory_seen s) (memory_seen t) (Some f) → (t ≡ s) ⊎ (t ≡ with_any_save s o)
      by None looks = inl (looks.same refl)
      by (Some x) d = d.kept refl

-- an event that doesn't ask the store saves nothing
body_still : (n id : ℕ) (store : StoreMap) (node : RunningNode) (m : Message) (body : Body) → answer_calls m.slot body ≡ [] → (on_body n id store node m body).save ≡ None
body_still n id store node m (Prepare round) e = cc
body_still n id store node m (Promise ballot votes) e = promise_saves node m.from m.slot ballot votes
body_still n id store node m (Nack refused promised) e = refl
body_still n id store node m (Accept round value) e = cc
body_still n id store node m (Accepted vote) e = refl
body_still n id store node m Query e = cc

still : (n id : ℕ) (store : StoreMap) (node : RunningNode) (event : Event) → event_calls n id node event ≡ [] → (on_event n id store node event).save ≡ None
still n id store node (Submit command) e = refl
still n id store node Wake e = go (is_content node.proposer (has_gap node.learner)) (can_ask node.proposer.phase (node.learner.applied + 1)) e
  where
    go : (b c : Bool) → cond b [] (cond c [] (LoadsRound ∷ SavesRound ∷ [])) ≡ [] →
        (cond b (asks node.proposer (node.learner.applied + 1)) (cond c (goes_on node.proposer (node.learner.applied + 1)) (prepares node.proposer (block_of (node.learner.applied + 1)) (next_round store node.proposer)))).save ≡ None
    go true c e = refl
    go false true e = refl
    go false false e = cc
still n id store node (Deliver m) e = go (is_for n id m) e
  where
    go : (b : Bool) → calls_where b (answer_calls m.slot m.body) ≡ [] → (cond b (on_body n id store node m m.body) (quiet node)).save ≡ None
    go true e = body_still n id store node m m.body e
    go false e = refl

-- ---- what is refused

pub calm : (node : RunningNode) (event : Event) (fault : NodeFault) → refusal_up node event ≡ Some fault → stops fault ≡ false
calm node (Submit command) fault e = go (is_too_long (Cmd command)) (is_full node.proposer.queue) e
  where
    go : (a b : Bool) → cond a (Some TooLong) (cond b (Some Full) None) ≡ Some fault → stops fault ≡ false
    go true b e = let q : TooLong ≡ fault = cc in subst (λ f. stops f ≡ false) q refl
    go false true e = let q : Full ≡ fault = cc in subst (λ f. stops f ≡ false) q refl
    go false false e = let q : None ≡ Some fault = e in cc
calm node Wake fault e = go (is_at_end node) e
  where
    go : (a : Bool) → cond a (Some SlotsUsedUp) None ≡ Some fault → stops fault ≡ false
    go true e = let q : SlotsUsedUp ≡ fault = cc in subst (λ f. stops f ≡ false) q refl
    go false e = let q : None ≡ Some fault = e in cc
calm node (Deliver m) fault e = let q : None ≡ Some fault = e in cc

pub by_rounds : (store : StoreMap) (node : RunningNode) (event : Event) (fault : NodeFault) → refusal_by_rounds store node event ≡ Some fault → fault ≡ RoundsUsedUp
by_rounds store node (Submit command) fault e = let q : None ≡ Some fault = e in cc
by_rounds store node Wake fault e = go (is_used_up store node.proposer node.learner.applied (has_gap node.learner)) e
  where
    go : (a : Bool) → cond a (Some RoundsUsedUp) None ≡ Some fault → fault ≡ RoundsUsedUp
    go true e = cc
    go false e = let q : None ≡ Some fault = e in cc
by_rounds store node (Deliver m) fault e = let q : None ≡ Some fault = e in cc

stopping : (by : StoreFault) → stops (of_store by) ≡ true
stopping store_fault.NoMemory = refl
stopping store_fault.Disk = refl
stopping store_fault.Damaged = refl

-- ---- an event

module _ (s t : StoreMap) (old new : NodeState) (event : Event) where
  abbrev place : Place
  place = record { store = t; up = running_in new }

  pub does_plays : (out : List Message) → PlaysWhere (running_in old) (store_move memory_seen s t) (state_move old new) event (Ok out) →
      DoesAt old.members old.id s (running_in old) event None out (record { store = t; up = running_in new })
  does_plays out p = go (running_in old) p
    where
      up : (node : RunningNode) (r : Option NodeFault) → refusal_up node event ≡ r → PlaysUp r node (store_move memory_seen s t) (state_move old new) event (Ok out) →
          DoesAt old.members old.id s (Some node) event None out (record { store = t; up = running_in new })
      up node (Some f) e p = let q : Ok out ≡ Err f = p.0 in cc
      up node None e p =
          let calls = event_calls old.members old.id node event in
          let trusted = trusts s t calls in
          record {
            passes = ap (λ o. or_next o (refusal_by_rounds s node event)) e ∙ p.passed trusted;
            messages = p.sent trusted;
            store = done_store s t calls _ (λ kept. (on_event old.members old.id kept node event).save) (still old.members old.id s node event) p.turned;
            up = p.memory trusted;
          }

      go : (o : Option RunningNode) → PlaysWhere o (store_move memory_seen s t) (state_move old new) event (Ok out) → DoesAt old.members old.id s o event None out (record { store = t; up = running_in new })
      go None p = let q : Ok out ≡ Err Down = p.0 in cc
      go (Some node) p = up node (refusal_up node event) refl p

  same_place : (o : Option RunningNode) → running_in old ≡ o → new ≡ old → t ≡ s → place ≡ record { store = s; up = o }
  same_place o e p q = λ i. record { store = q i; up = (ap running_in p ∙ e) i }

  pub fails_plays : (fault : NodeFault) → PlaysWhere (running_in old) (store_move memory_seen s t) (state_move old new) event (Err fault) →
      FailsAt old.members old.id s (running_in old) event None fault (record { store = t; up = running_in new })
  fails_plays fault p = go (running_in old) refl p
    where
      refused : (node : RunningNode) → running_in old ≡ Some node → stops fault ≡ false → refusal s (Some node) event ≡ Some fault → new ≡ old → t ≡ s → FailsAt old.members old.id s (Some node) event None fault place
      refused node e c r x y =
          subst (λ b. Fails (on_event old.members old.id s node event) (refusal s (Some node) event) fault b (record { store = s; up = Some node }) place) (sym c) (r, same_place (Some node) e x y)

      stopped : (node : RunningNode) (r : Option NodeFault) → refusal_up node event ≡ None → refusal_by_rounds s node event ≡ r →
          IsStopped (event_plan old.members old.id node event) (λ kept. refusal_by_rounds kept node event) (store_move memory_seen s t) (state_move old new) fault →
          FailsAt old.members old.id s (Some node) event None fault place
      stopped node (Some f) e r p = absurd (round_told s t p.by (p.last tt (r ∙ ap Some (by_rounds s node event f r))))
      stopped node None e r p =
          let calls = event_calls old.members old.id node event in
          let save : StoreMap → Option Save = λ kept. (on_event old.members old.id kept node event).save in
          let c : stops fault ≡ true = ap stops p.is ∙ stopping p.by in
          let wanted : fault ≡ NoMemory = p.is ∙ ap of_store (memory_wanted s t calls _ save p.by p.turned) in
          subst (λ b. Fails (on_event old.members old.id s node event) (refusal s (Some node) event) fault b (record { store = s; up = Some node }) place) (sym c) (
            wanted,
            ap (λ o. or_next o (refusal_by_rounds s node event)) e ∙ r,
            ap running_in p.down,
            left_store s t calls _ save p.by p.turned,
          )

      last : (node : RunningNode) → running_in old ≡ Some node → refusal_up node event ≡ None → IsLast (WantsRound node event) (λ kept. refusal_by_rounds kept node event) (store_move memory_seen s t) (state_move old new) fault →
          FailsAt old.members old.id s (Some node) event None fault place
      last node is e p =
          refused node is (ap stops p.is) (ap (λ o. or_next o (refusal_by_rounds s node event)) e ∙ p.none_left tt ∙ ap Some (sym p.is)) p.same ((p.turned.saves tt).same refl)

      up : (node : RunningNode) (r : Option NodeFault) → running_in old ≡ Some node → refusal_up node event ≡ r → PlaysUp r node (store_move memory_seen s t) (state_move old new) event (Err fault) →
          FailsAt old.members old.id s (Some node) event None fault place
      up node (Some f) is e p =
          let q : fault ≡ f = cc in
          let h : refusal_up node event ≡ Some fault = e ∙ ap Some (sym q) in
          refused node is (calm node event fault h) (ap (λ o. or_next o (refusal_by_rounds s node event)) h) p.1 p.2
      up node None is e (inl p) = stopped node (refusal_by_rounds s node event) e refl p
      up node None is e (inr p) = last node is e p

      go : (o : Option RunningNode) → running_in old ≡ o → PlaysWhere o (store_move memory_seen s t) (state_move old new) event (Err fault) → FailsAt old.members old.id s o event None fault place
      go None is p = let q : fault ≡ Down = cc in (q, same_place None is p.1 p.2)
      go (Some node) is p = up node (refusal_up node event) is refl p

-- at most 7 messages go out
pub few_sent : (s : StoreMap) (old : NodeState) (event : Event) (out : List Message) (new : Place) → IfSome (answer_in s old event) (λ a. length a.out ≤ 7) → DoesAt old.members old.id s (running_in old) event None out new → length out ≤ 7
few_sent s old event out new few d = go old.up few d
  where
    go : (u : Option Up) → IfSome (option_map (λ (up : Up). on_event old.members old.id s up.running event) u) (λ a. length a.out ≤ 7) → DoesAt old.members old.id s (option_map (λ (up : Up). up.running) u) event None out new → length out ≤ 7
    go None few d = absurd d
    go (Some up) few d = subst (λ o. length o ≤ 7) (sym d.messages) few

-- ---- as a call answers it

module _ {T : Type 0} (items : T → List Message) (s t : StoreMap) (old new : NodeState) (event : Event) where
  abbrev Played : Result T NodeFault → Type 0
  Played r = PlaysWhere (running_in old) (store_move memory_seen s t) (state_move old new) event (messages_of_result items r)

  pub ok_on : (r : Result T NodeFault) → Played r → IfOk r (λ out. DoesAt old.members old.id s (running_in old) event None (items out) (record { store = t; up = running_in new }))
  ok_on (Ok out) p = does_plays s t old new event (items out) p
  ok_on (Err f) p = tt

  pub err_on : (r : Result T NodeFault) → Played r → IfErr r (λ fault. FailsAt old.members old.id s (running_in old) event None fault (record { store = t; up = running_in new }))
  err_on (Ok out) p = tt
  err_on (Err f) p = fails_plays s t old new event f p

  pub few_on : (r : Result T NodeFault) → IfSome (answer_in s old event) (λ a. length a.out ≤ 7) → Played r → IfOk r (λ out. length (items out) ≤ 7)
  few_on (Ok out) few p = few_sent s old event (items out) (record { store = t; up = running_in new }) few (does_plays s t old new event (items out) p)
  few_on (Err f) few p = tt
