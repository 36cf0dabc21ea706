-- What a node does at an event over any store that is honest, by what every node says of it.
use Rattle.std.proofs.Common.{ℕ, ◌+◌, ◌≡◌, ◌⊎◌, inl, inr, IsTrue, Bool, true, false, cond, List, [], ◌∷◌, ◌++◌, Option, None, Some, Result, Ok, Err, refl, sym, subst, ap, ◌∙◌}
use Rattle.std.proofs.lemmas.Bool.{cond_both}
use Rattle.press_wire.specs.Blocks.{block_of}
use Rattle.press_wire.specs.declared.ballot.Ballot.{Ballot}
use Rattle.press_wire.specs.declared.message.Body.{Body}
use Rattle.press_wire.specs.declared.message.Body.TheVariants.{Prepare, Promise, Nack, Accept, Accepted, Query}
use Rattle.press_wire.specs.declared.message.Message.{Message}
use Rattle.press_wire.specs.declared.votes.SlotVote.{SlotVote}
use Rattle.press_acceptor.specs.Plans.{answer_calls}
use Rattle.press_acceptor.specs.Seen.{Call, Seen, Looks, SavesIf}
use Rattle.press_acceptor.specs.Seen.Call.{LoadsRound, SavesRound}
use Rattle.press_acceptor.specs.StoreMap.{StoreMap, Save, with_save, with_any_save}
use Rattle.press_acceptor.specs.Turned.{Trusts, Turned, TurnedBy, store_move}
use Rattle.press_acceptor.specs.declared.fault.StoreFault.{StoreFault}
use Rattle.press_learner.specs.Chosen.{has_gap}
use Rattle.press_proposer.specs.Phases.{awaits, can_ask, promises_in, with_promise}
use Rattle.press_proposer.specs.Proposing as proposer
use Rattle.press_proposer.specs.Proposing.{ProposerState, in_phase}
use Rattle.press_proposer.specs.Promises.{is_majority}
use Rattle.press_proposer.specs.declared.promises.Promise as one
use Rattle.press_proposer.specs.Turns.{is_content, is_used_up, next_round, asks, goes_on, prepares, proposes, turn_with_promise, promise_turn}
use Rattle.press_proposer.specs.Wakes.{last_round_plan}
use Rattle.press_node.specs.declared.event.Event.{Event}
use Rattle.press_node.specs.declared.event.Event.TheVariants.{Submit, Wake, Deliver}
use Rattle.press_node.specs.declared.fault.NodeFault.{NodeFault}
use Rattle.press_node.specs.declared.fault.NodeFault.TheVariants.{RoundsUsedUp}
use Rattle.press_node.specs.EventPlans.{calls_where, event_calls, event_plan, WantsRound}
use Rattle.press_node.specs.NodeEvent.{Answer, RunningNode, by_proposer, is_at_end, is_for, on_body, on_event, promise_answer, quiet}
use Rattle.press_node.specs.Plays.{IsDone, IsLast, IsStopped, Plays, PlaysUp, PlaysWhere, state_move}
use Rattle.press_node.specs.Refusals.{or_next, refusal, refusal_up, refusal_by_rounds}
use Rattle.press_node.specs.States.{NodeState, running_in}
use Rattle.press_member.specs.Acting.{IsSettled, IsSaved, ActsUp, ActsIn}
use Rattle.press_member.specs.Members.{out_of}

-- ---- an event that doesn't ask the store saves nothing

promise_saves : (node : RunningNode) (from block : ℕ) (ballot : Ballot) (votes : List SlotVote) → (promise_answer node from block ballot votes).save ≡ None
promise_saves node from block ballot votes =
    cond_both (is_at_end node) (quiet node) (by_proposer node (promise_turn node.proposer from block ballot votes node.learner.applied)) (λ (a : Answer). a.save ≡ None) (λ e. refl) (λ e. turn)
  where
    p : ProposerState
    p = node.proposer

    promise : one.Promise
    promise = record { from = from; votes = votes }

    turn : (promise_turn node.proposer from block ballot votes node.learner.applied).save ≡ None
    turn =
        cond_both (awaits p.phase from block ballot) (turn_with_promise p block ballot (promises_in p.phase) promise (node.learner.applied + 1)) (proposer.quiet p)
        (λ turn. turn.save ≡ None)
        (λ e. cond_both (is_majority p.members (promises_in p.phase ++ promise ∷ []))
        (proposes p block ballot (promises_in p.phase ++ promise ∷ []) (node.learner.applied + 1)) (proposer.quiet (in_phase p (with_promise p.phase promise)))
        (λ turn. turn.save ≡ None) (λ h. refl) (λ h. refl))
        (λ e. refl)

body_still : (n id : ℕ) (store : StoreMap) (node : RunningNode) (m : Message) (body : Body) → answer_calls m.slot body ≡ [] → (on_body n id store node m body).save ≡ None
body_still n id store node m (Prepare round) e = cc
body_still n id store node m (Promise ballot votes) e = promise_saves node m.from m.slot ballot votes
body_still n id store node m (Nack refused promised) e = refl
body_still n id store node m (Accept round value) e = cc
body_still n id store node m (Accepted vote) e = refl
body_still n id store node m Query e = cc

still : (n id : ℕ) (store : StoreMap) (node : RunningNode) (event : Event) → event_calls n id node event ≡ [] → (on_event n id store node event).save ≡ None
still n id store node (Submit command) e = refl
still n id store node Wake e = go (is_content node.proposer (has_gap node.learner)) (can_ask node.proposer.phase (node.learner.applied + 1)) e
  where
    go : (b c : Bool) → cond b [] (cond c [] (LoadsRound ∷ SavesRound ∷ [])) ≡ [] →
        (cond b (asks node.proposer (node.learner.applied + 1)) (cond c (goes_on node.proposer (node.learner.applied + 1)) (prepares node.proposer (block_of (node.learner.applied + 1)) (next_round store node.proposer)))).save ≡ None
    go true c e = refl
    go false true e = refl
    go false false e = cc
still n id store node (Deliver m) e = go (is_for n id m) e
  where
    go : (b : Bool) → calls_where b (answer_calls m.slot m.body) ≡ [] → (cond b (on_body n id store node m m.body) (quiet node)).save ≡ None
    go true e = body_still n id store node m m.body e
    go false e = refl

-- a store refuses for want of rounds alone
by_rounds : (store : StoreMap) (node : RunningNode) (event : Event) (fault : NodeFault) → refusal_by_rounds store node event ≡ Some fault → fault ≡ RoundsUsedUp
by_rounds store node (Submit command) fault e = let q : None ≡ Some fault = e in cc
by_rounds store node Wake fault e = go (is_used_up store node.proposer node.learner.applied (has_gap node.learner)) e
  where
    go : (a : Bool) → cond a (Some RoundsUsedUp) None ≡ Some fault → fault ≡ RoundsUsedUp
    go true e = cc
    go false e = let q : None ≡ Some fault = e in cc
by_rounds store node (Deliver m) fault e = let q : None ≡ Some fault = e in cc

module _ {S : Type 0} (seen : S → Seen) (s t : S) (settled : IsSettled seen s (seen s).kept) (honest : (seen t).is_honest) where
  trusts : (calls : List Call) → Trusts calls (store_move seen s t)
  trusts [] = tt
  trusts (c ∷ cs) = honest

  -- what is the very same is settled as before
  same_settled : t ≡ s → IsSettled seen t (seen s).kept
  same_settled e = subst (λ x. IsSettled seen x (seen s).kept) (sym e) settled

  looked_settled : IsTrue (seen t).is_open → Looks (seen s) (seen t) → IsSettled seen t (seen s).kept
  looked_settled opened looks = record { is_open = opened; keeps = looks.same opened; only = λ left m. settled.only left (looks.crash left m) }

  -- ---- what is saved

  done_store : (calls : List Call) (takes : StoreMap → Type 0) (save : StoreMap → Option Save) → (calls ≡ [] → save (seen s).kept ≡ None) → TurnedBy calls takes save (store_move seen s t) None →
      IsSettled seen t (with_any_save (seen s).kept (save (seen s).kept))
  done_store [] takes save still turned = subst (λ o. IsSettled seen t (with_any_save (seen s).kept o)) (sym (still refl)) (same_settled turned.0)
  done_store (c ∷ cs) takes save still turned = by (save (seen s).kept) (turned.saves honest)
    where
      by : (o : Option Save) → SavesIf o (seen s) (seen t) None → IsSettled seen t (with_any_save (seen s).kept o)
      by None looks = looked_settled (turned.is_open refl honest) looks
      by (Some x) d = record { is_open = d.is_open; keeps = d.kept; only = λ left m. d.durable left m ∙ d.kept }

  left_store : (calls : List Call) (takes : StoreMap → Type 0) (save : StoreMap → Option Save) (f : StoreFault) → TurnedBy calls takes save (store_move seen s t) (Some f) →
      (left : StoreMap) → (seen t).may_leave left → (left ≡ (seen s).kept) ⊎ ((x : Save) × (save (seen s).kept ≡ Some x) × (left ≡ with_save (seen s).kept x))
  left_store [] takes save f turned left m = inl ((same_settled turned.0).only left m)
  left_store (c ∷ cs) takes save f turned left m = by (save (seen s).kept) refl (turned.saves honest)
    where
      by : (o : Option Save) → save (seen s).kept ≡ o → SavesIf o (seen s) (seen t) (Some f) → (left ≡ (seen s).kept) ⊎ ((x : Save) × (save (seen s).kept ≡ Some x) × (left ≡ with_save (seen s).kept x))
      by None is looks = inl (settled.only left (looks.crash left m))
      by (Some x) is d = go (d.crash left m)
        where
          go : (seen s).may_leave left ⊎ (IsTrue (seen s).is_open × (left ≡ with_save (seen s).kept x)) → (left ≡ (seen s).kept) ⊎ ((x : Save) × (save (seen s).kept ≡ Some x) × (left ≡ with_save (seen s).kept x))
          go (inl m) = inl (settled.only left m)
          go (inr e) = inr (x, is, e.1)

  looks_at_round : (f : Option StoreFault) → Turned last_round_plan (store_move seen s t) f → Looks (seen s) (seen t)
  looks_at_round f turned = turned.saves honest

  -- ---- an event

  module _ (old new : NodeState) (event : Event) (outcome : Result (List Message) NodeFault) where
    abbrev Acted : Option RunningNode → Type 0
    Acted o = ActsUp seen s t (seen s).kept old.members old.id o (running_in new) event outcome

    done : (node : RunningNode) (out : List Message) → outcome ≡ Ok out → refusal_up node event ≡ None →
        IsDone (event_plan old.members old.id node event) (λ kept. on_event old.members old.id kept node event) (λ kept. refusal_by_rounds kept node event) (store_move seen s t) (state_move old new) out → Acted (Some node)
    done node out is e p =
        let calls = event_calls old.members old.id node event in
        let trusted = trusts calls in
        inl (record {
          passes = ap (λ o. or_next o (refusal_by_rounds (seen s).kept node event)) e ∙ p.passed trusted;
          sends = is ∙ ap Ok (p.sent trusted);
          goes_on = p.memory trusted;
          settled = done_store calls _ (λ kept. (on_event old.members old.id kept node event).save) (still old.members old.id (seen s).kept node event) p.turned;
        })

    refused : (node : RunningNode) (fault : NodeFault) → running_in old ≡ Some node → outcome ≡ Err fault → new ≡ old → IsSettled seen t (seen s).kept → Acted (Some node)
    refused node fault up is same settled = inr (inl (record { sends = ap out_of is; stays = ap running_in same ∙ up; settled = settled }))

    stopped : (node : RunningNode) (fault : NodeFault) (r : Option NodeFault) → outcome ≡ Err fault → refusal_up node event ≡ None → refusal_by_rounds (seen s).kept node event ≡ r →
        IsStopped (event_plan old.members old.id node event) (λ kept. refusal_by_rounds kept node event) (store_move seen s t) (state_move old new) fault → Acted (Some node)
    stopped node fault (Some f) is e r p =
        let looks = looks_at_round (Some p.by) (p.last honest (r ∙ ap Some (by_rounds (seen s).kept node event f r))) in
        inr (inr (record { sends = ap out_of is; down = ap running_in p.down; leaves = λ left m. inl (settled.only left (looks.crash left m)) }))
    stopped node fault None is e r p =
        let calls = event_calls old.members old.id node event in
        let save : StoreMap → Option Save = λ kept. (on_event old.members old.id kept node event).save in
        inr (inr (record { sends = ap out_of is; down = ap running_in p.down; leaves = λ left m. go left (left_store calls _ save p.by p.turned left m) }))
      where
        go : (left : StoreMap) → (left ≡ (seen s).kept) ⊎ ((x : Save) × ((on_event old.members old.id (seen s).kept node event).save ≡ Some x) × (left ≡ with_save (seen s).kept x)) →
            (left ≡ (seen s).kept) ⊎ IsSaved seen (seen s).kept (on_event old.members old.id (seen s).kept node event) (refusal (seen s).kept (Some node) event) left
        go left (inl h) = inl h
        go left (inr h) = inr (h.0, ap (λ o. or_next o (refusal_by_rounds (seen s).kept node event)) e ∙ r, h.1, h.2)

    last : (node : RunningNode) (fault : NodeFault) → running_in old ≡ Some node → outcome ≡ Err fault →
        IsLast (WantsRound node event) (λ kept. refusal_by_rounds kept node event) (store_move seen s t) (state_move old new) fault → Acted (Some node)
    last node fault up is p =
        refused node fault up is p.same (looked_settled (p.turned.is_open refl honest) (looks_at_round None p.turned))

    up_acts : (node : RunningNode) (r : Option NodeFault) (o : Result (List Message) NodeFault) → running_in old ≡ Some node → outcome ≡ o → refusal_up node event ≡ r → PlaysUp r node (store_move seen s t) (state_move old new) event o → Acted (Some node)
    up_acts node (Some f) o up is e p = refused node f up (is ∙ p.0) p.1 (same_settled p.2)
    up_acts node None (Ok out) up is e p = done node out is e p
    up_acts node None (Err fault) up is e (inl p) = stopped node fault (refusal_by_rounds (seen s).kept node event) is e refl p
    up_acts node None (Err fault) up is e (inr p) = last node fault up is p

    pub acts : Plays (store_move seen s t) (state_move old new) event outcome → ActsIn seen s t (seen s).kept old new event outcome
    acts p = go (running_in old) refl p
      where
        go : (o : Option RunningNode) → running_in old ≡ o → PlaysWhere o (store_move seen s t) (state_move old new) event outcome → Acted o
        go None is p = (p.2, ap running_in p.1 ∙ is, ap out_of p.0)
        go (Some node) is p = up_acts node (refusal_up node event) outcome is refl refl p
