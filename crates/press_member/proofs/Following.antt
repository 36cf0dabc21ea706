-- What a node has applied goes on while its store keeps its word, and its digests with it.
use Rattle.std.proofs.Common.{ℕ, zero, suc, ◌≤◌, ◌≡◌, ◌⊎◌, inl, inr, Bool, true, false, cond, List, [], ◌∷◌, ◌++◌, length, take, Option, None, Some, Result, Ok, Err, OnOk, IsTrue, refl, sym, subst, ap, ◌∙◌, append-nil, append_assoc, arith}
use Rattle.std.proofs.lemmas.List.{length-append}
use Rattle.std.specs.Prelude.{option_map}
use Rattle.std.proofs.lemmas.Bool.{cond_both}
use Rattle.std.specs.declared.alloc.AllocError.{AllocError}
use Rattle.press_apply.specs.declared.value.Value.{Value}
use Rattle.press_chain.specs.Chains.{IsChainOf}
use Rattle.press_chain.specs.declared.chain.Chain.{Chain}
use Rattle.press_chain.proofs.Keeping.{same_firsts}
use Rattle.press_wire.specs.declared.ballot.Ballot.{Ballot}
use Rattle.press_wire.specs.declared.message.Body.{Body}
use Rattle.press_wire.specs.declared.message.Body.TheVariants.{Prepare, Promise, Nack, Accept, Accepted, Query}
use Rattle.press_wire.specs.declared.message.Message.{Message}
use Rattle.press_wire.specs.declared.votes.SlotVote.{SlotVote}
use Rattle.press_acceptor.specs.Seen.{Call, Seen}
use Rattle.press_acceptor.specs.StoreMap.{StoreMap}
use Rattle.press_acceptor.specs.Turned.{StoreMove, Trusts, store_move}
use Rattle.press_learner.specs.Chosen.{chosen_next}
use Rattle.press_learner.specs.Kept.{with_vote}
use Rattle.press_proposer.specs.Turns.{promise_turn}
use Rattle.press_node.specs.EventPlans.{event_calls}
use Rattle.press_node.specs.NodeEvent.{Answer, RunningNode, applies, by_proposer, if_chosen, is_at_end, is_for, on_body, on_event, promise_answer, quiet, with_all_applied, with_applied, with_learner}
use Rattle.press_node.specs.Nodes.{IsPlayed, NodeMove}
use Rattle.press_node.specs.Plays.{Plays, PlaysUp, PlaysWhere, state_move}
use Rattle.press_node.specs.Refusals.{refusal_up}
use Rattle.press_node.specs.States.{NodeState, Up, applied_values, running_in, values_where}
use Rattle.press_node.specs.declared.event.Event.{Event}
use Rattle.press_node.specs.declared.event.Event.TheVariants as event
use Rattle.press_node.specs.declared.fault.NodeFault.{NodeFault}
use Rattle.press_member.specs.Acts.{Acts, Has, TakesMemory, View}
use Rattle.press_member.specs.Following.{joined}
use Rattle.press_member.specs.Deeds.{Deed, Does, own_after}
use Rattle.press_member.specs.Deeds.Deed.{Plays as Playing, Asks as Asking}
use Rattle.press_member.specs.declared.input.Input.{Input}
use Rattle.press_member.specs.declared.input.Input.TheVariants as input
use Rattle.press_member.specs.declared.output.Outputs.{Outputs}
use Rattle.press_member.proofs.Coming.{honest_back}

-- ---- values are only added

abbrev Grows : List Value → List Value → Type 0
Grows old new = (more : List Value) × (new ≡ old ++ more)

grows_not : (old new : List Value) → new ≡ old → Grows old new
grows_not old new e = ([], e ∙ sym (append-nil old))

grows_then : (a b c : List Value) → Grows a b → Grows b c → Grows a c
grows_then a b c g h = (g.0 ++ h.0, h.1 ∙ ap (λ l. l ++ h.0) g.1 ∙ append_assoc a g.0 h.0)

applies_grow : (most : ℕ) (node : RunningNode) → Grows node.values (applies most node).values
applies_grow zero node = grows_not node.values node.values refl
applies_grow (suc most) node = go (chosen_next node.learner) (λ value. applies_grow most (with_applied node value))
  where
    go : (o : Option Value) → ((value : Value) → Grows (node.values ++ value ∷ []) (applies most (with_applied node value)).values) → Grows node.values (if_chosen o (λ value. applies most (with_applied node value)) node).values
    go None h = grows_not node.values node.values refl
    go (Some value) h = let g = h value in (value ∷ g.0, g.1 ∙ append_assoc node.values (value ∷ []) g.0)

settled_grow : (node : RunningNode) → Grows node.values (with_all_applied node).values
unfolding with_all_applied
settled_grow node = applies_grow 64 node

promise_same : (node : RunningNode) (from block : ℕ) (ballot : Ballot) (votes : List SlotVote) → (promise_answer node from block ballot votes).after.values ≡ node.values
promise_same node from block ballot votes =
    cond_both (is_at_end node) (quiet node) (by_proposer node (promise_turn node.proposer from block ballot votes node.learner.applied)) (λ (a : Answer). a.after.values ≡ node.values) (λ e. refl) (λ e. refl)

body_grows : (n id : ℕ) (store : StoreMap) (node : RunningNode) (m : Message) (body : Body) → Grows node.values (on_body n id store node m body).after.values
body_grows n id store node m (Prepare round) = grows_not node.values node.values refl
body_grows n id store node m (Promise ballot votes) = grows_not node.values _ (promise_same node m.from m.slot ballot votes)
body_grows n id store node m (Nack refused promised) = grows_not node.values node.values refl
body_grows n id store node m (Accept round value) = grows_not node.values node.values refl
body_grows n id store node m (Accepted vote) = settled_grow (with_learner node (with_vote node.learner m.from m.slot vote))
body_grows n id store node m Query = grows_not node.values node.values refl

event_grows : (n id : ℕ) (store : StoreMap) (node : RunningNode) (e : Event) → Grows node.values (on_event n id store node e).after.values
event_grows n id store node (event.Submit command) = grows_not node.values node.values refl
event_grows n id store node event.Wake = grows_not node.values node.values refl
event_grows n id store node (event.Deliver m) = go (is_for n id m)
  where
    go : (b : Bool) → Grows node.values (cond b (on_body n id store node m m.body) (quiet node)).after.values
    go true = body_grows n id store node m m.body
    go false = grows_not node.values node.values refl

-- ---- of a node, unless it is down

up_values : (u : Option Up) (node : RunningNode) → option_map (λ (up : Up). up.running) u ≡ Some node → values_where u ≡ node.values
up_values None node e = absurd (let f = e in cc)
up_values (Some up) node e = let k : up.running ≡ node = cc in ap (λ (n : RunningNode). n.values) k

no_values : (u : Option Up) → option_map (λ (up : Up). up.running) u ≡ None → values_where u ≡ []
no_values None e = refl
no_values (Some up) e = absurd (let f = e in cc)

-- it is down, or has applied these values, and maybe more
abbrev GoesOn : List Value → NodeState → Type 0
GoesOn values state = (running_in state ≡ None) ⊎ Grows values (applied_values state)

trusts : (calls : List Call) (m : StoreMove) → m.new.is_honest → Trusts calls m
trusts [] m h = tt
trusts (c ∷ cs) m h = h

module _ {S : Type 0} (seen : S → Seen) (s t : S) (honest : (seen t).is_honest) where
  event_goes_on : (values : List Value) (old new : NodeState) (e : Event) (o : Result (List Message) NodeFault) → Plays (store_move seen s t) (state_move old new) e o → GoesOn values old → GoesOn values new
  event_goes_on values old new e o p before = go (running_in old) refl p
    where
      same : new ≡ old → GoesOn values new
      same is = subst (GoesOn values) (sym is) before

      more : (node : RunningNode) → running_in old ≡ Some node → running_in new ≡ Some (on_event old.members old.id (seen s).kept node e).after → GoesOn values old → GoesOn values new
      more node was is (inl none) = absurd (let f : Some node ≡ None = sym was ∙ none in cc)
      more node was is (inr grown) =
          let first : Grows values node.values = (grown.0, sym (up_values old.up node was) ∙ grown.1) in
          let next = grows_then values node.values (on_event old.members old.id (seen s).kept node e).after.values first (event_grows old.members old.id (seen s).kept node e) in
          inr (next.0, up_values new.up (on_event old.members old.id (seen s).kept node e).after is ∙ next.1)

      up : (node : RunningNode) → running_in old ≡ Some node → (r : Option NodeFault) (q : Result (List Message) NodeFault) → PlaysUp r node (store_move seen s t) (state_move old new) e q → GoesOn values new
      up node was (Some f) q h = same h.1
      up node was None (Ok out) h = more node was (h.memory (trusts (event_calls old.members old.id node e) (store_move seen s t) honest)) before
      up node was None (Err f) (inl h) = inl (ap running_in h.down)
      up node was None (Err f) (inr h) = same h.same

      go : (r : Option RunningNode) → running_in old ≡ r → PlaysWhere r (store_move seen s t) (state_move old new) e o → GoesOn values new
      go None was h = same h.1
      go (Some node) was h = up node was (refusal_up node e) o h

take_front : (n : ℕ) (xs ys : List Value) → n ≤ length xs → take n (xs ++ ys) ≡ take n xs
take_front zero xs ys few = refl
take_front (suc n) [] ys few = absurd (omega (arith, few))
take_front (suc n) (x ∷ xs) ys few = ap (λ l. x ∷ l) (take_front n xs ys (omega (arith, few)))

-- digests of the first of these values are those of the first of more
longer : (values more : List Value) (chain : Chain) → IsChainOf values chain → IsChainOf (values ++ more) chain
longer values more chain kept =
    same_firsts values (values ++ more) chain.count chain.digest chain.block_digest chain.recent.items chain.blocks.items (λ n few. take_front n values more (omega (arith, few, kept.few))) (omega (arith, kept.few, length-append values more)) kept

module _ {S N : Type 0} (seen : S → Seen) (node_moves : N → N → NodeMove) (store : N → S) (state : N → NodeState)
    (is : (a b : N) (e : Event) (o : Result (List Message) NodeFault) → (node_moves a b).plays e o → IsPlayed (state a) (state b) (Plays (store_move seen (store a) (store b)) (state_move (state a) (state b)) e o))
    (ups : (a b : N) → (node_moves a b).up ≡ (state a).up)
    (n id : ℕ) where
  honest_first : (own : List Message) (ds : List (Deed N)) (a b : N) → Does node_moves n id own a ds b → (seen (store b)).is_honest → (seen (store a)).is_honest
  honest_first own [] a b d h = subst (λ x. (seen (store x)).is_honest) d h
  honest_first own (Playing cause e o kept next ∷ ds) a b d h =
      honest_back seen (store a) (store next) (honest_first (own_after id own (Playing cause e o kept next)) ds next b d.3 h) (state a) (state next) e o (is a next e o d.1).plays
  honest_first own (Asking to slot kept ∷ ds) a b d h = honest_first (own_after {N = N} id own (Asking to slot kept)) ds a b d.2 h

  deeds_go_on : (values : List Value) (own : List Message) (ds : List (Deed N)) (a b : N) → Does node_moves n id own a ds b → (seen (store b)).is_honest → GoesOn values (state a) → GoesOn values (state b)
  deeds_go_on values own [] a b d h before = subst (λ x. GoesOn values (state x)) (sym d) before
  deeds_go_on values own (Playing cause e o kept next ∷ ds) a b d h before =
      let more = own_after id own (Playing cause e o kept next) in
      deeds_go_on values more ds next b d.3 h (event_goes_on seen (store a) (store next) (honest_first more ds next b d.3 h) values (state a) (state next) e o (is a next e o d.1).plays before)
  deeds_go_on values own (Asking to slot kept ∷ ds) a b d h before = deeds_go_on values (own_after {N = N} id own (Asking to slot kept)) ds a b d.2 h before

  -- digests that follow what the node has applied by now are right where they were right before
  pub acts_digest : (i : Input) (old mid : View N) (result : Result Outputs AllocError) (chain : Chain) → old.members ≡ n → old.id ≡ id → Acts node_moves i old mid result →
      (((length (applied_values (state mid.node)) ≡ 0) ⊎ IsChainOf (applied_values (state mid.node)) mid.chain) → IsChainOf (applied_values (state mid.node)) chain) →
      (seen (store mid.node)).is_honest → IsChainOf (applied_values (state old.node)) old.chain → IsChainOf (applied_values (state mid.node)) chain
  acts_digest i old mid result chain count own acts follows h kept =
      follows (go (deeds_go_on (applied_values (state old.node)) old.own acts.turned.deeds old.node mid.node
      (subst (λ m. Does node_moves m id old.own old.node acts.turned.deeds mid.node) count (subst (λ j. Does node_moves old.members j old.own old.node acts.turned.deeds mid.node) own acts.turned.does)) h (inr (grows_not (applied_values (state old.node)) (applied_values (state old.node)) refl))))
    where
      stays : IsChainOf (applied_values (state mid.node)) old.chain → IsChainOf (applied_values (state mid.node)) mid.chain
      stays k = subst (λ u. IsChainOf (values_where u) mid.chain) (ups mid.node mid.node) (acts.chain (subst (λ u. IsChainOf (values_where u) old.chain) (sym (ups mid.node mid.node)) k))

      go : GoesOn (applied_values (state old.node)) (state mid.node) → (length (applied_values (state mid.node)) ≡ 0) ⊎ IsChainOf (applied_values (state mid.node)) mid.chain
      go (inl none) = inl (ap length (no_values (state mid.node).up none))
      go (inr grown) = inr (stays (subst (λ l. IsChainOf l old.chain) (sym grown.1) (longer (applied_values (state old.node)) grown.0 old.chain kept)))

pub by_values : (xs ys : List Value) (a b : Chain) → xs ≡ ys → (((length xs ≡ 0) ⊎ IsChainOf xs a) → IsChainOf xs b) → ((length ys ≡ 0) ⊎ IsChainOf ys a) → IsChainOf ys b
by_values xs ys a b e = subst (λ l. ((length l ≡ 0) ⊎ IsChainOf l a) → IsChainOf l b) e

-- ---- what an input did, behind it

-- a member whose digests are these
abbrev pub with_chain : {N : Type 0} → View N → Chain → View N
with_chain view chain = record {
  id = view.id;
  members = view.members;
  digests = view.digests;
  node = view.node;
  own = view.own;
  stop = view.stop;
  is_open = view.is_open;
  chain = chain;
  differing = view.differing;
}

-- where memory was wanting at the end
weaker : {N : Type 0} (old : View N) (up : Option Up) (i : Input) (refused : Option NodeFault) (ds : List (Deed N)) → Has old up (IsTrue true) i refused ds → Has old up (IsTrue false) i refused ds
weaker old up (input.Command command) refused ds h = h
weaker old up (input.Page target) refused ds h = h
weaker old up (input.Message message) refused ds h = h
weaker old up (input.Report from report) refused ds h = h
weaker old up (input.Ended to asked is_taken) refused ds h = h
weaker old up input.HearOwn refused ds h = record { heard = h.heard; more = h.more; are = h.are; hears = record { are = h.hears.are; few = h.hears.few; all = λ w. h.hears.all refl }; wakes = h.wakes }
weaker old up (input.Time now) refused ds h = h

module _ {N : Type 0} (moved : N → N → NodeMove) where
  abbrev Right : View N → Chain → Type 0
  Right view chain = IsChainOf (values_where (moved view.node view.node).up) chain

  pub followed : (i : Input) (old mid : View N) (result : Result Outputs AllocError) (chain : Chain) → (Right mid mid.chain → Right mid chain) → Acts moved i old mid result → Acts moved i old (with_chain mid chain) result
  followed i old mid result chain follows a = record {
    id = a.id;
    members = a.members;
    digests = a.digests;
    kit = a.kit;
    refused = a.refused;
    out = a.out;
    turned = a.turned;
    sent = a.sent;
    answered = a.answered;
    memory = a.memory;
    chain = λ h. follows (a.chain h);
    notes = a.notes;
  }

  -- and memory was wanting for that
  pub lost : (i : Input) (old mid : View N) (outputs : Outputs) (fault : AllocError) (chain : Chain) → (Right mid mid.chain → Right mid chain) → TakesMemory old i → Acts moved i old mid (Ok outputs) → Acts moved i old (with_chain mid chain) (Err fault)
  lost i old mid outputs fault chain follows takes a = record {
    id = a.id;
    members = a.members;
    digests = a.digests;
    kit = a.kit;
    refused = a.refused;
    out = a.out;
    turned = record {
      deeds = a.turned.deeds;
      does = a.turned.does;
      own_is = a.turned.own_is;
      stop_is = a.turned.stop_is;
      out_is = a.turned.out_is;
      kind = weaker old (moved old.node old.node).up i a.refused a.turned.deeds a.turned.kind;
      whole = λ w. a.turned.whole refl;
    };
    sent = tt;
    answered = tt;
    memory = takes;
    chain = λ h. follows (a.chain h);
    notes = a.notes;
  }

  -- as the member ends
  pub outcome_acts : {T : Type 0} (i : Input) (old mid : View N) (result : Result Outputs AllocError) (put : Result T AllocError) (may : Bool) (chain : Chain) → (Right mid mid.chain → Right mid chain) → (may ≡ true → TakesMemory old i) → Acts moved i old mid result →
      Acts moved i old (with_chain mid chain) (joined result put may)
  outcome_acts i old mid (Err fault) put may chain follows takes a = followed i old mid (Err fault) chain follows a
  outcome_acts i old mid (Ok outputs) (Ok done) may chain follows takes a = followed i old mid (Ok outputs) chain follows a
  outcome_acts i old mid (Ok outputs) (Err fault) true chain follows takes a = lost i old mid outputs fault chain follows (takes refl) a
  outcome_acts i old mid (Ok outputs) (Err fault) false chain follows takes a = followed i old mid (Ok outputs) chain follows a

-- where nothing was wanting
pub outcome_all : {T : Type 0} (result : Result Outputs AllocError) (put : Result T AllocError) (may : Bool) (Takes All : Type 0) → OnOk put All → (may ≡ false → Takes → ⊥) → OnOk (joined result put may) (Takes → All)
outcome_all (Err fault) put may Takes All all never = tt
outcome_all (Ok outputs) (Ok done) may Takes All all never = λ t. all
outcome_all (Ok outputs) (Err fault) true Takes All all never = tt
outcome_all (Ok outputs) (Err fault) false Takes All all never = λ t. absurd (never refl t)
