-- What happens to a node of a world is a step of it.
use Rattle.std.proofs.Common.{ℕ, zero, suc, ◌+◌, ◌-◌, ◌<◌, ◌≡◌, ◌⊎◌, inl, inr, Bool, true, false, cond, ◌&&◌, nat_le, List, [], ◌∷◌, length, slice_get, Option, None, Some, option_and_then, option_map, Result, Ok, Err, refl, sym, subst, ap, ◌∙◌, arith}
use Rattle.std.proofs.lemmas.Bool.{and_parts, leb-true, le-leb, and_from}
use Rattle.press_apply.specs.declared.command.Stamped.{Stamped}
use Rattle.press_callbacks.specs.Kits.{KitView}
use Rattle.press_wire.specs.declared.message.Message.{Message}
use Rattle.press_node.specs.declared.event.Event.{Event}
use Rattle.press_node.specs.declared.event.Event.TheVariants as event
use Rattle.press_acceptor.specs.StoreMap.{StoreMap}
use Rattle.press_page.specs.declared.reply.Reply.{Reply}
use Rattle.press_page.specs.declared.reply.Target.{Target}
use Rattle.press_node.specs.Faults.{stops}
use Rattle.press_node.specs.Nodes.{IsPageAt}
use Rattle.press_node.specs.States.{Up, is_down_where}
use Rattle.press_node.specs.declared.fault.NodeFault.{NodeFault}
use Rattle.press_node.specs.declared.fault.NodeFault.TheVariants.{Down, NoMemory}
use Rattle.press_world.specs.Happening.{Happens, event_result}
use Rattle.press_world.specs.Refusing.{get_refusal, missing_fault, message_numbered, place_numbered, event_refusal, delivery_refusal, step_refusal}
use Rattle.press_world.specs.Stepped.{Fails, FailsBy, Steps, with_cut}
use Rattle.press_world.specs.Stored.{StoredWorld, stored_comes, stored_does, stored_restarts, stored_step}
use Rattle.press_world.specs.Telling.{applied_count_in, first_of, is_cut, number_to, or_none, reply_at, step_result}
use Rattle.press_world.specs.Worlds.{Place, at_index, index_of}
use Rattle.press_world.specs.declared.fault.WorldFault.{WorldFault}
use Rattle.press_world.specs.declared.fault.WorldFault.TheVariants.{Node}
use Rattle.press_world.specs.declared.played.Played.{Played}
use Rattle.press_world.specs.declared.step.Cut.{Cut}
use Rattle.press_world.specs.declared.step.Step.{Step}
use Rattle.press_world.specs.declared.step.Step.TheVariants.{Submit, Wake, Deliver, Restart, Get}

-- ---- numbers from 1 on

pub numbered : (count number index : ℕ) → Some index ≡ index_of count number → (number ≡ index + 1) × (index < count)
numbered count number index e = go (nat_le 1 number && nat_le number count) refl e
  where
    go : (b : Bool) → (nat_le 1 number && nat_le number count) ≡ b → Some index ≡ cond b (Some (number - 1)) None → (number ≡ index + 1) × (index < count)
    go true h f =
        let p = and_parts (nat_le 1 number) (nat_le number count) h in
        let q : index ≡ number - 1 = cc in
        let one = leb-true 1 number p.0 in
        let most = leb-true number count p.1 in
        (omega (arith, q, one), omega (arith, q, one, most))
    go false h f = cc

pub index_at : (count index : ℕ) → index < count → index_of count (index + 1) ≡ Some index
index_at count index lt =
    let h = and_from (nat_le 1 (index + 1)) (nat_le (index + 1) count) (le-leb 1 (index + 1) (omega arith)) (le-leb (index + 1) count (omega (arith, lt))) in
    let e : index + 1 - 1 ≡ index = omega arith in
    ap (λ b. cond b (Some (index + 1 - 1)) None) h ∙ ap Some e

pub place_at : (s : StoredWorld) (number index : ℕ) → Some index ≡ index_of (length s.places) number → place_numbered s number ≡ slice_get s.places index
place_at s number index e = ap (option_and_then (slice_get s.places)) (sym e)

pub no_place : (s : StoredWorld) (number : ℕ) → None ≡ index_of (length s.places) number → place_numbered s number ≡ None
no_place s number e = ap (option_and_then (slice_get s.places)) (sym e)

-- the same number after a step, which leaves as many nodes
pub place_after : (s t : StoredWorld) (number index : ℕ) → Some index ≡ index_of (length s.places) number → length t.places ≡ length s.places → place_numbered t number ≡ slice_get t.places index
place_after s t number index e h = place_at t number index (e ∙ ap (λ k. index_of k number) (sym h))

-- ---- an event is a step

pub steps_of : (kit : KitView) (n : ℕ) (s t : StoredWorld) (x : Step) (which index : ℕ) (event : Event) (cut : Option Cut) (r : Result Played WorldFault) →
    step_refusal s x ≡ event_refusal (slice_get s.places index) event cut →
    ((stop : Option Cut) → stored_step n s (with_cut x stop) ≡ stored_does n s which index (slice_get s.places index) event stop) →
    with_cut x cut ≡ x → step_result kit s t x ≡ event_result s t index cut →
    Happens n s which index event cut t r → Steps kit n s x t r
steps_of kit n s t x which index event cut (Ok played) refused by own tells h =
    (refused ∙ h.0, h.1 ∙ sym (by cut) ∙ ap (stored_step n s) own, h.2 ∙ sym tells)
steps_of kit n s t x which index event cut (Err fault) refused by own tells h =
    subst (λ o. Fails s (λ stop. stored_step n s (with_cut x stop)) o fault t) (sym refused)
    (subst (λ (d : Option Cut → StoredWorld). Fails s d (event_refusal (slice_get s.places index) event cut) fault t) (λ i stop. sym (by stop) i) h)

-- ---- which step an event is

pub submit_refused : (s : StoredWorld) (number index : ℕ) (command : Stamped) (cut : Option Cut) → Some index ≡ index_of (length s.places) number →
    step_refusal s (Submit number command cut) ≡ event_refusal (slice_get s.places index) (event.Submit command) cut
submit_refused s number index command cut e = ap (λ p. event_refusal p (event.Submit command) cut) (place_at s number index e)

pub wake_refused : (s : StoredWorld) (number index : ℕ) (cut : Option Cut) → Some index ≡ index_of (length s.places) number →
    step_refusal s (Wake number cut) ≡ event_refusal (slice_get s.places index) event.Wake cut
wake_refused s number index cut e = ap (λ p. event_refusal p event.Wake cut) (place_at s number index e)

-- the message with this number is at `which`, and it is to the member at the index
pub deliver_refused : (s : StoredWorld) (number which index : ℕ) (message : Message) (cut : Option Cut) → Some which ≡ index_of (length s.sent) number → slice_get s.sent which ≡ Some message → Some index ≡ index_of (length s.places) message.to →
    step_refusal s (Deliver number cut) ≡ event_refusal (slice_get s.places index) (event.Deliver message) cut
deliver_refused s number which index message cut e at to =
    let h = (numbered (length s.places) message.to index to).0 in
    let back : message.to - 1 ≡ index = omega (arith, h) in
    ap (λ o. delivery_refusal s o cut) (ap (option_and_then (slice_get s.sent)) (sym e) ∙ at)
    ∙ ap (λ i. event_refusal (slice_get s.places i) (event.Deliver message) cut) back

pub submit_is : (n : ℕ) (s : StoredWorld) (number index : ℕ) (command : Stamped) → Some index ≡ index_of (length s.places) number → (stop : Option Cut) →
    stored_step n s (Submit number command stop) ≡ stored_does n s 0 index (slice_get s.places index) (event.Submit command) stop
submit_is n s number index command e stop = ap (λ o. at_index o (λ i. stored_does n s 0 i (slice_get s.places i) (event.Submit command) stop) s) (sym e)

pub wake_is : (n : ℕ) (s : StoredWorld) (number index : ℕ) → Some index ≡ index_of (length s.places) number → (stop : Option Cut) →
    stored_step n s (Wake number stop) ≡ stored_does n s 0 index (slice_get s.places index) event.Wake stop
wake_is n s number index e stop = ap (λ o. at_index o (λ i. stored_does n s 0 i (slice_get s.places i) event.Wake stop) s) (sym e)

pub restart_is : (n : ℕ) (s : StoredWorld) (number index : ℕ) → Some index ≡ index_of (length s.places) number →
    stored_step n s (Restart number) ≡ stored_restarts n s index (slice_get s.places index)
restart_is n s number index e = ap (λ o. at_index o (λ i. stored_restarts n s i (slice_get s.places i)) s) (sym e)

pub deliver_is : (n : ℕ) (s : StoredWorld) (number which index : ℕ) (message : Message) → Some which ≡ index_of (length s.sent) number → slice_get s.sent which ≡ Some message → Some index ≡ index_of (length s.places) message.to → (stop : Option Cut) →
    stored_step n s (Deliver number stop) ≡ stored_does n s which index (slice_get s.places index) (event.Deliver message) stop
deliver_is n s number which index message e at to stop =
    let h = (numbered (length s.places) message.to index to).0 in
    let back : message.to - 1 ≡ index = omega (arith, h) in
    ap (λ o. at_index o (λ w. stored_comes n s w (slice_get s.sent w) stop) s) (sym e)
    ∙ ap (λ o. stored_comes n s which o stop) at
    ∙ ap (λ i. stored_does n s which i (slice_get s.places i) (event.Deliver message) stop) back

told_same : (s t : StoredWorld) (number index : ℕ) (cut : Option Cut) → number ≡ index + 1 → place_numbered t number ≡ slice_get t.places index →
    ◌≡◌ {A = Played} (record {
      node = number;
      first = first_of (length s.sent) (length t.sent - length s.sent);
      count = length t.sent - length s.sent;
      stopped = is_cut cut;
      applied = or_none (applied_count_in (place_numbered t number));
      reply = None;
    }) (event_result s t index cut)
told_same s t number index cut e p = λ i. record {
  node = e i;
  first = first_of (length s.sent) (length t.sent - length s.sent);
  count = length t.sent - length s.sent;
  stopped = is_cut cut;
  applied = or_none (applied_count_in (p i));
  reply = None;
}

module _ (kit : KitView) (n : ℕ) (s t : StoredWorld) (number index : ℕ) (cut : Option Cut) (r : Result Played WorldFault) (same : length t.places ≡ length s.places) where
  pub submit_steps : (command : Stamped) → Some index ≡ index_of (length s.places) number → Happens n s 0 index (event.Submit command) cut t r → Steps kit n s (Submit number command cut) t r
  submit_steps command e h =
      steps_of kit n s t (Submit number command cut) 0 index (event.Submit command) cut r
      (submit_refused s number index command cut e)
      (submit_is n s number index command e)
      refl
      (told_same s t number index cut (numbered (length s.places) number index e).0 (place_after s t number index e same))
      h

  pub wake_steps : Some index ≡ index_of (length s.places) number → Happens n s 0 index event.Wake cut t r → Steps kit n s (Wake number cut) t r
  wake_steps e h =
      steps_of kit n s t (Wake number cut) 0 index event.Wake cut r
      (wake_refused s number index cut e)
      (wake_is n s number index e)
      refl
      (told_same s t number index cut (numbered (length s.places) number index e).0 (place_after s t number index e same))
      h

  -- the message with this number is at `which`, and it is to the member at the index
  pub deliver_steps : (which : ℕ) (message : Message) → Some which ≡ index_of (length s.sent) number → slice_get s.sent which ≡ Some message → Some index ≡ index_of (length s.places) message.to →
      Happens n s which index (event.Deliver message) cut t r → Steps kit n s (Deliver number cut) t r
  deliver_steps which message e at to h =
      steps_of kit n s t (Deliver number cut) which index (event.Deliver message) cut r
      (deliver_refused s number which index message cut e at to)
      (deliver_is n s number which index message e at to)
      refl
      (ap (λ o. record {
        node = number_to o;
        first = first_of (length s.sent) (length t.sent - length s.sent);
        count = length t.sent - length s.sent;
        stopped = is_cut cut;
        applied = or_none (applied_count_in (place_numbered t (number_to o)));
        reply = None;
      }) found ∙ told_same s t message.to index cut number_is (place_after s t message.to index to same))
      h
    where
      number_is : message.to ≡ index + 1
      number_is = (numbered (length s.places) message.to index to).0

      found : message_numbered s number ≡ Some message
      found = ap (option_and_then (slice_get s.sent)) (sym e) ∙ at

-- ---- a restart and a request for a page

-- nothing is sent
nothing_sent : (s : StoredWorld) (number index applied : ℕ) (reply : Option Reply) → number ≡ index + 1 →
    ◌≡◌ {A = Played} (record {
      node = number;
      first = first_of (length s.sent) (length s.sent - length s.sent);
      count = length s.sent - length s.sent;
      stopped = false;
      applied = applied;
      reply = reply;
    }) (record { node = index + 1; first = 0; count = 0; stopped = false; applied = applied; reply = reply })
nothing_sent s number index applied reply e =
    let none : length s.sent - length s.sent ≡ 0 = omega arith in
    λ i. record { node = e i; first = first_of (length s.sent) (none i); count = none i; stopped = false; applied = applied; reply = reply }

pub restart_steps : (kit : KitView) (n : ℕ) (s t : StoredWorld) (number index : ℕ) (place : Place) (played : Played) → Some index ≡ index_of (length s.places) number → slice_get s.places index ≡ Some place → length t.places ≡ length s.places →
    t.sent ≡ s.sent → t ≡ stored_restarts n s index (slice_get s.places index) →
    played ≡ record { node = index + 1; first = 0; count = 0; stopped = false; applied = or_none (applied_count_in (slice_get t.places index)); reply = None } →
    Steps kit n s (Restart number) t (Ok played)
restart_steps kit n s t number index place played e at same sent h p = (
  ap missing_fault (place_at s number index e ∙ at),
  h ∙ sym (restart_is n s number index e),
  p ∙ sym (ap (λ o. record {
    node = number;
    first = first_of (length s.sent) (length o - length s.sent);
    count = length o - length s.sent;
    stopped = false;
    applied = or_none (applied_count_in (place_numbered t number));
    reply = None;
  }) sent ∙ ap (λ o. record {
    node = number;
    first = first_of (length s.sent) (length s.sent - length s.sent);
    count = length s.sent - length s.sent;
    stopped = false;
    applied = or_none (applied_count_in o);
    reply = None;
  }) (place_after s t number index e same) ∙ nothing_sent s number index (or_none (applied_count_in (slice_get t.places index))) None (numbered (length s.places) number index e).0),
)

pub get_steps : (kit : KitView) (n : ℕ) (s : StoredWorld) (number index : ℕ) (target : Target) (store : StoreMap) (up : Option Up) (reply : Reply) (played : Played) →
    Some index ≡ index_of (length s.places) number → slice_get s.places index ≡ Some (record { store = store; up = option_map (λ (u : Up). u.running) up }) → IsPageAt kit up target reply →
    played ≡ record { node = index + 1; first = 0; count = 0; stopped = false; applied = or_none (applied_count_in (slice_get s.places index)); reply = Some reply } →
    Steps kit n s (Get number target) s (Ok played)
get_steps kit n s number index target store None reply played e at page p = absurd page
get_steps kit n s number index target store (Some up) reply played e at page p =
    let found = place_at s number index e in (
      ap get_refusal (found ∙ at),
      refl,
      p ∙ sym (ap (λ o. record {
        node = number;
        first = first_of (length s.sent) (length s.sent - length s.sent);
        count = length s.sent - length s.sent;
        stopped = false;
        applied = or_none (applied_count_in o);
        reply = reply_at kit o target;
      }) found ∙ nothing_sent s number index (or_none (applied_count_in (slice_get s.places index))) (reply_at kit (slice_get s.places index) target) (numbered (length s.places) number index e).0
          ∙ ap (λ r. record { node = index + 1; first = 0; count = 0; stopped = false; applied = or_none (applied_count_in (slice_get s.places index)); reply = r }) (ap (λ o. reply_at kit o target) at ∙ ap Some (sym page))),
    )

-- where a page isn't refused, its node is up
pub get_takes : (s : StoredWorld) (number index : ℕ) (store : StoreMap) (up : Option Up) (fault : NodeFault) →
    Some index ≡ index_of (length s.places) number → slice_get s.places index ≡ Some (record { store = store; up = option_map (λ (u : Up). u.running) up }) →
    (is_down_where up ≡ true → ◌≡◌ {A = Result Reply NodeFault} (Err fault) (Err Down)) → ◌≡◌ {A = WorldFault} (Node fault) (Node NoMemory) → get_refusal (place_numbered s number) ≡ None
get_takes s number index store None fault e at down memory = let d : ◌≡◌ {A = Result Reply NodeFault} (Err fault) (Err Down) = down refl in cc
get_takes s number index store (Some up) fault e at down memory = ap get_refusal (place_at s number index e ∙ at)

pub get_fails : (kit : KitView) (n : ℕ) (s : StoredWorld) (number index : ℕ) (target : Target) (store : StoreMap) (up : Option Up) (fault : NodeFault) →
    Some index ≡ index_of (length s.places) number → slice_get s.places index ≡ Some (record { store = store; up = option_map (λ (u : Up). u.running) up }) →
    (is_down_where up ≡ true → ◌≡◌ {A = Result Reply NodeFault} (Err fault) (Err Down)) →
    ((fault ≡ Down) × (is_down_where up ≡ true)) ⊎ (fault ≡ NoMemory) → Steps kit n s (Get number target) s (Err (Node fault))
get_fails kit n s number index target store up fault e at down (inr h) =
    subst (λ b. FailsBy s (λ stop. stored_step n s (Get number target)) (step_refusal s (Get number target)) fault b s) (sym (ap stops h)) (
      h,
      get_takes s number index store up fault e at down (ap Node h),
      inl refl,
    )
get_fails kit n s number index target store None fault e at down (inl h) =
    subst (λ b. FailsBy s (λ stop. stored_step n s (Get number target)) (step_refusal s (Get number target)) fault b s) (sym (ap stops h.0)) (
      ap get_refusal (place_at s number index e ∙ at) ∙ ap (λ f. Some (Node f)) (sym h.0),
      refl,
    )
get_fails kit n s number index target store (Some up) fault e at down (inl h) = cc

pub some_place : {X : Type 0} (xs : List X) (i : ℕ) → i < length xs → (x : X) × (slice_get xs i ≡ Some x)
some_place [] i lt = absurd (omega arith)
some_place (x ∷ xs) zero lt = (x, refl)
some_place (x ∷ xs) (suc i) lt = some_place xs i (omega arith)

pub restarted_sent : (n : ℕ) (s t : StoredWorld) (index : ℕ) → t ≡ stored_restarts n s index (slice_get s.places index) → t.sent ≡ s.sent
restarted_sent n s t index e = ap (λ (x : StoredWorld). x.sent) e ∙ go (slice_get s.places index)
  where
    go : (o : Option Place) → (stored_restarts n s index o).sent ≡ s.sent
    go None = refl
    go (Some place) = refl
