-- A world of the definition stands for members over any stores: each move of theirs is some steps
-- of it, or a question.
use Rattle.std.proofs.Common.{ℕ, zero, suc, ◌+◌, ◌≡◌, ◌≢◌, ◌⊎◌, inl, inr, Bool, true, false, cond, List, [], ◌∷◌, ◌++◌, slice_get, slice_set, take, Option, None, Some, Result, refl, sym, subst, ap, ◌∙◌, append-nil, append_assoc, arith}
use Rattle.press_wire.specs.declared.message.Message.{Message}
use Rattle.press_acceptor.specs.Seen.{Seen}
use Rattle.press_acceptor.specs.StoreMap.{StoreMap, Save, with_save, with_any_save, new_store}
use Rattle.press_acceptor.specs.Trace.{Fact}
use Rattle.press_acceptor.specs.Turned.{store_move}
use Rattle.press_node.specs.declared.event.Event.{Event}
use Rattle.press_node.specs.declared.event.Event.TheVariants as event
use Rattle.press_node.specs.declared.fault.NodeFault.{NodeFault}
use Rattle.press_node.specs.NodeEvent.{Answer, RunningNode, fresh, is_for, on_body, on_event, quiet}
use Rattle.press_node.specs.Plays.{PlaysWhere, state_move}
use Rattle.press_node.specs.Refusals.{refusal}
use Rattle.press_node.specs.States.{NodeState, running_in}
use Rattle.press_world.specs.Adding.{Adds}
use Rattle.press_world.specs.Agreeing.{Agrees}
use Rattle.press_world.specs.Worlds.{Place, World, with_query, effect, new_places, new_world, restarts}
use Rattle.press_world.specs.declared.step.Cut.TheVariants.{AfterSave, AfterMessages}
use Rattle.press_member.specs.Acting.{IsSettled, Does, Stops, ActsUp}
use Rattle.press_member.specs.Members.{Member, Members, Move, Comes, MayLeave, StartsAt, IsMove, AreMoves, BreaksAt, BreaksBy, Holding, after, after_all, out_of, question, unstarted_members, new_members}
use Rattle.press_member.specs.Members.Holding.{Over, Leaves}
use Rattle.press_member.specs.Members.Move.{Acts, Breaks, Starts, Asks}
use Rattle.press_member.proofs.Acting.{acts}
use Rattle.press_member.proofs.Directed.{Law, IsDirected, event_agrees, restart_agrees}
use Rattle.press_world.proofs.Lists.{get_set}
use Rattle.press_member.proofs.Lists.{get_front, set_here, set_other, set_same, set_twice}

-- ---- what stands for a member

-- a save that may be there, of an event that a fault ended: in the world the event is still to come
pub record IsPending (n id : ℕ) (sent : List Message) (p : Place) (left : StoreMap) : Type 0 where
  pub node : RunningNode
  pub event : Event
  pub save : Save
  pub up : p.up ≡ Some node
  pub comes : Comes sent event
  pub passes : refusal p.store (Some node) event ≡ None
  pub saves : (on_event n id p.store node event).save ≡ Some save
  pub is : left ≡ with_save p.store save

abbrev pub CanLeave : ℕ → ℕ → List Message → Place → StoreMap → Type 0
CanLeave n id sent p left = (left ≡ p.store) ⊎ IsPending n id sent p left

module _ {S : Type 0} (seen : S → Seen) where
  pub record IsUpAt (store : Holding S) (node : RunningNode) (p : Place) : Type 0 where
    pub s : S
    pub is : store ≡ Over s
    pub settled : IsSettled seen s p.store
    pub up : p.up ≡ Some node

  abbrev pub StandsWhere : ℕ → ℕ → List Message → Holding S → Option RunningNode → Place → Type 0
  StandsWhere n id sent store None p = (left : StoreMap) → MayLeave seen store left → CanLeave n id sent p left
  StandsWhere n id sent store (Some node) p = IsUpAt store node p

  pub record StandsAt (n i : ℕ) (sent : List Message) (x : Member S) (p : Place) : Type 0 where
    pub id : x.state.id ≡ i + 1
    pub members : x.state.members ≡ n
    pub stands : StandsWhere n (i + 1) sent x.store (running_in x.state) p

  pub record Stands (n : ℕ) (m : Members S) (w : World) : Type 0 where
    pub agrees : Agrees n w
    pub sent : w.sent ≡ m.sent
    pub each : (i : ℕ) (x : Member S) → slice_get m.all i ≡ Some x → (p : Place) × (slice_get w.places i ≡ Some p) × StandsAt n i m.sent x p

  -- from this world there is one that stands for these members
  abbrev pub LeadsTo : ℕ → World → Members S → Type 0
  LeadsTo n w m = (v : World) × Adds w.trace v.trace × Stands n m v

-- ---- more is sent

comes_on : (sent out : List Message) (e : Event) → Comes sent e → Comes (sent ++ out) e
comes_on sent out (event.Submit command) c = tt
comes_on sent out event.Wake c = tt
comes_on sent out (event.Deliver m) c = (c.0, get_front sent out c.0 m c.1)

leaves_on : (n id : ℕ) (sent out : List Message) (p : Place) (left : StoreMap) → CanLeave n id sent p left → CanLeave n id (sent ++ out) p left
leaves_on n id sent out p left (inl e) = inl e
leaves_on n id sent out p left (inr h) = inr (record { node = h.node; event = h.event; save = h.save; up = h.up; comes = comes_on sent out h.event h.comes; passes = h.passes; saves = h.saves; is = h.is })

pub same_trace : (t : List Fact) → Adds t t
same_trace t = ([], refl)

pub adds_twice : (t u w : List Fact) → Adds t u → Adds u w → Adds t w
adds_twice t u w a b = (b.0 ++ a.0, append_assoc b.0 a.0 t ∙ (ap (λ x. b.0 ++ x) a.1 ∙ b.1))

-- a message that isn't for the member leaves it as it is
undirected : (n id : ℕ) (store : StoreMap) (node : RunningNode) (e : Event) → (IsDirected n id e) ⊎ (on_event n id store node e ≡ quiet node)
undirected n id store node (event.Submit command) = inl tt
undirected n id store node event.Wake = inl tt
undirected n id store node (event.Deliver m) = go (is_for n id m) refl
  where
    go : (b : Bool) → is_for n id m ≡ b → (is_for n id m ≡ true) ⊎ (on_event n id store node (event.Deliver m) ≡ quiet node)
    go true e = inl e
    go false e = inr (ap (λ b. cond b (on_body n id store node m m.body) (quiet node)) e)

pub directed : (n id : ℕ) (store : StoreMap) (node : RunningNode) (e : Event) (save : Save) → (on_event n id store node e).save ≡ Some save → IsDirected n id e
directed n id store node e save h = go (undirected n id store node e)
  where
    go : (IsDirected n id e) ⊎ (on_event n id store node e ≡ quiet node) → IsDirected n id e
    go (inl d) = d
    go (inr q) = let x : None ≡ Some save = sym (ap (λ (a : Answer). a.save) q) ∙ h in cc

none_taken : (count : ℕ) (none : List Message) → none ≡ [] → take count none ≡ []
none_taken zero [] e = refl
none_taken zero (m ∷ ms) e = refl
none_taken (suc count) [] e = refl
none_taken (suc count) (m ∷ ms) e = let x : m ∷ ms ≡ [] = e in cc

module _ {S : Type 0} (seen : S → Seen) (law : Law) (n : ℕ) where
  stands_where_on : (id : ℕ) (sent out : List Message) (store : Holding S) (o : Option RunningNode) (p : Place) → StandsWhere seen n id sent store o p → StandsWhere seen n id (sent ++ out) store o p
  stands_where_on id sent out store None p h = λ left m. leaves_on n id sent out p left (h left m)
  stands_where_on id sent out store (Some node) p h = h

  stands_on : (i : ℕ) (sent out : List Message) (x : Member S) (p : Place) → StandsAt seen n i sent x p → StandsAt seen n i (sent ++ out) x p
  stands_on i sent out x p h = record { id = h.id; members = h.members; stands = stands_where_on (i + 1) sent out x.store (running_in x.state) p h.stands }

  -- ---- one member moved

  module _ (m : Members S) (w : World) (stands : Stands seen n m w) (index : ℕ) (old : Member S) (at : slice_get m.all index ≡ Some old) where
    abbrev p : Place
    p = (stands.each index old at).0

    in_world : slice_get w.places index ≡ Some p
    in_world = (stands.each index old at).1

    stood : StandsAt seen n index m.sent old p
    stood = (stands.each index old at).2

    put : (v : World) (x : Member S) (q : Place) (more out : List Message) → more ≡ m.sent ++ out → Agrees n v → v.sent ≡ more → v.places ≡ slice_set w.places index q → StandsAt seen n index more x q →
        Stands seen n (record { all = slice_set m.all index x; sent = more }) v
    put v x q more out is a s places k = record {
      agrees = a;
      sent = s;
      each = λ i y e. go i y (get_set m.all index x i y e);
    }
      where
        go : (i : ℕ) (y : Member S) → ((i ≡ index) × (x ≡ y)) ⊎ ((i ≢ index) × (slice_get m.all i ≡ Some y)) → (r : Place) × (slice_get v.places i ≡ Some r) × StandsAt seen n i more y r
        go i y (inl h) = (
          q,
          ap (slice_get v.places) h.0 ∙ ap (λ ps. slice_get ps index) places ∙ set_here w.places index q p in_world,
          subst (λ z. StandsAt seen n i more z q) h.1 (subst (λ j. StandsAt seen n j more x q) (sym h.0) k),
        )
        go i y (inr h) =
            let one = stands.each i y h.1 in (
              one.0,
              ap (λ ps. slice_get ps i) places ∙ set_other w.places index q i h.0 ∙ one.1,
              subst (λ l. StandsAt seen n i l y one.0) (sym is) (stands_on i m.sent out y one.0 one.2),
            )

    -- the world stays as it is
    stay : (x : Member S) (out : List Message) → out ≡ [] → StandsAt seen n index (m.sent ++ out) x p → LeadsTo seen n w (record { all = slice_set m.all index x; sent = m.sent ++ out })
    stay x out none k = (
      w,
      same_trace w.trace,
      put w x p (m.sent ++ out) out refl stands.agrees (stands.sent ∙ (sym (append-nil m.sent) ∙ ap (λ l. m.sent ++ l) (sym none))) (sym (set_same w.places index p in_world)) k,
    )

  -- ---- an event

  module _ (m : Members S) (w : World) (stands : Stands seen n m w) (index : ℕ) (s t : S) (state state_after : NodeState) (at : slice_get m.all index ≡ Some (record { store = Over s; state = state }))
      (e : Event) (outcome : Result (List Message) NodeFault) (comes : Comes m.sent e) (id_same : state_after.id ≡ state.id) (members_same : state_after.members ≡ state.members) where
    abbrev q : Place
    q = (stands.each index (record { store = Over s; state = state }) at).0

    in_place : slice_get w.places index ≡ Some q
    in_place = (stands.each index (record { store = Over s; state = state }) at).1

    kept_at : StandsAt seen n index m.sent (record { store = Over s; state = state }) q
    kept_at = (stands.each index (record { store = Over s; state = state }) at).2

    abbrev x : Member S
    x = record { store = Over t; state = state_after }

    standing : (sent : List Message) (r : Place) → StandsWhere seen n (index + 1) sent (Over t) (running_in state_after) r → StandsAt seen n index sent x r
    standing sent r h = record { id = id_same ∙ kept_at.id; members = members_same ∙ kept_at.members; stands = h }

    abbrev Result_of : Type 0
    Result_of = LeadsTo seen n w (record { all = slice_set m.all index x; sent = m.sent ++ out_of outcome })

    goes_on : (node : RunningNode) → q.up ≡ Some node → out_of outcome ≡ [] → running_in state_after ≡ Some node → IsSettled seen t q.store → Result_of
    goes_on node up none stays settled =
        stay m w stands index (record { store = Over s; state = state }) at x (out_of outcome) none
        (standing (m.sent ++ out_of outcome) q (subst (λ o. StandsWhere seen n (index + 1) (m.sent ++ out_of outcome) (Over t) o q) (sym stays) (record { s = t; is = refl; settled = settled; up = up })))

    does : (node : RunningNode) → q.up ≡ Some node → Does seen t q.store (on_event n (index + 1) q.store node e) (refusal q.store (Some node) e) (running_in state_after) outcome → Result_of
    does node up h = go (undirected n (index + 1) q.store node e)
      where
        a : Answer
        a = on_event n (index + 1) q.store node e

        go : (IsDirected n (index + 1) e) ⊎ (on_event n (index + 1) q.store node e ≡ quiet node) → Result_of
        go (inr same) = goes_on node up
            (ap out_of h.sends ∙ ap (λ (b : Answer). b.out) same)
            (h.goes_on ∙ ap (λ (b : Answer). Some b.after) same)
            (subst (λ (b : Answer). IsSettled seen t (with_any_save q.store b.save)) same h.settled)
        go (inl d) =
            let c = subst (λ l. Comes l e) (sym stands.sent) comes in
            let v = effect w index q None (on_event n (index + 1) q.store node e) in
            let k = event_agrees law n w index q in_place stands.agrees node up None e c d h.passes in
            let r : Place = record { store = with_any_save q.store (on_event n (index + 1) q.store node e).save; up = Some (on_event n (index + 1) q.store node e).after } in (
              v,
              k.1,
              put m w stands index (record { store = Over s; state = state }) at v x r (m.sent ++ out_of outcome) (out_of outcome) refl k.0
                  (ap (λ l. l ++ (on_event n (index + 1) q.store node e).out) stands.sent ∙ ap (λ l. m.sent ++ l) (sym (ap out_of h.sends)))
                  refl
                  (standing (m.sent ++ out_of outcome) r (subst (λ o. StandsWhere seen n (index + 1) (m.sent ++ out_of outcome) (Over t) o r) (sym h.goes_on) (record { s = t; is = refl; settled = h.settled; up = refl }))),
            )

    stops : (node : RunningNode) → q.up ≡ Some node → Stops seen t q.store (on_event n (index + 1) q.store node e) (refusal q.store (Some node) e) (running_in state_after) outcome → Result_of
    stops node up h =
        stay m w stands index (record { store = Over s; state = state }) at x (out_of outcome) h.sends
        (standing (m.sent ++ out_of outcome) q (subst (λ o. StandsWhere seen n (index + 1) (m.sent ++ out_of outcome) (Over t) o q) (sym h.down) (λ left l. go left (h.leaves left l))))
      where
        go : (left : StoreMap) → (left ≡ q.store) ⊎ ((save : Save) × (refusal q.store (Some node) e ≡ None) × ((on_event n (index + 1) q.store node e).save ≡ Some save) × (left ≡ with_save q.store save)) → CanLeave n (index + 1) (m.sent ++ out_of outcome) q left
        go left (inl h) = inl h
        go left (inr h) = inr (record { node = node; event = e; save = h.0; up = up; comes = comes_on m.sent (out_of outcome) e comes; passes = h.1; saves = h.2; is = h.3 })

    by_case : (node : RunningNode) → q.up ≡ Some node → ActsUp seen s t q.store n (index + 1) (Some node) (running_in state_after) e outcome → Result_of
    by_case node up (inl h) = does node up h
    by_case node up (inr (inl h)) = goes_on node up h.sends h.stays h.settled
    by_case node up (inr (inr h)) = stops node up h

    down : running_in state ≡ None → t ≡ s → state_after ≡ state → out_of outcome ≡ [] → StandsWhere seen n (index + 1) m.sent (Over s) None q → Result_of
    down is same same_state none h =
        stay m w stands index (record { store = Over s; state = state }) at x (out_of outcome) none
        (standing (m.sent ++ out_of outcome) q
        (subst (λ o. StandsWhere seen n (index + 1) (m.sent ++ out_of outcome) (Over t) o q) (sym (ap running_in same_state ∙ is))
        (subst (λ y. StandsWhere seen n (index + 1) (m.sent ++ out_of outcome) (Over y) None q) (sym same)
        (stands_where_on (index + 1) m.sent (out_of outcome) (Over s) None q h))))

    settled_of : (node : RunningNode) → IsUpAt seen (Over s) node q → IsSettled seen s q.store
    settled_of node h = let same : s ≡ h.s = cc in subst (λ y. IsSettled seen y q.store) (sym same) h.settled

    pub acted : (seen t).is_honest → PlaysWhere (running_in state) (store_move seen s t) (state_move state state_after) e outcome → Result_of
    acted honest plays = go (running_in state) refl kept_at.stands plays
      where
        go : (o : Option RunningNode) → running_in state ≡ o → StandsWhere seen n (index + 1) m.sent (Over s) o q → PlaysWhere o (store_move seen s t) (state_move state state_after) e outcome → Result_of
        go None is h p = down is p.2 p.1 (ap out_of p.0) h
        go (Some node) is h p =
            let settled = settled_of node h in
            let own : IsSettled seen s (seen s).kept = record { is_open = settled.is_open; keeps = refl; only = λ left l. settled.only left l ∙ sym settled.keeps } in
            let did = acts seen s t own honest state state_after e outcome (subst (λ o. PlaysWhere o (store_move seen s t) (state_move state state_after) e outcome) (sym is) p) in
            by_case node h.up
            (subst (λ o. ActsUp seen s t q.store n (index + 1) o (running_in state_after) e outcome) is
            (subst (λ k. ActsUp seen s t k n (index + 1) (running_in state) (running_in state_after) e outcome) settled.keeps
            (subst (λ i. ActsUp seen s t (seen s).kept n i (running_in state) (running_in state_after) e outcome) kept_at.id
            (subst (λ k. ActsUp seen s t (seen s).kept k state.id (running_in state) (running_in state_after) e outcome) kept_at.members did))))

  -- ---- a stop within an event

  module _ (m : Members S) (w : World) (stands : Stands seen n m w) (index : ℕ) (e : Event) (left : StoreMap) (out : List Message) (state : NodeState) (h : BreaksAt seen n m index e left out state) where
    abbrev old : Member S
    old = record { store = Over h.before; state = h.state_before }

    abbrev b : Place
    b = (stands.each index old h.at).0

    there : slice_get w.places index ≡ Some b
    there = (stands.each index old h.at).1

    stood_at : StandsAt seen n index m.sent old b
    stood_at = (stands.each index old h.at).2

    abbrev z : Member S
    z = record { store = Leaves left; state = state }

    abbrev Broken : Type 0
    Broken = LeadsTo seen n w (record { all = slice_set m.all index z; sent = m.sent ++ out })

    -- it is down, over a place that keeps what was left
    lying : (r : Place) → left ≡ r.store → StandsAt seen n index (m.sent ++ out) z r
    lying r is = record {
      id = ap (λ (x : NodeState). x.id) h.is_down ∙ stood_at.id;
      members = ap (λ (x : NodeState). x.members) h.is_down ∙ stood_at.members;
      stands = subst (λ o. StandsWhere seen n (index + 1) (m.sent ++ out) (Leaves left) o r) (sym (ap running_in h.is_down)) (λ l k. inl (k ∙ is));
    }

    unsaved : left ≡ b.store → out ≡ [] → Broken
    unsaved is none = stay m w stands index old h.at z out none (lying b is)

    breaks_up : IsUpAt seen (Over h.before) h.node b → Broken
    breaks_up k = go h.breaks
      where
        same : h.before ≡ k.s
        same = let q = k.is in cc

        settled : IsSettled seen h.before b.store
        settled = subst (λ x. IsSettled seen x b.store) (sym same) k.settled

        after_save : (count : ℕ) → refusal b.store (Some h.node) e ≡ None → left ≡ with_any_save b.store (on_event n (index + 1) b.store h.node e).save → out ≡ take count (on_event n (index + 1) b.store h.node e).out → Broken
        after_save count passes is sent = by (undirected n (index + 1) b.store h.node e)
          where
            by : (IsDirected n (index + 1) e) ⊎ (on_event n (index + 1) b.store h.node e ≡ quiet h.node) → Broken
            by (inr q) = unsaved
                (is ∙ ap (λ (a : Answer). with_any_save b.store a.save) q)
                (sent ∙ ap (λ (a : Answer). take count a.out) q ∙ none_taken count [] refl)
            by (inl d) =
                let c = subst (λ l. Comes l e) (sym stands.sent) h.comes in
                let a = on_event n (index + 1) b.store h.node e in
                let g = event_agrees law n w index b there stands.agrees h.node k.up (Some (AfterMessages count)) e c d passes in
                let r : Place = record { store = with_any_save b.store (on_event n (index + 1) b.store h.node e).save; up = None } in (
                  effect w index b (Some (AfterMessages count)) a,
                  g.1,
                  put m w stands index old h.at (effect w index b (Some (AfterMessages count)) a) z r (m.sent ++ out) out refl g.0
                      (ap (λ l. l ++ take count (on_event n (index + 1) b.store h.node e).out) stands.sent ∙ ap (λ l. m.sent ++ l) (sym sent))
                      refl
                      (lying r is),
                )

        go : BreaksBy seen h.before (on_event n (index + 1) (seen h.before).kept h.node e) (refusal (seen h.before).kept (Some h.node) e) left out → Broken
        go (inl x) = unsaved (settled.only left x.0) x.1
        go (inr x) = after_save x.0
            (ap (λ s. refusal s (Some h.node) e) (sym settled.keeps) ∙ x.1)
            (x.2 ∙ ap (λ s. with_any_save s (on_event n (index + 1) s h.node e).save) settled.keeps)
            (x.3 ∙ ap (λ s. take x.0 (on_event n (index + 1) s h.node e).out) settled.keeps)

    pub broken : Broken
    broken = breaks_up (subst (λ o. StandsWhere seen n (index + 1) m.sent (Over h.before) o b) h.up stood_at.stands)

  -- ---- a start

  module _ (m : Members S) (w : World) (stands : Stands seen n m w) (index : ℕ) (t : S) (state : NodeState) (h : StartsAt seen n m index t state) where
    abbrev r : Place
    r = (stands.each index h.before h.at).0

    placed : slice_get w.places index ≡ Some r
    placed = (stands.each index h.before h.at).1

    was : StandsAt seen n index m.sent h.before r
    was = (stands.each index h.before h.at).2

    abbrev y : Member S
    y = record { store = Over t; state = state }

    abbrev begun : StoreMap → Place
    begun k = record { store = k; up = Some (fresh n (index + 1) k.last_round) }

    starting : (k : StoreMap) → (seen t).kept ≡ k → StandsAt seen n index m.sent y (begun k)
    starting k e = record {
      id = ap (λ (z : NodeState). z.id) h.started;
      members = ap (λ (z : NodeState). z.members) h.started;
      stands = subst (λ o. StandsWhere seen n (index + 1) m.sent (Over t) o (begun k)) (sym (ap running_in h.started))
          (record { s = t; is = refl; settled = record { is_open = h.is_open; keeps = e; only = λ left l. h.durable left l ∙ e }; up = ap (λ (z : StoreMap). Some (fresh n (index + 1) z.last_round)) (sym e) });
    }

    abbrev Started : Type 0
    Started = LeadsTo seen n w (record { all = slice_set m.all index y; sent = m.sent })

    as_kept : (seen t).kept ≡ r.store → Started
    as_kept e =
        let k = restart_agrees law n w index r placed stands.agrees in (
          restarts n w index (Some r),
          k.1,
          put m w stands index h.before h.at (restarts n w index (Some r)) y (begun r.store) m.sent [] (sym (append-nil m.sent)) k.0 stands.sent refl (starting r.store e),
        )

    as_saved : IsPending n (index + 1) m.sent r (seen t).kept → Started
    as_saved b =
        let a = on_event n (index + 1) r.store b.node b.event in
        let u = effect w index r (Some AfterSave) a in
        let c = subst (λ l. Comes l b.event) (sym stands.sent) b.comes in
        let k = event_agrees law n w index r placed stands.agrees b.node b.up (Some AfterSave) b.event c (directed n (index + 1) r.store b.node b.event b.save b.saves) b.passes in
        let l : Place = record { store = with_any_save r.store (on_event n (index + 1) r.store b.node b.event).save; up = None } in
        let j = restart_agrees law n u index l (set_here w.places index l r placed) k.0 in
        let v = restarts n u index (Some l) in (
          v,
          adds_twice w.trace u.trace v.trace k.1 j.1,
          put m w stands index h.before h.at v y (begun l.store) m.sent [] (sym (append-nil m.sent)) j.0 (append-nil w.sent ∙ stands.sent) (set_twice w.places index l (begun l.store)) (starting l.store (b.is ∙ ap (with_any_save r.store) (sym b.saves))),
        )

    by_left : CanLeave n (index + 1) m.sent r (seen t).kept → Started
    by_left (inl e) = as_kept e
    by_left (inr b) = as_saved b

    pub started : Started
    started = go (running_in h.before.state) was.stands
      where
        go : (o : Option RunningNode) → StandsWhere seen n (index + 1) m.sent h.before.store o r → Started
        go None k = by_left (k (seen t).kept h.left)
        go (Some node) k = as_kept (k.settled.only (seen t).kept (subst (λ o. MayLeave seen o (seen t).kept) k.is h.left))

  -- ---- each move

  pub moves_on : (m : Members S) (w : World) → Stands seen n m w → (move : Move S) → IsMove seen n m move → LeadsTo seen n w (after m move)
  moves_on m w stands (Acts index e outcome t state) h =
      acted m w stands index h.before t h.state_before state h.at e outcome h.is.comes h.is.played.member.0 h.is.played.member.1 h.is.is_honest h.is.played.plays
  moves_on m w stands (Breaks index e left out state) h = broken m w stands index e left out state h
  moves_on m w stands (Starts index t state) h = started m w stands index t state h
  moves_on m w stands (Asks from to slot) h = (
    with_query w from to slot,
    same_trace w.trace,
    record {
      agrees = law.question n w from to slot h.0 h.1 stands.agrees;
      sent = ap (λ l. l ++ question from to slot ∷ []) stands.sent;
      each = λ i y e. let one = stands.each i y e in (one.0, one.1, stands_on i m.sent (question from to slot ∷ []) y one.0 one.2);
    },
  )

  pub all_move_on : (moves : List (Move S)) (m : Members S) (w : World) → Stands seen n m w → AreMoves seen n m moves → LeadsTo seen n w (after_all m moves)
  all_move_on [] m w stands h = (w, same_trace w.trace, stands)
  all_move_on (x ∷ moves) m w stands h =
      let one = moves_on m w stands x h.0 in
      let more = all_move_on moves (after m x) one.0 one.2 h.1 in
      (more.0, adds_twice w.trace one.0.trace more.0.trace one.1 more.1, more.2)

  -- ---- the beginning

  abbrev blank : ℕ → Member S
  blank id = record { store = Leaves new_store; state = record { id = id; members = n; up = None } }

  abbrev first : ℕ → Place
  first id = record { store = new_store; up = Some (fresh n id 0) }

  new_at : (id k i : ℕ) (z : Member S) → slice_get (unstarted_members n id k) i ≡ Some z → (blank (id + i) ≡ z) × (slice_get (new_places n id k) i ≡ Some (first (id + i)))
  new_at id zero i z e = cc
  new_at id (suc k) zero z e = let same : id ≡ id + 0 = omega arith in subst (λ j. (blank j ≡ z) × (Some (first id) ≡ Some (first j))) same (cc, refl)
  new_at id (suc k) (suc i) z e = let same : id + 1 + i ≡ id + suc i = omega arith in subst (λ j. (blank j ≡ z) × (slice_get (new_places n (id + 1) k) i ≡ Some (first j))) same (new_at (id + 1) k i z e)

  pub new_stands : Stands seen n (new_members n) (new_world n)
  new_stands = record {
    agrees = law.new n;
    sent = refl;
    each = λ i x e.
        let h = new_at 1 n i x e in
        let same : 1 + i ≡ i + 1 = omega arith in (
          first (1 + i),
          h.1,
          subst (λ (z : Member S). StandsAt seen n i [] z (first (1 + i))) h.0
              (record { id = same; members = refl; stands = λ left l. inl l }),
        );
  }
