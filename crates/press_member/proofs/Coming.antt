-- Deeds of a member are moves of the members.
use Rattle.std.proofs.Common.{ℕ, suc, ◌+◌, ◌≡◌, ◌≢◌, ◌⊎◌, ◌==◌, inl, inr, not, Bool, true, false, cond, IsTrue, List, [], ◌∷◌, ◌++◌, slice_get, drop, Option, None, Some, Result, Ok, Err, is_ok, refl, sym, subst, ap, ◌∙◌, append-nil, append_assoc, arith}
use Rattle.std.specs.List.{filter}
use Rattle.std.proofs.lemmas.List.Elements.{filter-append}
use Rattle.std.specs.declared.alloc.AllocError.{AllocError}
use Rattle.press_apply.specs.declared.command.Stamped.{Stamped}
use Rattle.press_wire.specs.declared.message.Message.{Message}
use Rattle.press_acceptor.specs.Seen.{Call, Seen}
use Rattle.press_acceptor.specs.StoreMap.{StoreMap, Save}
use Rattle.press_acceptor.specs.Trace.{IsMember}
use Rattle.press_acceptor.specs.Turned.{TurnedBy, store_move}
use Rattle.press_acceptor.specs.declared.fault.StoreFault.{StoreFault}
use Rattle.press_node.specs.EventPlans.{event_calls}
use Rattle.press_node.specs.NodeEvent.{RunningNode}
use Rattle.press_node.specs.Nodes.{IsPlayed, NodeMove}
use Rattle.press_node.specs.Plays.{Plays, PlaysUp, PlaysWhere, state_move}
use Rattle.press_node.specs.Refusals.{refusal_up}
use Rattle.press_node.specs.States.{NodeState, Up, count_where, running_in}
use Rattle.press_node.specs.declared.event.Event.{Event}
use Rattle.press_node.specs.declared.event.Event.TheVariants as event
use Rattle.press_node.specs.declared.fault.NodeFault.{NodeFault}
use Rattle.press_member.specs.Acts.{Acts, Has, Submits, View, takes_commands}
use Rattle.press_member.specs.Among.{AreBy, AreSent, IsAmong, IsIn}
use Rattle.press_member.specs.Coming.{AreItsMoves, ComesTo, heard_in}
use Rattle.press_member.specs.Deeds.{Cause, Deed, Does, IsCause, IsFront, for_others, for_self, kept_by_all, own_after, own_after_all}
use Rattle.press_member.specs.Deeds.Cause.{Brought, Heard, Due}
use Rattle.press_member.specs.Deeds.Deed.{Plays as Playing, Asks as Asking}
use Rattle.press_member.specs.Members.{AreMoves, Comes, IsSent, Members, Move, WhileUp, after, after_all, out_of, question}
use Rattle.press_member.specs.Members.Holding.{Over}
use Rattle.press_member.specs.Members.Move.{Acts as Moving, Asks}
use Rattle.press_member.specs.Turns.{AreFor, AreQuestions, Brings, Delivers, HearsFirst, IsVotedNext, MaySubmit, MayWake}
use Rattle.press_member.specs.declared.input.Input.{Input}
use Rattle.press_member.specs.declared.input.Input.TheVariants as input
use Rattle.press_member.specs.declared.output.Outputs.{Outputs}
use Rattle.press_member.proofs.Lists.{set_here}
use Rattle.press_member.proofs.Mailing.{sent_first, still_sent}
use Rattle.press_member.proofs.Opening.{stays_open}

-- ---- messages in lists

in_parts : (xs ys : List Message) (m : Message) → IsIn (xs ++ ys) m → IsIn xs m ⊎ IsIn ys m
in_parts [] ys m h = inr h
in_parts (x ∷ xs) ys m (inl e) = inl (inl e)
in_parts (x ∷ xs) ys m (inr h) = go (in_parts xs ys m h)
  where
    go : IsIn xs m ⊎ IsIn ys m → ((x ≡ m) ⊎ IsIn xs m) ⊎ IsIn ys m
    go (inl a) = inl (inr a)
    go (inr a) = inr a

in_front : (xs ys : List Message) (m : Message) → IsIn xs m → IsIn (xs ++ ys) m
in_front [] ys m h = absurd h
in_front (x ∷ xs) ys m (inl e) = inl e
in_front (x ∷ xs) ys m (inr h) = inr (in_front xs ys m h)

in_rest : (xs : List Message) (m : Message) → IsIn (drop 1 xs) m → IsIn xs m
in_rest [] m h = absurd h
in_rest (x ∷ xs) m h = inr h

in_first : (xs : List Message) (m : Message) → slice_get xs 0 ≡ Some m → IsIn xs m
in_first [] m e = absurd (let f = e in cc)
in_first (x ∷ xs) m e = inl (let f = e in cc)

in_filter : (test : Message → Bool) (xs : List Message) (m : Message) → IsIn (filter test xs) m → IsIn xs m
in_filter test [] m h = absurd h
in_filter test (x ∷ xs) m h = go (test x) (in_filter test xs m) h
  where
    go : (b : Bool) → (IsIn (filter test xs) m → IsIn xs m) → IsIn (cond b (x ∷ filter test xs) (filter test xs)) m → (x ≡ m) ⊎ IsIn xs m
    go true behind (inl e) = inl e
    go true behind (inr k) = inr (behind k)
    go false behind k = inr (behind k)

-- ---- what was sent

sent_behind : (xs ys : List Message) (m : Message) → IsSent ys m → IsSent (xs ++ ys) m
sent_behind [] ys m h = h
sent_behind (x ∷ xs) ys m h = let k = sent_behind xs ys m h in (suc k.0, k.1)

-- what was there was sent, and what is kept of what is sent now
with_kept : (test : Message → Bool) (sent out kept ms : List Message) → IsFront kept out → AreSent sent ms → AreSent (sent ++ out) (ms ++ filter test kept)
with_kept test sent out kept ms front a = λ m h. go m (in_parts ms (filter test kept) m h)
  where
    go : (m : Message) → IsIn ms m ⊎ IsIn (filter test kept) m → IsSent (sent ++ out) m
    go m (inl h) = still_sent sent out ms a m h
    go m (inr h) = sent_behind sent out m (sent_first out m (subst (λ l. IsIn l m) front.1 (in_front kept front.0 m (in_filter test kept m h))))

rest_sent : (sent own : List Message) → AreSent sent own → AreSent sent (drop 1 own)
rest_sent sent own a = λ m h. a m (in_rest own m h)

-- ---- a store that is honest after an event was so before

module _ {S : Type 0} (seen : S → Seen) (s t : S) (honest : (seen t).is_honest) where
  turned_back : (calls : List Call) (takes : StoreMap → Type 0) (save : StoreMap → Option Save) (f : Option StoreFault) → TurnedBy calls takes save (store_move seen s t) f → (seen s).is_honest
  turned_back [] takes save f h = subst (λ x. (seen x).is_honest) h.0 honest
  turned_back (c ∷ cs) takes save f h = h.honest honest

  pub honest_back : (old new : NodeState) (e : Event) (o : Result (List Message) NodeFault) → Plays (store_move seen s t) (state_move old new) e o → (seen s).is_honest
  honest_back old new e o p = go (running_in old) p
    where
      same : t ≡ s → (seen s).is_honest
      same q = subst (λ x. (seen x).is_honest) q honest

      up : (node : RunningNode) (r : Option NodeFault) (o : Result (List Message) NodeFault) → PlaysUp r node (store_move seen s t) (state_move old new) e o → (seen s).is_honest
      up node (Some f) o h = same h.2
      up node None (Ok out) h = turned_back (event_calls old.members old.id node e) _ _ None h.turned
      up node None (Err fault) (inl h) = turned_back (event_calls old.members old.id node e) _ _ (Some h.by) h.turned
      up node None (Err fault) (inr h) = h.turned.honest honest

      go : (r : Option RunningNode) → PlaysWhere r (store_move seen s t) (state_move old new) e o → (seen s).is_honest
      go None h = same h.2
      go (Some node) h = up node (refusal_up node e) o h

-- ---- deeds

-- an event that is brought brings nothing but what was heard
abbrev IsBrought : List Message → Event → Type 0
IsBrought heard (event.Submit command) = Unit {0}
IsBrought heard event.Wake = Unit {0}
IsBrought heard (event.Deliver message) = IsIn heard message

abbrev IsBroughtBy : List Message → Cause → Event → Type 0
IsBroughtBy heard Brought e = IsBrought heard e
IsBroughtBy heard Heard e = Unit {0}
IsBroughtBy heard Due e = Unit {0}

abbrev AreBrought : {N : Type 0} → List Message → List (Deed N) → Type 0
AreBrought heard [] = Unit {0}
AreBrought heard (Playing cause e o kept next ∷ ds) = IsBroughtBy heard cause e × AreBrought heard ds
AreBrought heard (Asking to slot kept ∷ ds) = AreBrought heard ds

own_brought : {N : Type 0} (heard : List Message) (cause : Option Cause) (ds : List (Deed N)) → (cause ≢ Some Brought) → AreFor cause ds → AreBrought heard ds
own_brought heard cause [] other h = tt
own_brought heard cause (Playing Brought e o kept next ∷ ds) other h = absurd (other (sym h.0))
own_brought heard cause (Playing Heard e o kept next ∷ ds) other h = (tt, own_brought heard cause ds other h.1)
own_brought heard cause (Playing Due e o kept next ∷ ds) other h = (tt, own_brought heard cause ds other h.1)
own_brought heard cause (Asking to slot kept ∷ ds) other h = own_brought heard cause ds other h.1

wake_brought : {N : Type 0} (heard : List Message) (ds : List (Deed N)) → MayWake ds → AreBrought heard ds
wake_brought heard ds h = own_brought heard (Some Due) ds (λ e. let f = e in cc) h.are

brought_then : {N : Type 0} (heard : List Message) (ds es : List (Deed N)) → AreBrought heard ds → AreBrought heard es → AreBrought heard (ds ++ es)
brought_then heard [] es h k = k
brought_then heard (Playing cause e o kept next ∷ ds) es h k = (h.0, brought_then heard ds es h.1 k)
brought_then heard (Asking to slot kept ∷ ds) es h k = brought_then heard ds es h k

own_first : {N : Type 0} (heard : List Message) (id : ℕ) (Whole : Type 0) (own : List Message) (ds : List (Deed N)) → HearsFirst id Whole own ds → AreBrought heard ds
own_first heard id Whole own ds h =
    subst (AreBrought heard) (sym h.are) (brought_then heard h.heard h.more (own_brought heard (Some Heard) h.heard (λ e. let f = e in cc) h.hears.are) (wake_brought heard h.more h.wakes))

due_brought : {N : Type 0} (heard : List Message) (ds : List (Deed N)) → (MayWake ds ⊎ AreQuestions ds) → AreBrought heard ds
due_brought heard ds (inl h) = wake_brought heard ds h
due_brought heard ds (inr h) = own_brought heard None ds (λ e. let f = e in cc) h

first_brought : {N : Type 0} (heard : List Message) (e : Event) (refused : Option NodeFault) (ds : List (Deed N)) → IsBrought heard e → Brings e refused ds → AreBrought heard ds
first_brought heard e refused [] is h = absurd h
first_brought heard e refused (Playing Brought f o kept next ∷ ds) is h = (subst (IsBrought heard) (sym h.0) is, wake_brought heard ds h.2)
first_brought heard e refused (Playing Heard f o kept next ∷ ds) is h = absurd h
first_brought heard e refused (Playing Due f o kept next ∷ ds) is h = absurd h
first_brought heard e refused (Asking to slot kept ∷ ds) is h = absurd h

submit_brought : {N : Type 0} (heard : List Message) (Which : Stamped → Type 0) (ds : List (Deed N)) → MaySubmit Which ds → AreBrought heard ds
submit_brought heard Which ds (inl h) = subst (AreBrought heard) (sym h) tt
submit_brought heard Which ds (inr h) = first_brought heard (event.Submit h.0) h.2.0 ds tt h.2.1

delivery_brought : {N : Type 0} (heard : List Message) (id next : ℕ) (message : Message) (refused : Option NodeFault) (ds : List (Deed N)) → IsIn heard message → Delivers id next message refused ds →
    AreBrought heard ds
delivery_brought heard id next message refused ds is h =
    subst (AreBrought heard) (sym h.are)
    (brought_then heard h.first h.more (first_brought heard (event.Deliver message) refused h.first is h.brings) (submit_brought heard (IsVotedNext id next message) h.more h.submits))

none_brought : {N : Type 0} (heard : List Message) (ds : List (Deed N)) → ds ≡ [] → AreBrought heard ds
none_brought heard ds e = subst (AreBrought heard) (sym e) tt

form_brought : {N : Type 0} (takes : Bool) (e : Event) (refused : Option NodeFault) (ds : List (Deed N)) → IsBrought [] e → Submits takes e refused ds → AreBrought [] ds
form_brought true e refused ds is h = first_brought [] e refused ds is h
form_brought false e refused ds is h = none_brought [] ds h

has_brought : {N : Type 0} (old : View N) (up : Option Up) (Whole : Type 0) (i : Input) (refused : Option NodeFault) (ds : List (Deed N)) → Has old up Whole i refused ds → AreBrought (heard_in i) ds
has_brought old up Whole (input.Command command) refused ds h = form_brought (takes_commands old) (event.Submit command) refused ds tt h
has_brought old up Whole (input.Page target) refused ds h = none_brought [] ds h
has_brought old up Whole (input.Message message) refused ds h = delivery_brought (message ∷ []) old.id (count_where up + 1) message refused ds (inl refl) h
has_brought old up Whole (input.Report from report) refused ds h = none_brought [] ds h
has_brought old up Whole (input.Ended to asked is_taken) refused ds h = none_brought [] ds h
has_brought old up Whole input.HearOwn refused ds h = own_first [] old.id Whole old.own ds h
has_brought old up Whole (input.Time now) refused ds h = due_brought [] ds h

comes : (sent own heard : List Message) (cause : Cause) (e : Event) → AreSent sent own → AreSent sent heard → IsCause own cause e → IsBroughtBy heard cause e → Comes sent e
comes sent own heard Brought (event.Submit command) a b c i = tt
comes sent own heard Brought event.Wake a b c i = tt
comes sent own heard Brought (event.Deliver message) a b c i = b message i
comes sent own heard Heard e a b c i = subst (Comes sent) (sym c.2) (a c.0 (in_first own c.0 c.1))
comes sent own heard Due e a b c i = subst (Comes sent) (sym c) tt

own_sent : {N : Type 0} (id : ℕ) (sent own kept : List Message) (cause : Cause) (e : Event) (o : Result (List Message) NodeFault) (next : N) → IsFront kept (out_of o) → AreSent sent own →
    AreSent (sent ++ out_of o) (own_after id own (Playing cause e o kept next))
own_sent id sent own kept Brought e o next front a = with_kept (λ m. m.to == id) sent (out_of o) kept own front a
own_sent id sent own kept Heard e o next front a = with_kept (λ m. m.to == id) sent (out_of o) kept (drop 1 own) front (rest_sent sent own a)
own_sent id sent own kept Due e o next front a = with_kept (λ m. m.to == id) sent (out_of o) kept own front a

module _ {S N : Type 0} (seen : S → Seen) (node_moves : N → N → NodeMove) (store : N → S) (state : N → NodeState)
    (is : (a b : N) (e : Event) (o : Result (List Message) NodeFault) → (node_moves a b).plays e o → IsPlayed (state a) (state b) (Plays (store_move seen (store a) (store b)) (state_move (state a) (state b)) e o))
    (n index : ℕ) (member : IsMember n (index + 1)) (heard : List Message) where
  abbrev id : ℕ
  id = index + 1

  abbrev moves_of : List (Deed N) → List (Move S)
  moves_of [] = []
  moves_of (Playing cause e o kept next ∷ ds) = Moving index e o (store next) (state next) ∷ moves_of ds
  moves_of (Asking to slot kept ∷ ds) = Asks id to slot ∷ moves_of ds

  all_own : (ds : List (Deed N)) → AreBy index (moves_of ds)
  all_own [] = tt
  all_own (Playing cause e o kept next ∷ ds) = (refl, all_own ds)
  all_own (Asking to slot kept ∷ ds) = (refl, all_own ds)

  record Is (w : Members S) (node : N) (own out : List Message) : Type 0 where
    at : slice_get w.all index ≡ Some (record { store = Over (store node); state = state node })
    is_open : WhileUp (running_in (state node)) (IsTrue (seen (store node)).is_open)
    own_sent : AreSent w.sent own
    out_sent : AreSent w.sent out
    heard_sent : AreSent w.sent heard

  first_honest : (own : List Message) (ds : List (Deed N)) (a b : N) → Does node_moves n id own a ds b → (seen (store b)).is_honest → (seen (store a)).is_honest
  first_honest own [] a b d h = subst (λ x. (seen (store x)).is_honest) d h
  first_honest own (Playing cause e o kept next ∷ ds) a b d h =
      honest_back seen (store a) (store next) (first_honest (own_after id own (Playing cause e o kept next)) ds next b d.3 h) (state a) (state next) e o (is a next e o d.1).plays
  first_honest own (Asking to slot kept ∷ ds) a b d h = first_honest (own_after {N = N} id own (Asking to slot kept)) ds a b d.2 h

  out_then : (out kept later : List Message) → (out ++ for_others id kept) ++ for_others id later ≡ out ++ for_others id (kept ++ later)
  out_then out kept later = append_assoc out (for_others id kept) (for_others id later) ∙ ap (λ l. out ++ l) (sym (filter-append (λ m. not (m.to == id)) kept later))

  deeds_move : (ds : List (Deed N)) (w : Members S) (a b : N) (own out : List Message) → Is w a own out → Does node_moves n id own a ds b → AreBrought heard ds → (seen (store b)).is_honest →
      AreMoves seen n w (moves_of ds) × Is (after_all w (moves_of ds)) b (own_after_all id own ds) (out ++ for_others id (kept_by_all ds))
  deeds_move [] w a b own out i d h honest = (tt, subst (λ l. Is w b own l) (sym (append-nil out)) (subst (λ x. Is w x own out) (sym d) i))
  deeds_move (Playing cause e o kept next ∷ ds) w a b own out i d h honest =
      let played = is a next e o d.1 in
      let own_next = own_after id own (Playing cause e o kept next) in
      let ok = first_honest own_next ds next b d.3 honest in
      let more = deeds_move ds (after w (Moving index e o (store next) (state next))) next b own_next (out ++ for_others id kept)
      (record {
        at = set_here w.all index (record { store = Over (store next); state = state next }) (record { store = Over (store a); state = state a }) i.at;
        is_open = stays_open seen (store a) (store next) ok (state a) (state next) e o i.is_open played.plays;
        own_sent = own_sent id w.sent own kept cause e o next d.2 i.own_sent;
        out_sent = with_kept (λ m. not (m.to == id)) w.sent (out_of o) kept out d.2 i.out_sent;
        heard_sent = still_sent w.sent (out_of o) heard i.heard_sent;
      }) d.3 h.1 honest in (
        (
          record {
            before = store a;
            state_before = state a;
            at = i.at;
            is = record { comes = comes w.sent own heard cause e i.own_sent i.heard_sent d.0 h.0; played = played; is_honest = ok };
          },
          more.0,
        ),
        subst (Is (after_all w (moves_of (Playing cause e o kept next ∷ ds))) b (own_after_all id own_next ds)) (out_then out kept (kept_by_all ds)) more.1,
      )
  deeds_move (Asking to slot kept ∷ ds) w a b own out i d h honest =
      let own_next = own ++ for_self id kept in
      let more = deeds_move ds (after w (Asks id to slot)) a b own_next (out ++ for_others id kept)
      (record {
        at = i.at;
        is_open = i.is_open;
        own_sent = with_kept (λ m. m.to == id) w.sent (question id to slot ∷ []) kept own d.1 i.own_sent;
        out_sent = with_kept (λ m. not (m.to == id)) w.sent (question id to slot ∷ []) kept out d.1 i.out_sent;
        heard_sent = still_sent w.sent (question id to slot ∷ []) heard i.heard_sent;
      }) d.2 h honest in (
        ((member, d.0), more.0),
        subst (Is (after_all w (moves_of (Asking to slot kept ∷ ds))) b (own_after_all id own_next ds)) (out_then out kept (kept_by_all ds)) more.1,
      )

  pub comes_to : (ds : List (Deed N)) (w : Members S) (a b : N) (own own' out : List Message) → IsAmong seen w index (store a) (state a) (record { own = own; out = [] }) heard → Does node_moves n id own a ds b → AreBrought heard ds →
      own' ≡ own_after_all id own ds → out ≡ for_others id (kept_by_all ds) → (seen (store b)).is_honest → ComesTo seen n w index (store b) (state b) own' out
  comes_to ds w a b own own' out among d h own_is out_is honest =
      let more = deeds_move ds w a b own [] (record { at = among.at; is_open = among.is_open; own_sent = among.own; out_sent = among.out; heard_sent = among.heard_of }) d h honest in
      record {
        moves = moves_of ds;
        are = more.0;
        by = all_own ds;
        is_among = record {
          at = more.1.at;
          is_open = more.1.is_open;
          own = subst (AreSent (after_all w (moves_of ds)).sent) (sym own_is) more.1.own_sent;
          out = subst (AreSent (after_all w (moves_of ds)).sent) (sym out_is) more.1.out_sent;
          heard_of = λ m k. absurd k;
        };
      }

-- ---- inputs

module _ {S N : Type 0} (seen : S → Seen) (node_moves : N → N → NodeMove) (store : N → S) (state : N → NodeState)
    (is : (a b : N) (e : Event) (o : Result (List Message) NodeFault) → (node_moves a b).plays e o → IsPlayed (state a) (state b) (Plays (store_move seen (store a) (store b)) (state_move (state a) (state b)) e o)) where
  pub its_moves : (i : Input) (old new : View N) (result : Result Outputs AllocError) → Acts node_moves i old new result → AreItsMoves seen store state i old new result
  its_moves i old new result acts = λ index w own few among honest.
      let t = acts.turned in
      let does = subst (λ d. Does node_moves old.members d old.own old.node t.deeds new.node) own t.does in
      let own_is = subst (λ d. new.own ≡ own_after_all d old.own t.deeds) own t.own_is in
      let out_is = subst (λ d. acts.out ≡ for_others d (kept_by_all t.deeds)) own t.out_is in
      let member : IsMember old.members (index + 1) = (omega arith, omega (arith, few)) in (
        acts.out,
        acts.sent,
        comes_to seen node_moves store state is old.members index member (heard_in i) t.deeds w old.node new.node old.own new.own acts.out among does (has_brought old (node_moves old.node old.node).up (IsTrue (is_ok result)) i acts.refused t.deeds t.kind) own_is out_is honest,
      )
