-- Deeds of a member, one after the other.
use Rattle.std.proofs.Common.{ℕ, suc, ◌+◌, ◌<◌, ◌≤◌, ◌≡◌, ◌==◌, not, List, [], ◌∷◌, ◌++◌, Option, Some, inl, inr, IsTrue, true, false, drop, length, slice_get, refl, sym, subst, ap, ◌∙◌, append-nil, append_assoc, arith}
use Rattle.std.proofs.lemmas.List.{length-append}
use Rattle.std.proofs.lemmas.List.Elements.{filter-append}
use Rattle.press_wire.specs.declared.message.Message.{Message}
use Rattle.press_acceptor.specs.Trace.{IsMember}
use Rattle.press_acceptor.specs.declared.fault.StoreFault.{StoreFault}
use Rattle.press_node.specs.Nodes.{NodeMove}
use Rattle.press_node.specs.declared.event.Event.{Event}
use Rattle.press_node.specs.declared.event.Event.TheVariants as event
use Rattle.press_node.specs.declared.fault.NodeFault.{NodeFault}
use Rattle.press_member.specs.Turns.{AreFor, AreQuestions, Brings, HearsAll, HearsFirst, IsDeed, IsSorted, MayWake, Moment, Turned, refusal_by}
use Rattle.press_member.specs.Deeds.{Cause, Deed, Does, KeepsAll, for_others, for_self, kept_by, kept_by_all, own_after, own_after_all, stop_after, stop_after_all, stop_behind}
use Rattle.press_member.specs.Members.{question}
use Rattle.press_member.specs.Deeds.Cause.{Brought, Heard, Due}
use Rattle.press_member.specs.Deeds.Deed.{Plays, Asks}

kept_then : {N : Type 0} (ds es : List (Deed N)) → kept_by_all (ds ++ es) ≡ kept_by_all ds ++ kept_by_all es
kept_then [] es = refl
kept_then (d ∷ ds) es = ap (λ l. kept_by d ++ l) (kept_then ds es) ∙ sym (append_assoc (kept_by d) (kept_by_all ds) (kept_by_all es))

own_then : {N : Type 0} (id : ℕ) (own : List Message) (ds es : List (Deed N)) → own_after_all id own (ds ++ es) ≡ own_after_all id (own_after_all id own ds) es
own_then id own [] es = refl
own_then id own (d ∷ ds) es = own_then id (own_after id own d) ds es

keeps_then : {N : Type 0} (id : ℕ) (ds es : List (Deed N)) → KeepsAll id ds → KeepsAll id es → KeepsAll id (ds ++ es)
keeps_then id [] es h k = k
keeps_then id (d ∷ ds) es h k = (h.0, keeps_then id ds es h.1 k)

stops_then : {N : Type 0} (stop : Option StoreFault) (ds es : List (Deed N)) → stop_after_all stop (ds ++ es) ≡ stop_after_all (stop_after_all stop ds) es
stops_then stop [] es = refl
stops_then stop (d ∷ ds) es = stops_then (stop_after stop d) ds es

pub deeds_for : {N : Type 0} (cause : Option Cause) (ds es : List (Deed N)) → AreFor cause ds → AreFor cause es → AreFor cause (ds ++ es)
deeds_for cause [] es h k = k
deeds_for cause (d ∷ ds) es h k = (h.0, deeds_for cause ds es h.1 k)

pub no_wake : {N : Type 0} → MayWake {N = N} []
no_wake = record { are = tt; few = omega arith }

-- so many of its own messages were heard
pub record HearsMany {N : Type 0} (count : ℕ) (deeds : List (Deed N)) : Type 0 where
  pub are : AreFor (Some Heard) deeds
  pub many : length deeds ≡ count

pub hears_none : {N : Type 0} → HearsMany {N = N} 0 []
hears_none = record { are = tt; many = refl }

-- where memory was wanting for what the last one sends, nothing more is said
pub hears_to : {N : Type 0} (id : ℕ) (own : List Message) (count : ℕ) → count < 1000 → (ds es : List (Deed N)) → HearsMany count ds → HearsMany 1 es → HearsAll id (IsTrue false) own (ds ++ es)
unfolding Rattle.press_member.specs.Turns.most_own
hears_to id own count within ds es h k = record {
  are = deeds_for (Some Heard) ds es h.are k.are;
  few = omega (arith, within, length-append ds es, h.many, k.many);
  all = λ w. absurd (let f = w in cc);
}

none_left : (xs : List Message) → xs ≡ drop 1 xs → xs ≡ []
none_left [] e = refl
none_left (x ∷ xs) e = let f : suc (length xs) ≡ length xs = ap length e in absurd (omega (arith, f))

-- nothing waits any more
pub hears_out : {N : Type 0} (id : ℕ) (own : List Message) (count : ℕ) → count ≤ 1000 → (ds : List (Deed N)) → own_after_all id own ds ≡ [] → HearsMany count ds → HearsAll id (IsTrue true) own ds
unfolding Rattle.press_member.specs.Turns.most_own
hears_out id own count within ds none h = record { are = h.are; few = omega (arith, within, h.many); all = λ w. inl none }

-- as many were heard as may be
pub hears_most : {N : Type 0} (id : ℕ) (own : List Message) (count : ℕ) (ds : List (Deed N)) → count ≡ 1000 → HearsMany count ds → HearsAll id (IsTrue true) own ds
unfolding Rattle.press_member.specs.Turns.most_own
hears_most id own count ds most h = record { are = h.are; few = omega (arith, most, h.many); all = λ w. inr (h.many ∙ most) }

pub hears_first : {N : Type 0} (id : ℕ) (V X : Type 0) (own : List Message) → (X → V) → (ds es : List (Deed N)) → HearsAll id V own ds → MayWake es → HearsFirst id X own (ds ++ es)
hears_first id V X own v ds es h k = record { heard = ds; more = es; are = refl; hears = record { are = h.are; few = h.few; all = λ x. h.all (v x) }; wakes = k }

pub hears_only : {N : Type 0} (id : ℕ) (W : Type 0) (own : List Message) (ds : List (Deed N)) → HearsAll id W own ds → HearsFirst id W own ds
hears_only id W own ds h = record { heard = ds; more = []; are = sym (append-nil ds); hears = h; wakes = no_wake }

pub one_more : {N : Type 0} (count : ℕ) (ds es : List (Deed N)) → HearsMany count ds → HearsMany 1 es → HearsMany (count + 1) (ds ++ es)
one_more count ds es h k = record {
  are = deeds_for (Some Heard) ds es h.are k.are;
  many = length-append ds es ∙ ap (λ n. n + length es) h.many ∙ ap (λ n. count + n) k.many;
}

-- nothing is sent
pub none_sorted : (id : ℕ) (own out : List Message) (Whole : Type 0) → IsSorted id [] Whole own own out out
none_sorted id own out Whole = record { kept = []; front = ([], refl); own_is = sym (append-nil own); out_is = sym (append-nil out); whole = λ w. refl }

module _ {N : Type 0} (moved : N → N → NodeMove) (n id : ℕ) where
  does_then : (own : List Message) (a b c : N) (ds es : List (Deed N)) → Does moved n id own a ds b → Does moved n id (own_after_all id own ds) b es c → Does moved n id own a (ds ++ es) c
  does_then own a b c [] es h k = subst (λ x. Does moved n id own x es c) h k
  does_then own a b c (Plays cause e o kept next ∷ ds) es h k = (h.0, h.1, h.2, does_then (own_after id own (Plays cause e o kept next)) next b c ds es h.3 k)
  does_then own a b c (Asks to slot kept ∷ ds) es h k = (h.0, h.1, does_then (own_after {N = N} id own (Asks to slot kept)) a b c ds es h.2 k)

  pub turned_then : (K L M : List (Deed N) → Type 0) (V W X : Type 0) (a b c : Moment N) (out out1 out2 : List Message) →
      Turned moved n id K V a b out out1 → Turned moved n id L W b c out1 out2 →
      ((ds es : List (Deed N)) → K ds → L es → M (ds ++ es)) → (X → V) → (X → W) → Turned moved n id M X a c out out2
  turned_then K L M V W X a b c out out1 out2 t u kinds v w = record {
    deeds = t.deeds ++ u.deeds;
    does = does_then a.own a.node b.node c.node t.deeds u.deeds t.does (subst (λ l. Does moved n id l b.node u.deeds c.node) t.own_is u.does);
    own_is = u.own_is ∙ ap (λ l. own_after_all id l u.deeds) t.own_is ∙ sym (own_then id a.own t.deeds u.deeds);
    stop_is = u.stop_is ∙ ap (λ o. stop_after_all o u.deeds) t.stop_is ∙ sym (stops_then a.stop t.deeds u.deeds);
    out_is = u.out_is ∙ ap (λ l. l ++ for_others id (kept_by_all u.deeds)) t.out_is ∙ append_assoc out (for_others id (kept_by_all t.deeds)) (for_others id (kept_by_all u.deeds))
        ∙ ap (λ l. out ++ l) (sym (filter-append (λ m. not (m.to == id)) (kept_by_all t.deeds) (kept_by_all u.deeds)) ∙ ap (for_others id) (sym (kept_then t.deeds u.deeds)));
    kind = kinds t.deeds u.deeds t.kind u.kind;
    whole = λ x. keeps_then id t.deeds u.deeds (t.whole (v x)) (u.whole (w x));
  }

  -- the second turn is said of its own number
  pub turns_on : (K L M : List (Deed N) → Type 0) (V W X : Type 0) (a b c : Moment N) (out out1 out2 : List Message) →
      Turned moved n id K V a b out out1 → (id1 : ℕ) → id1 ≡ id → Turned moved n id1 L W b c out1 out2 →
      ((ds es : List (Deed N)) → K ds → L es → M (ds ++ es)) → (X → V) → (X → W) → Turned moved n id M X a c out out2
  turns_on K L M V W X a b c out out1 out2 t id1 is u kinds v w =
      turned_then K L M V W X a b c out out1 out2 t (subst (λ i. Turned moved n i L W b c out1 out2) is u) kinds v w

  pub at_rest : (K : List (Deed N) → Type 0) (W : Type 0) (a : Moment N) (out : List Message) → K [] → Turned moved n id K W a a out out
  at_rest K W a out k = record { deeds = []; does = refl; own_is = refl; stop_is = refl; out_is = sym (append-nil out); kind = k; whole = λ w. tt }

  -- nothing of it has changed before a turn
  pub from_same : (K : List (Deed N) → Type 0) (W : Type 0) (a b c : Moment N) (out out' : List Message) → b ≡ a → Turned moved n id K W b c out out' → Turned moved n id K W a c out out'
  from_same K W a b c out out' e t = subst (λ x. Turned moved n id K W x c out out') e t

  pub still : (K : List (Deed N) → Type 0) (W : Type 0) (a b : Moment N) (out : List Message) → b ≡ a → K [] → Turned moved n id K W a b out out
  still K W a b out e k = subst (λ x. Turned moved n id K W x b out out) e (at_rest K W b out k)

  pub other_kind : (K L : List (Deed N) → Type 0) (W : Type 0) (a b : Moment N) (out out' : List Message) → ((ds : List (Deed N)) → K ds → L ds) → Turned moved n id K W a b out out' → Turned moved n id L W a b out out'
  other_kind K L W a b out out' kinds t = record { deeds = t.deeds; does = t.does; own_is = t.own_is; stop_is = t.stop_is; out_is = t.out_is; kind = kinds t.deeds t.kind; whole = t.whole }

  -- an event that is brought, and one that is due
  abbrev brought_by : (e : Event) (R : Option NodeFault → Type 0) (W : Type 0) (a b : Moment N) (out out' : List Message) → IsDeed moved id e R W a b out out' → Deed N
  brought_by e R W a b out out' d = Plays Brought e d.outcome d.sorted.kept b.node

  brings : (K : List (Deed N) → Type 0) (e : Event) (R : Option NodeFault → Type 0) (W : Type 0) (a b : Moment N) (out out' : List Message) →
      (d : IsDeed moved id e R W a b out out') → K (brought_by e R W a b out out' d ∷ []) → Turned moved n id K W a b out out'
  brings K e R W a b out out' d k = record {
    deeds = brought_by e R W a b out out' d ∷ [];
    does = (tt, d.plays, d.sorted.front, refl);
    own_is = d.sorted.own_is;
    stop_is = d.stop_is;
    out_is = d.sorted.out_is ∙ ap (λ l. out ++ for_others id l) (sym (append-nil d.sorted.kept));
    kind = k;
    whole = λ w. (d.sorted.whole w, tt);
  }

  pub brought : (e : Event) (R : Option NodeFault → Type 0) (W : Type 0) (a b : Moment N) (out out' : List Message) →
      (d : IsDeed moved id e R W a b out out') → Turned moved n id (Brings e (refusal_by d.outcome)) W a b out out'
  brought e R W a b out out' d = brings (Brings e (refusal_by d.outcome)) e R W a b out out' d (refl, refl, no_wake)

  -- and then a wake may be due
  pub brings_turn : (e : Event) (R : Option NodeFault → Type 0) (V W X : Type 0) (a b c : Moment N) (out out1 out2 : List Message) →
      (d : IsDeed moved id e R V a b out out1) → (id1 : ℕ) → id1 ≡ id → Turned moved n id1 MayWake W b c out1 out2 → (X → V) → (X → W) →
      Turned moved n id (Brings e (refusal_by d.outcome)) X a c out out2
  brings_turn e R V W X a b c out out1 out2 d id1 is u v w =
      turns_on (λ ds. ds ≡ brought_by e R V a b out out1 d ∷ []) MayWake (Brings e (refusal_by d.outcome)) V W X a b c out out1 out2
      (brings (λ ds. ds ≡ brought_by e R V a b out out1 d ∷ []) e R V a b out out1 d refl) id1 is u
      (λ ds es k l. subst (λ x. Brings e (refusal_by d.outcome) (x ++ es)) (sym k) (refl, refl, l)) v w

  pub due : (R : Option NodeFault → Type 0) (W : Type 0) (a b : Moment N) (out out' : List Message) →
      IsDeed moved id event.Wake R W a b out out' → Turned moved n id MayWake W a b out out'
  due R W a b out out' d = record {
    deeds = Plays Due event.Wake d.outcome d.sorted.kept b.node ∷ [];
    does = (refl, d.plays, d.sorted.front, refl);
    own_is = d.sorted.own_is;
    stop_is = d.stop_is;
    out_is = d.sorted.out_is ∙ ap (λ l. out ++ for_others id l) (sym (append-nil d.sorted.kept));
    kind = record { are = (refl, tt); few = omega arith };
    whole = λ w. (d.sorted.whole w, tt);
  }

  -- the first of what it has sent to itself is heard
  pub heard : (m : Message) (R : Option NodeFault → Type 0) (W : Type 0) (a popped b : Moment N) (out out' : List Message) → a.own ≡ m ∷ popped.own → popped.node ≡ a.node → popped.stop ≡ a.stop →
      IsDeed moved id (event.Deliver m) R W popped b out out' → Turned moved n id (HearsMany 1) W a b out out'
  heard m R W a popped b out out' is node stop d = record {
    deeds = Plays Heard (event.Deliver m) d.outcome d.sorted.kept b.node ∷ [];
    does = ((m, ap (λ l. slice_get l 0) is, refl), subst (λ x. (moved x b.node).plays (event.Deliver m) d.outcome) node d.plays, d.sorted.front, refl);
    own_is = d.sorted.own_is ∙ ap (λ l. drop 1 l ++ for_self id d.sorted.kept) (sym is);
    stop_is = d.stop_is ∙ ap (λ o. stop_behind o d.outcome) stop;
    out_is = d.sorted.out_is ∙ ap (λ l. out ++ for_others id l) (sym (append-nil d.sorted.kept));
    kind = record { are = (refl, tt); many = refl };
    whole = λ w. (d.sorted.whole w, tt);
  }

  -- nothing waits any more
  pub heard_out : (count : ℕ) → count ≤ 1000 → (a b c : Moment N) (out out' : List Message) → Turned moved n id (HearsMany count) (IsTrue true) a b out out' → c.node ≡ b.node → c.stop ≡ b.stop → b.own ≡ c.own → b.own ≡ drop 1 b.own →
      Turned moved n id (HearsAll id (IsTrue true) a.own) (IsTrue true) a c out out'
  heard_out count within a b c out out' t node stop own none = record {
    deeds = t.deeds;
    does = subst (λ x. Does moved n id a.own a.node t.deeds x) (sym node) t.does;
    own_is = sym own ∙ t.own_is;
    stop_is = stop ∙ t.stop_is;
    out_is = t.out_is;
    kind = hears_out id a.own count within t.deeds (sym t.own_is ∙ none_left b.own none) t.kind;
    whole = t.whole;
  }

  pub asked : (to slot : ℕ) (sent : List Message) (W : Type 0) (a b : Moment N) (out out' : List Message) → b.node ≡ a.node → b.stop ≡ a.stop → IsMember n to → sent ≡ question id to slot ∷ [] →
      IsSorted id sent W a.own b.own out out' → Turned moved n id AreQuestions W a b out out'
  asked to slot sent W a b out out' node stop member is s = record {
    deeds = Asks to slot s.kept ∷ [];
    does = (member, (s.front.0, s.front.1 ∙ is), node);
    own_is = s.own_is;
    stop_is = stop;
    out_is = s.out_is ∙ ap (λ l. out ++ for_others id l) (sym (append-nil s.kept));
    kind = (refl, tt);
    whole = λ w. (s.whole w ∙ is, tt);
  }
