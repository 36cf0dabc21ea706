-- Groups by priority: their entries, and what an edit of the group named makes of all entries.
use Rattle.std.proofs.Common.{◌≡◌, refl, sym, ◌∙◌, ap, ap₂, subst, ℕ, zero, suc, ◌+◌, ◌<◌, ◌≤◌, ℤ, Bool, true, false, not, cond, List, [], ◌∷◌, ◌++◌, append_assoc, map, filter, length, get_or, set, drop, insert, Option, Some, None, Result, Ok, Err, int_lt, int_eq, bytes_eq, length-append, arith}
use Rattle.std.specs.Prelude.{◌&&◌, ◌||◌, option_map, remove}
use Rattle.std.specs.List.{AllWithin, HoldsAt, list_any, find}
use Rattle.std.specs.List.Sorted.{IsNonDecreasingBy, IsPartitionedBy, IsPartitionPoint, IsSearchInRange, IsBinarySearchResult}
use Rattle.std.specs.Ordering.{int_cmp, ordering_index}
use Rattle.std.specs.declared.cmp.Ordering.{Ordering}
use Rattle.std.specs.declared.cmp.Ordering.TheVariants.{Less, Equal, Greater}
use Rattle.std.proofs.lemmas.Int.{ints}
use Rattle.std.proofs.lemmas.List.{length-take-le, get_or-set_same}
use Rattle.press_hooks.specs.declared.entry.Entry.{Entry}
use Rattle.press_hooks.specs.declared.group_entry.GroupEntry.{GroupEntry}
use Rattle.press_hooks.specs.GroupEntries.{entry_at, group_entry_of, accepted_if, is_group_entry_of}
use Rattle.press_hooks.specs.NextEntry.{is_past, first_of}
use Rattle.press_hooks.specs.Hooked.{GroupView, with_members, group_entries, entries_of, IsEach, IsByPriority, AreGroups, IsPlaceAt, up_to, put_entry, is_of, is_named, accepted_where}
use Rattle.press_text.proofs.Parted.{front_kept}
use Rattle.press_hooks.proofs.Cuts.{each_at, each_joined, each_weaker, all_pass, none_pass, filter_joined, map_joined, append_none, length_mapped}

empty_where : {X : Type 0} (xs : List X) → length xs ≡ 0 → xs ≡ []
empty_where [] e = refl
empty_where (x ∷ xs) e = absurd (omega arith)

itself : (p : ℤ) → int_lt p p ≡ false
itself p = grind (arith, ints)

not_after : (p q : ℤ) → int_lt p q ≡ true → int_lt q p ≡ false
not_after p q h = grind (arith, ints)

unlike : (p q : ℤ) → int_lt p q ≡ true → int_eq q p ≡ false
unlike p q h = grind (arith, ints)

-- ---- entries of groups

each_member : (P : ℤ → Type 0) (p : ℤ) (ms : List GroupEntry) → P p → IsEach (λ (e : Entry). P e.priority) (map (entry_at p) ms)
each_member P p [] h = tt
each_member P p (m ∷ ms) h = (h, each_member P p ms h)

pub each_entry : (P : ℤ → Type 0) (gs : List GroupView) → IsEach (λ (g : GroupView). P g.priority) gs → IsEach (λ (e : Entry). P e.priority) (entries_of gs)
each_entry P [] h = tt
each_entry P (g ∷ gs) h = each_joined (λ (e : Entry). P e.priority) (group_entries g) (entries_of gs) (each_member P g.priority g.members h.0) (each_entry P gs h.1)

order_joined : (p : ℤ) (ms : List GroupEntry) (ys : List Entry) → IsEach (λ (f : Entry). int_lt f.priority p ≡ false) ys → IsByPriority ys → IsByPriority (map (entry_at p) ms ++ ys)
order_joined p [] ys h o = o
order_joined p (m ∷ ms) ys h o =
    (each_joined (λ (f : Entry). int_lt f.priority p ≡ false) (map (entry_at p) ms) ys (each_member (λ q. int_lt q p ≡ false) p ms (itself p)) h, order_joined p ms ys h o)

later : (p : ℤ) (gs : List GroupView) → IsEach (λ (h : GroupView). int_lt p h.priority ≡ true) gs → IsEach (λ (e : Entry). int_lt e.priority p ≡ false) (entries_of gs)
later p gs h = each_entry (λ q. int_lt q p ≡ false) gs (each_weaker (λ (g : GroupView). int_lt p g.priority ≡ true) (λ (g : GroupView). int_lt g.priority p ≡ false) gs (λ g. not_after p g.priority) h)

pub order_entries : (gs : List GroupView) → AreGroups gs → IsByPriority (entries_of gs)
order_entries [] o = tt
order_entries (g ∷ gs) o = order_joined g.priority g.members (entries_of gs) (later g.priority gs o.1) (order_entries gs o.2)

pub has_member : (gs : List GroupView) (i : ℕ) (d : GroupView) → AreGroups gs → i < length gs → 0 < length (get_or gs i d).members
has_member [] i d o lt = absurd (omega arith)
has_member (g ∷ gs) zero d o lt = o.0
has_member (g ∷ gs) (suc i) d o lt = let lt' : i < length gs = omega arith in has_member gs i d o.2 lt'

pub order_drop : (gs : List GroupView) (i : ℕ) → AreGroups gs → AreGroups (drop i gs)
order_drop [] zero o = tt
order_drop [] (suc i) o = tt
order_drop (g ∷ gs) zero o = o
order_drop (g ∷ gs) (suc i) o = order_drop gs i o.2

-- ---- groups up to a priority, and those ahead of it

later_past : (r : Option ℤ) (p q : ℤ) → int_lt p q ≡ true → is_past r p ≡ true → is_past r q ≡ true
later_past None p q l h = refl
later_past (Some r) p q l h = past r p q l h
  where
    past : (r p q : ℤ) → int_lt p q ≡ true → int_lt r p ≡ true → int_lt r q ≡ true
    past r p q l h = grind (arith, ints)

module _ (reached : Option ℤ) where
  all_past : (g : GroupView) (gs : List GroupView) → is_past reached g.priority ≡ true → AreGroups (g ∷ gs) → IsEach (λ (h : GroupView). is_past reached h.priority ≡ true) (g ∷ gs)
  all_past g gs h o = (h, each_weaker (λ (f : GroupView). int_lt g.priority f.priority ≡ true) (λ (f : GroupView). is_past reached f.priority ≡ true) gs (λ f l. later_past reached g.priority f.priority l h) o.1)

  ahead_by : (b : Bool) (g : GroupView) (gs : List GroupView) → is_past reached g.priority ≡ b → AreGroups (g ∷ gs) → filter (λ (e : Entry). is_past reached e.priority) (entries_of gs) ≡ entries_of (drop (up_to reached gs) gs) →
      filter (λ (e : Entry). is_past reached e.priority) (entries_of (g ∷ gs)) ≡ entries_of (drop (length (cond (not b) (g ∷ filter (λ (h : GroupView). not (is_past reached h.priority)) gs) (filter (λ (h : GroupView). not (is_past reached h.priority)) gs))) (g ∷ gs))
  ahead_by true g gs h o ih =
      let past = all_past g gs h o in
      let none : filter (λ (f : GroupView). not (is_past reached f.priority)) gs ≡ [] = none_pass (λ (f : GroupView). not (is_past reached f.priority)) gs (each_weaker (λ (f : GroupView). is_past reached f.priority ≡ true) (λ (f : GroupView). not (is_past reached f.priority) ≡ false) gs (λ f k. ap not k) past.1) in
      all_pass (λ (e : Entry). is_past reached e.priority) (entries_of (g ∷ gs)) (each_entry (λ q. is_past reached q ≡ true) (g ∷ gs) past)
      ∙ ap (λ (fs : List GroupView). entries_of (drop (length fs) (g ∷ gs))) (sym none)
  ahead_by false g gs h o ih =
      let t : Entry → Bool = λ e. is_past reached e.priority in
      filter_joined t (group_entries g) (entries_of gs)
      ∙ (ap (λ xs. xs ++ filter t (entries_of gs)) (none_pass t (group_entries g) (each_member (λ q. is_past reached q ≡ false) g.priority g.members h)) ∙ ih)

  pub ahead_entries : (gs : List GroupView) → AreGroups gs → filter (λ (e : Entry). is_past reached e.priority) (entries_of gs) ≡ entries_of (drop (up_to reached gs) gs)
  ahead_entries [] o = refl
  ahead_entries (g ∷ gs) o = ahead_by (is_past reached g.priority) g gs refl o (ahead_entries gs o.2)

pub next_up_to : (gs : List GroupView) (i : ℕ) (d : GroupView) → AreGroups gs → i < length gs → up_to (Some (get_or gs i d).priority) gs ≡ i + 1
next_up_to [] i d o lt = absurd (omega arith)
next_up_to (g ∷ gs) zero d o lt =
    let t : GroupView → Bool = λ h. not (int_lt g.priority h.priority) in
    let none : filter t gs ≡ [] = none_pass t gs (each_weaker (λ (h : GroupView). int_lt g.priority h.priority ≡ true) (λ (h : GroupView). t h ≡ false) gs (λ h k. ap not k) o.1) in
    ap (λ b. length (cond (not b) (g ∷ filter t gs) (filter t gs))) (itself g.priority) ∙ ap (λ (hs : List GroupView). suc (length hs)) none
next_up_to (g ∷ gs) (suc i) d o lt =
    let lt' : i < length gs = omega arith in
    let p : ℤ = (get_or gs i d).priority in
    let t : GroupView → Bool = λ h. not (int_lt p h.priority) in
    let less : int_lt g.priority p ≡ true = each_at (λ (h : GroupView). int_lt g.priority h.priority ≡ true) gs i d o.1 lt' in
    let k : suc (i + 1) ≡ suc i + 1 = omega arith in
    ap (λ b. length (cond (not b) (g ∷ filter t gs) (filter t gs))) (not_after g.priority p less) ∙ (ap suc (next_up_to gs i d o.2 lt') ∙ k)

-- ---- the group that stands first

first_member : (p : ℤ) (ms : List GroupEntry) (ys : List Entry) → 0 < length ms → option_map (λ (e : Entry). e.priority) (first_of (map (entry_at p) ms ++ ys)) ≡ Some p
first_member p [] ys h = absurd (omega arith)
first_member p (m ∷ ms) ys h = refl

pub first_priority : (g : GroupView) (gs : List GroupView) → AreGroups (g ∷ gs) → option_map (λ (e : Entry). e.priority) (first_of (entries_of (g ∷ gs))) ≡ Some g.priority
first_priority g gs o = first_member g.priority g.members (entries_of gs) o.0

eq_itself : (p : ℤ) → int_eq p p ≡ true
eq_itself p = grind (arith, ints)

pub first_entries : (g : GroupView) (gs : List GroupView) → AreGroups (g ∷ gs) → filter (λ (e : Entry). int_eq e.priority g.priority) (entries_of (g ∷ gs)) ≡ group_entries g
first_entries g gs o =
    let t : Entry → Bool = λ e. int_eq e.priority g.priority in
    filter_joined t (group_entries g) (entries_of gs)
    ∙ (ap (λ xs. xs ++ filter t (entries_of gs)) (all_pass t (group_entries g) (each_member (λ q. int_eq q g.priority ≡ true) g.priority g.members (eq_itself g.priority)))
    ∙ (ap (λ ys. group_entries g ++ ys) (none_pass t (entries_of gs) (each_entry (λ q. int_eq q g.priority ≡ false) gs (each_weaker (λ (h : GroupView). int_lt g.priority h.priority ≡ true) (λ (h : GroupView). int_eq h.priority g.priority ≡ false) gs (λ h. unlike g.priority h.priority) o.1)))
    ∙ append_none (group_entries g)))

-- ---- the binary search

cmp_equal : (p q : ℤ) → int_cmp p q ≡ Equal → p ≡ q
cmp_equal p q e = by (int_lt p q) (int_lt q p) refl refl e
  where
    by : (a b : Bool) → int_lt p q ≡ a → int_lt q p ≡ b → cond a Less (cond b Greater Equal) ≡ Equal → p ≡ q
    by true b h k e = cc
    by false true h k e = cc
    by false false h k e = grind (arith, ints)

cmp_less : (p q : ℤ) → int_cmp p q ≡ Less → int_lt p q ≡ true
cmp_less p q e = by (int_lt p q) (int_lt q p) refl refl e
  where
    by : (a b : Bool) → int_lt p q ≡ a → int_lt q p ≡ b → cond a Less (cond b Greater Equal) ≡ Less → a ≡ true
    by true b h k e = refl
    by false true h k e = cc
    by false false h k e = cc

cmp_greater : (p q : ℤ) → int_cmp p q ≡ Greater → int_lt q p ≡ true
cmp_greater p q e = by (int_lt p q) (int_lt q p) refl refl e
  where
    by : (a b : Bool) → int_lt p q ≡ a → int_lt q p ≡ b → cond a Less (cond b Greater Equal) ≡ Greater → b ≡ true
    by true b h k e = cc
    by false true h k e = refl
    by false false h k e = cc

less_cmp : (p q : ℤ) → int_lt p q ≡ true → int_cmp p q ≡ Less
less_cmp p q h = ap (λ b. cond b Less (cond (int_lt q p) Greater Equal)) h

lt_trans : (a b n : ℤ) → int_lt a b ≡ true → int_lt b n ≡ true → int_lt a n ≡ true
lt_trans a b n h k = grind (arith, ints)

rank_less : (a b n : ℤ) (o : Ordering) → int_lt a b ≡ true → int_cmp b n ≡ o → ordering_index (int_cmp a n) ≤ ordering_index o
rank_less a b n Less l e = let k : int_cmp a n ≡ Less = less_cmp a n (lt_trans a b n l (cmp_less b n e)) in rw k (omega arith)
rank_less a b n Equal l e = let k : int_cmp a n ≡ Less = less_cmp a n (subst (λ z. int_lt a z ≡ true) (cmp_equal b n e) l) in rw k (omega arith)
rank_less a b n Greater l e = top (int_cmp a n)
  where
    top : (o : Ordering) → ordering_index o ≤ 2
    top Less = omega arith
    top Equal = omega arith
    top Greater = omega arith

rising : (p : ℤ) (gs : List GroupView) → AreGroups gs → IsNonDecreasingBy (λ (g : GroupView). ordering_index (int_cmp g.priority p)) gs
rising p [] o i j d le lt = absurd (omega arith)
rising p (g ∷ gs) o zero zero d le lt = omega arith
rising p (g ∷ gs) o zero (suc j) d le lt =
    let lt' : j < length gs = omega arith in
    rank_less g.priority (get_or gs j d).priority p (int_cmp (get_or gs j d).priority p) (each_at (λ (h : GroupView). int_lt g.priority h.priority ≡ true) gs j d o.1 lt') refl
rising p (g ∷ gs) o (suc i) zero d le lt = absurd (omega arith)
rising p (g ∷ gs) o (suc i) (suc j) d le lt =
    let le' : i ≤ j = omega arith in
    let lt' : j < length gs = omega arith in
    rising p gs o.2 i j d le' lt'

pub placed_at : (p : ℤ) (gs : List GroupView) (r : Result ℕ ℕ) → AreGroups gs → IsSearchInRange r (length gs) → IsBinarySearchResult (λ (g : GroupView). int_cmp g.priority p) gs r → IsPlaceAt p gs r
placed_at p gs (Ok i) o within at = (within, at)
placed_at p gs (Err i) o within at = (within, at (rising p gs o))

not_past_both : (a b p : ℤ) → int_lt a b ≡ true → not (int_lt p b) ≡ true → not (int_lt p a) ≡ true
not_past_both a b p h k = by (int_lt p b) refl k
  where
    by : (c : Bool) → int_lt p b ≡ c → not c ≡ true → not (int_lt p a) ≡ true
    by true e k = cc
    by false e k = let l : int_lt p a ≡ false = grind (arith, ints) in ap not l

pub parted_up_to : (p : ℤ) (gs : List GroupView) → AreGroups gs → IsPartitionedBy (λ (g : GroupView). not (int_lt p g.priority)) gs
parted_up_to p [] o i j d le lt k = absurd (omega arith)
parted_up_to p (g ∷ gs) o zero zero d le lt k = k
parted_up_to p (g ∷ gs) o zero (suc j) d le lt k =
    let lt' : j < length gs = omega arith in
    not_past_both g.priority (get_or gs j d).priority p (each_at (λ (h : GroupView). int_lt g.priority h.priority ≡ true) gs j d o.1 lt') k
parted_up_to p (g ∷ gs) o (suc i) zero d le lt k = absurd (omega arith)
parted_up_to p (g ∷ gs) o (suc i) (suc j) d le lt k =
    let le' : i ≤ j = omega arith in
    let lt' : j < length gs = omega arith in
    parted_up_to p gs o.2 i j d le' lt' k

pub none_counted : (gs : List GroupView) → 0 ≡ up_to None gs
none_counted [] = refl
none_counted (g ∷ gs) = none_counted gs

pub counted : (p : ℤ) (gs : List GroupView) (i : ℕ) → i ≤ length gs → IsPartitionPoint (λ (g : GroupView). not (int_lt p g.priority) ≡ true) (λ (g : GroupView). not (int_lt p g.priority) ≡ false) gs i → i ≡ up_to (Some p) gs
counted p gs i le parts = sym (length-take-le i gs le) ∙ ap (λ hs. length hs) (front_kept (λ (g : GroupView). not (int_lt p g.priority)) gs i parts.0 parts.1)

-- ---- the entries of a priority

apart : (p : ℤ) (gs : List GroupView) (i : ℕ) → AllWithin (λ (g : GroupView). int_cmp g.priority p ≡ Less) gs 0 i → AllWithin (λ (g : GroupView). int_cmp g.priority p ≡ Greater) gs i (length gs) → IsEach (λ (g : GroupView). int_eq g.priority p ≡ false) gs
apart p [] i low high = tt
apart p (g ∷ gs) zero low high =
    let at : int_lt p g.priority ≡ true = cmp_greater g.priority p (high 0 g (omega arith) (omega arith)) in
    (unlike p g.priority at, apart p gs 0 (λ k d a b. absurd (omega arith)) (λ k d a b. high (suc k) d (omega arith) (omega arith)))
apart p (g ∷ gs) (suc i) low high =
    let at : int_lt g.priority p ≡ true = cmp_less g.priority p (low 0 g (omega arith) (omega arith)) in
    let differ : int_eq g.priority p ≡ false = grind (arith, ints) in
    (differ, apart p gs i (λ k d a b. low (suc k) d (omega arith) (omega arith)) (λ k d a b. high (suc k) d (omega arith) (omega arith)))

pub at_missing : (p : ℤ) (gs : List GroupView) (i : ℕ) → IsPartitionPoint (λ (g : GroupView). int_cmp g.priority p ≡ Less) (λ (g : GroupView). int_cmp g.priority p ≡ Greater) gs i → filter (λ (e : Entry). int_eq e.priority p) (entries_of gs) ≡ []
at_missing p gs i parts = none_pass (λ (e : Entry). int_eq e.priority p) (entries_of gs) (each_entry (λ q. int_eq q p ≡ false) gs (apart p gs i parts.0 parts.1))

-- a group before one of that priority
before_one : (p : ℤ) (g : GroupView) (gs : List GroupView) (i : ℕ) → IsEach (λ (h : GroupView). int_lt g.priority h.priority ≡ true) gs → i < length gs → HoldsAt (λ (h : GroupView). int_cmp h.priority p ≡ Equal) gs i → int_lt g.priority p ≡ true
before_one p g gs i o lt at = subst (λ q. int_lt g.priority q ≡ true) (cmp_equal (get_or gs i g).priority p (at g)) (each_at (λ (h : GroupView). int_lt g.priority h.priority ≡ true) gs i g o lt)

less_unlike : (p q : ℤ) → int_lt p q ≡ true → int_eq p q ≡ false
less_unlike p q h = grind (arith, ints)

pub at_found : (p : ℤ) (gs : List GroupView) (i : ℕ) (d : GroupView) → AreGroups gs → i < length gs → HoldsAt (λ (g : GroupView). int_cmp g.priority p ≡ Equal) gs i → filter (λ (e : Entry). int_eq e.priority p) (entries_of gs) ≡ group_entries (get_or gs i d)
at_found p [] i d o lt at = absurd (omega arith)
at_found p (g ∷ gs) zero d o lt at =
    ap (λ q. filter (λ (e : Entry). int_eq e.priority q) (entries_of (g ∷ gs))) (sym (cmp_equal g.priority p (at g))) ∙ first_entries g gs o
at_found p (g ∷ gs) (suc i) d o lt at =
    let lt' : i < length gs = omega arith in
    let t : Entry → Bool = λ e. int_eq e.priority p in
    let less : int_lt g.priority p ≡ true = before_one p g gs i o.1 lt' (λ h. at h) in
    filter_joined t (group_entries g) (entries_of gs)
    ∙ (ap (λ xs. xs ++ filter t (entries_of gs)) (none_pass t (group_entries g) (each_member (λ q. int_eq q p ≡ false) g.priority g.members (less_unlike g.priority p less)))
    ∙ at_found p gs i d o.2 lt' (λ h. at h))

any_member : (c : List ℕ) (p : ℤ) (ms : List GroupEntry) → list_any (λ (m : GroupEntry). bytes_eq m.callback c) ms ≡ list_any (λ (e : Entry). bytes_eq e.callback c) (map (entry_at p) ms)
any_member c p [] = refl
any_member c p (m ∷ ms) = ap (λ b. bytes_eq m.callback c || b) (any_member c p ms)

pub has_found : (p : ℤ) (c : List ℕ) (gs : List GroupView) (i : ℕ) (g : GroupView) {b : Bool} → AreGroups gs → i < length gs → HoldsAt (λ (h : GroupView). int_cmp h.priority p ≡ Equal) gs i → g ≡ get_or gs i g → b ≡ list_any (λ (m : GroupEntry). bytes_eq m.callback c) g.members → b ≡ list_any (λ (e : Entry). bytes_eq e.callback c) (filter (λ (e : Entry). int_eq e.priority p) (entries_of gs))
has_found p c gs i g o lt at is h =
    h ∙ (any_member c g.priority g.members
    ∙ (ap (λ (x : GroupView). list_any (λ (e : Entry). bytes_eq e.callback c) (group_entries x)) is ∙ ap (list_any (λ (e : Entry). bytes_eq e.callback c)) (sym (at_found p gs i g o lt at))))

-- ---- the first entry of a callback

find_joined : (c : List ℕ) (p : ℤ) (ms : List GroupEntry) (ys : List Entry) {o : Option ℤ} → o ≡ option_map (λ (e : Entry). e.priority) (find (λ (e : Entry). bytes_eq e.callback c) ys) → cond (list_any (λ (m : GroupEntry). bytes_eq m.callback c) ms) (Some p) o ≡ option_map (λ (e : Entry). e.priority) (find (λ (e : Entry). bytes_eq e.callback c) (map (entry_at p) ms ++ ys))
find_joined c p [] ys k = k
find_joined c p (m ∷ ms) ys k = by (bytes_eq m.callback c) _ (find_joined c p ms ys k)
  where
    by : (b : Bool) (o : Option ℤ) → cond (list_any (λ (l : GroupEntry). bytes_eq l.callback c) ms) (Some p) o ≡ option_map (λ (e : Entry). e.priority) (find (λ (e : Entry). bytes_eq e.callback c) (map (entry_at p) ms ++ ys)) → cond (b || list_any (λ (l : GroupEntry). bytes_eq l.callback c) ms) (Some p) o ≡ option_map (λ (e : Entry). e.priority) (cond b (Some (entry_at p m)) (find (λ (e : Entry). bytes_eq e.callback c) (map (entry_at p) ms ++ ys)))
    by true o ih = refl
    by false o ih = ih

pub find_entries : (c : List ℕ) (gs : List GroupView) → option_map (λ (g : GroupView). g.priority) (find (λ (g : GroupView). list_any (λ (m : GroupEntry). bytes_eq m.callback c) g.members) gs) ≡ option_map (λ (e : Entry). e.priority) (find (λ (e : Entry). bytes_eq e.callback c) (entries_of gs))
find_entries c [] = refl
find_entries c (g ∷ gs) = mapped (list_any (λ (m : GroupEntry). bytes_eq m.callback c) g.members) _ ∙ find_joined c g.priority g.members (entries_of gs) (find_entries c gs)
  where
    mapped : (b : Bool) (o : Option GroupView) → option_map (λ (h : GroupView). h.priority) (cond b (Some g) o) ≡ cond b (Some g.priority) (option_map (λ (h : GroupView). h.priority) o)
    mapped true o = refl
    mapped false o = refl

-- ---- an edit of the group named, which leaves the entries of other priorities as they are

behind_others : (p : ℤ) (g : GroupView) (gs : List GroupView) → g.priority ≡ p → IsEach (λ (h : GroupView). int_lt g.priority h.priority ≡ true) gs → IsEach (λ (h : GroupView). int_lt p h.priority ≡ true) gs
behind_others p g gs e o = subst (λ q. IsEach (λ (h : GroupView). int_lt q h.priority ≡ true) gs) e o

module _ (p : ℤ) (f : List Entry → List Entry) (joins : (xs ys : List Entry) → f (xs ++ ys) ≡ f xs ++ f ys) (none : f [] ≡ [])
    (skips : (g : GroupView) → int_eq g.priority p ≡ false → f (group_entries g) ≡ group_entries g) where
  pub others_same : (gs : List GroupView) → IsEach (λ (g : GroupView). int_eq g.priority p ≡ false) gs → f (entries_of gs) ≡ entries_of gs
  others_same [] o = none
  others_same (g ∷ gs) o =
      joins (group_entries g) (entries_of gs)
      ∙ (ap (λ xs. xs ++ f (entries_of gs)) (skips g o.0) ∙ ap (λ ys. group_entries g ++ ys) (others_same gs o.1))

  pub edited : (gs : List GroupView) (i : ℕ) (d g' : GroupView) → AreGroups gs → i < length gs → HoldsAt (λ (g : GroupView). int_cmp g.priority p ≡ Equal) gs i → group_entries g' ≡ f (group_entries (get_or gs i d)) → entries_of (set gs i g') ≡ f (entries_of gs)
  edited [] i d g' o lt at e = absurd (omega arith)
  edited (g ∷ gs) zero d g' o lt at e =
      let behind = behind_others p g gs (cmp_equal g.priority p (at g)) o.1 in
      let rest : f (entries_of gs) ≡ entries_of gs = others_same gs (each_weaker (λ (h : GroupView). int_lt p h.priority ≡ true) (λ (h : GroupView). int_eq h.priority p ≡ false) gs (λ h. unlike p h.priority) behind) in
      ap (λ xs. xs ++ entries_of gs) e ∙ (ap (λ ys. f (group_entries g) ++ ys) (sym rest) ∙ sym (joins (group_entries g) (entries_of gs)))
  edited (g ∷ gs) (suc i) d g' o lt at e =
      let lt' : i < length gs = omega arith in
      let less : int_lt g.priority p ≡ true = before_one p g gs i o.1 lt' (λ h. at h) in
      let rest : entries_of (set gs i g') ≡ f (entries_of gs) = edited gs i d g' o.2 lt' (λ h. at h) e in
      ap (λ ys. group_entries g ++ ys) rest ∙ (ap (λ xs. xs ++ f (entries_of gs)) (sym (skips g (less_unlike g.priority p less))) ∙ sym (joins (group_entries g) (entries_of gs)))

-- ---- the order of groups after an edit

order_set_each : (P : ℤ → Type 0) (gs : List GroupView) (i : ℕ) (d g' : GroupView) → i < length gs → g'.priority ≡ (get_or gs i d).priority → IsEach (λ (g : GroupView). P g.priority) gs → IsEach (λ (g : GroupView). P g.priority) (set gs i g')
order_set_each P [] i d g' lt e o = absurd (omega arith)
order_set_each P (g ∷ gs) zero d g' lt e o = (subst P (sym e) o.0, o.1)
order_set_each P (g ∷ gs) (suc i) d g' lt e o = let lt' : i < length gs = omega arith in (o.0, order_set_each P gs i d g' lt' e o.1)

pub order_set : (gs : List GroupView) (i : ℕ) (d g' : GroupView) → i < length gs → g'.priority ≡ (get_or gs i d).priority → 0 < length g'.members → AreGroups gs → AreGroups (set gs i g')
order_set [] i d g' lt e m o = absurd (omega arith)
order_set (g ∷ gs) zero d g' lt e m o = (m, subst (λ p. IsEach (λ (h : GroupView). int_lt p h.priority ≡ true) gs) (sym e) o.1, o.2)
order_set (g ∷ gs) (suc i) d g' lt e m o =
    let lt' : i < length gs = omega arith in
    (o.0, order_set_each (λ p. int_lt g.priority p ≡ true) gs i d g' lt' e o.1, order_set gs i d g' lt' e m o.2)

each_removed : (P : GroupView → Type 0) (gs : List GroupView) (i : ℕ) → IsEach P gs → IsEach P (remove gs i)
each_removed P [] zero o = tt
each_removed P [] (suc i) o = tt
each_removed P (g ∷ gs) zero o = o.1
each_removed P (g ∷ gs) (suc i) o = (o.0, each_removed P gs i o.1)

order_remove : (gs : List GroupView) (i : ℕ) → AreGroups gs → AreGroups (remove gs i)
order_remove [] zero o = tt
order_remove [] (suc i) o = tt
order_remove (g ∷ gs) zero o = o.2
order_remove (g ∷ gs) (suc i) o = (o.0, each_removed (λ (h : GroupView). int_lt g.priority h.priority ≡ true) gs i o.1, order_remove gs i o.2)

remove_set : (gs : List GroupView) (i : ℕ) (g' : GroupView) → remove (set gs i g') i ≡ remove gs i
remove_set [] zero g' = refl
remove_set [] (suc i) g' = refl
remove_set (g ∷ gs) zero g' = refl
remove_set (g ∷ gs) (suc i) g' = ap (λ hs. g ∷ hs) (remove_set gs i g')

pub order_dropped : (gs : List GroupView) (i : ℕ) (g' : GroupView) → AreGroups gs → AreGroups (remove (set gs i g') i)
order_dropped gs i g' o = subst AreGroups (sym (remove_set gs i g')) (order_remove gs i o)

-- a group without a member has no entry
pub empty_removed : (gs : List GroupView) (i : ℕ) (g g' : GroupView) → i < length gs → g ≡ get_or (set gs i g') i g → length g.members ≡ 0 → entries_of (remove (set gs i g') i) ≡ entries_of (set gs i g')
empty_removed [] i g g' lt is e = absurd (omega arith)
empty_removed (h ∷ gs) zero g g' lt is e =
    let same : length g'.members ≡ 0 = ap (λ (f : GroupView). length f.members) (sym is) ∙ e in
    ap (λ ms. map (entry_at g'.priority) ms ++ entries_of gs) (sym (empty_where g'.members same))
empty_removed (h ∷ gs) (suc i) g g' lt is e = let lt' : i < length gs = omega arith in ap (λ ys. group_entries h ++ ys) (empty_removed gs i g g' lt' is e)

pub order_removed : (gs : List GroupView) (i : ℕ) (d g g' : GroupView) (ms : List GroupEntry) → AreGroups gs → i < length gs → g ≡ get_or (set gs i g') i g → (length g.members ≡ 0 → ⊥) → d ≡ get_or gs i d → g' ≡ with_members ms d → AreGroups (set gs i g')
order_removed gs i d g g' ms o lt is some x k =
    let same : g ≡ g' = is ∙ get_or-set_same gs i g' g lt in
    let filled : 0 < length g'.members = positive (length g'.members) (λ e. some (ap (λ (f : GroupView). length f.members) same ∙ e)) in
    order_set gs i d g' lt (ap (λ (f : GroupView). f.priority) k ∙ ap (λ (f : GroupView). f.priority) x) filled o
  where
    positive : (n : ℕ) → (n ≡ 0 → ⊥) → 0 < n
    positive zero h = absurd (h refl)
    positive (suc n) h = omega arith

each_inserted : (P : GroupView → Type 0) (x : GroupView) (gs : List GroupView) (i : ℕ) → P x → IsEach P gs → IsEach P (insert gs i x)
each_inserted P x [] zero a o = (a, tt)
each_inserted P x [] (suc i) a o = (a, tt)
each_inserted P x (g ∷ gs) zero a o = (a, o)
each_inserted P x (g ∷ gs) (suc i) a o = (o.0, each_inserted P x gs i a o.1)

all_behind : (p : ℤ) (gs : List GroupView) → AllWithin (λ (g : GroupView). int_cmp g.priority p ≡ Greater) gs 0 (length gs) → IsEach (λ (g : GroupView). int_lt p g.priority ≡ true) gs
all_behind p [] high = tt
all_behind p (g ∷ gs) high = (cmp_greater g.priority p (high 0 g (omega arith) (omega arith)), all_behind p gs (λ k d a b. high (suc k) d (omega arith) (omega arith)))

pub order_insert : (x : GroupView) (gs : List GroupView) (i : ℕ) → 0 < length x.members → i ≤ length gs → AllWithin (λ (g : GroupView). int_cmp g.priority x.priority ≡ Less) gs 0 i → AllWithin (λ (g : GroupView). int_cmp g.priority x.priority ≡ Greater) gs i (length gs) → AreGroups gs → AreGroups (insert gs i x)
order_insert x [] zero m le low high o = (m, tt, tt)
order_insert x [] (suc i) m le low high o = absurd (omega arith)
order_insert x (g ∷ gs) zero m le low high o = (m, all_behind x.priority (g ∷ gs) high, o)
order_insert x (g ∷ gs) (suc i) m le low high o =
    let at : int_lt g.priority x.priority ≡ true = cmp_less g.priority x.priority (low 0 g (omega arith) (omega arith)) in
    let le' : i ≤ length gs = omega arith in (
      o.0,
      each_inserted (λ (h : GroupView). int_lt g.priority h.priority ≡ true) x gs i at o.1,
      order_insert x gs i m le' (λ k d a b. low (suc k) d (omega arith) (omega arith)) (λ k d a b. high (suc k) d (omega arith) (omega arith)) o.2,
    )

-- ---- one entry more

put_behind : (e : Entry) (xs ys : List Entry) → IsEach (λ (f : Entry). int_lt e.priority f.priority ≡ false) xs → put_entry e (xs ++ ys) ≡ xs ++ put_entry e ys
put_behind e [] ys h = refl
put_behind e (x ∷ xs) ys h = ap (λ c. cond c (e ∷ x ∷ (xs ++ ys)) (x ∷ put_entry e (xs ++ ys))) h.0 ∙ ap (λ zs. x ∷ zs) (put_behind e xs ys h.1)

put_first : (e : Entry) (ys : List Entry) → IsEach (λ (f : Entry). int_lt e.priority f.priority ≡ true) ys → put_entry e ys ≡ e ∷ ys
put_first e [] h = refl
put_first e (y ∷ ys) h = ap (λ c. cond c (e ∷ y ∷ ys) (y ∷ put_entry e ys)) h.0

pub put_found : (e : Entry) (gs : List GroupView) (i : ℕ) (d g' : GroupView) → AreGroups gs → i < length gs → HoldsAt (λ (g : GroupView). int_cmp g.priority e.priority ≡ Equal) gs i → group_entries g' ≡ group_entries (get_or gs i d) ++ e ∷ [] → entries_of (set gs i g') ≡ put_entry e (entries_of gs)
put_found e [] i d g' o lt at k = absurd (omega arith)
put_found e (g ∷ gs) zero d g' o lt at k =
    let same : g.priority ≡ e.priority = cmp_equal g.priority e.priority (at g) in
    let first : put_entry e (entries_of gs) ≡ e ∷ entries_of gs = put_first e (entries_of gs) (each_entry (λ q. int_lt e.priority q ≡ true) gs (behind_others e.priority g gs same o.1)) in
    let mine : int_lt e.priority g.priority ≡ false = subst (λ q. int_lt e.priority q ≡ false) (sym same) (itself e.priority) in
    ap (λ xs. xs ++ entries_of gs) k
    ∙ (append_assoc (group_entries g) (e ∷ []) (entries_of gs)
    ∙ (ap (λ ys. group_entries g ++ ys) (sym first)
    ∙ sym (put_behind e (group_entries g) (entries_of gs) (each_member (λ q. int_lt e.priority q ≡ false) g.priority g.members mine))))
put_found e (g ∷ gs) (suc i) d g' o lt at k =
    let lt' : i < length gs = omega arith in
    let less : int_lt g.priority e.priority ≡ true = before_one e.priority g gs i o.1 lt' (λ h. at h) in
    ap (λ ys. group_entries g ++ ys) (put_found e gs i d g' o.2 lt' (λ h. at h) k)
    ∙ sym (put_behind e (group_entries g) (entries_of gs) (each_member (λ q. int_lt e.priority q ≡ false) g.priority g.members (not_after g.priority e.priority less)))

pub put_missing : (e : Entry) (x : GroupView) (gs : List GroupView) (i : ℕ) → group_entries x ≡ e ∷ [] → i ≤ length gs → AllWithin (λ (g : GroupView). int_cmp g.priority e.priority ≡ Less) gs 0 i → AllWithin (λ (g : GroupView). int_cmp g.priority e.priority ≡ Greater) gs i (length gs) → entries_of (insert gs i x) ≡ put_entry e (entries_of gs)
put_missing e x [] zero k le low high = ap (λ xs. xs ++ []) k
put_missing e x [] (suc i) k le low high = absurd (omega arith)
put_missing e x (g ∷ gs) zero k le low high =
    ap (λ xs. xs ++ entries_of (g ∷ gs)) k ∙ sym (put_first e (entries_of (g ∷ gs)) (each_entry (λ q. int_lt e.priority q ≡ true) (g ∷ gs) (all_behind e.priority (g ∷ gs) high)))
put_missing e x (g ∷ gs) (suc i) k le low high =
    let less : int_lt g.priority e.priority ≡ true = cmp_less g.priority e.priority (low 0 g (omega arith) (omega arith)) in
    let le' : i ≤ length gs = omega arith in
    ap (λ ys. group_entries g ++ ys) (put_missing e x gs i k le' (λ j d a b. low (suc j) d (omega arith) (omega arith)) (λ j d a b. high (suc j) d (omega arith) (omega arith)))
    ∙ sym (put_behind e (group_entries g) (entries_of gs) (each_member (λ q. int_lt e.priority q ≡ false) g.priority g.members (not_after g.priority e.priority less)))

pub group_put : (e : Entry) (gs : List GroupView) (i : ℕ) (d g' : GroupView) → AreGroups gs → i < length gs → HoldsAt (λ (g : GroupView). int_cmp g.priority e.priority ≡ Equal) gs i → d ≡ get_or gs i d → g' ≡ with_members (d.members ++ group_entry_of e ∷ []) d → entries_of (set gs i g') ≡ put_entry e (entries_of gs)
group_put e gs i d g' o lt at x k =
    let same : (get_or gs i d).priority ≡ e.priority = cmp_equal (get_or gs i d).priority e.priority (at d) in
    let more : group_entries g' ≡ group_entries (get_or gs i d) ++ e ∷ [] =
    ap group_entries (k ∙ ap (λ (g : GroupView). with_members (g.members ++ group_entry_of e ∷ []) g) x)
    ∙ (map_joined (entry_at (get_or gs i d).priority) (get_or gs i d).members (group_entry_of e ∷ []) ∙ ap (λ p. group_entries (get_or gs i d) ++ entry_at p (group_entry_of e) ∷ []) same) in
    put_found e gs i d g' o lt at more

length_more : {X : Type 0} (xs : List X) (x : X) → 0 < length (xs ++ x ∷ [])
length_more [] x = omega arith
length_more (y ∷ ys) x = omega arith

pub order_put : (e : Entry) (gs : List GroupView) (i : ℕ) (d g' : GroupView) → AreGroups gs → i < length gs → d ≡ get_or gs i d → g' ≡ with_members (d.members ++ group_entry_of e ∷ []) d → AreGroups (set gs i g')
order_put e gs i d g' o lt x k =
    let some : 0 < length g'.members = rw k (length_more d.members (group_entry_of e)) in
    order_set gs i d g' lt (ap (λ (g : GroupView). g.priority) k ∙ ap (λ (g : GroupView). g.priority) x) some o

abbrev new_group : Entry → GroupView
new_group e = record { priority = e.priority; members = group_entry_of e ∷ [] }

pub new_put : (e : Entry) (x : GroupView) (gs : List GroupView) (i : ℕ) → x ≡ new_group e → i ≤ length gs → IsPartitionPoint (λ (g : GroupView). int_cmp g.priority e.priority ≡ Less) (λ (g : GroupView). int_cmp g.priority e.priority ≡ Greater) gs i → entries_of (insert gs i x) ≡ put_entry e (entries_of gs)
new_put e x gs i k le parts = put_missing e x gs i (ap group_entries k) le parts.0 parts.1

pub order_new : (e : Entry) (x : GroupView) (gs : List GroupView) (i : ℕ) → x ≡ new_group e → i ≤ length gs → IsPartitionPoint (λ (g : GroupView). int_cmp g.priority e.priority ≡ Less) (λ (g : GroupView). int_cmp g.priority e.priority ≡ Greater) gs i → AreGroups gs → AreGroups (insert gs i x)
order_new e x gs i k le parts o =
    let one : 0 < length (new_group e).members = omega arith in
    subst (λ (y : GroupView). AreGroups (insert gs i y)) (sym k) (order_insert (new_group e) gs i one le parts.0 parts.1 o)

-- ---- the entry named with its `accepted`

module _ (p : ℤ) (c : List ℕ) (a : ℕ) where
  accepted_group : (q : ℤ) (ms : List GroupEntry) → int_eq q p ≡ true → map (entry_at q) (map (accepted_if c a) ms) ≡ map (accepted_where p c a) (map (entry_at q) ms)
  accepted_group q [] k = refl
  accepted_group q (m ∷ ms) k = ap₂ (λ (e : Entry) es. e ∷ es) (by (bytes_eq m.callback c) (int_eq q p) k) (accepted_group q ms k)
    where
      by : (b s : Bool) → s ≡ true → entry_at q (cond b (record m { accepted = a }) m) ≡ cond (s && b) (let e : Entry = entry_at q m in record e { accepted = a }) (entry_at q m)
      by true s k = rw k refl
      by false s k = rw k refl

  skipped_group : (g : GroupView) → int_eq g.priority p ≡ false → map (accepted_where p c a) (group_entries g) ≡ group_entries g
  skipped_group g k = skipped g.members
    where
      skipped : (ms : List GroupEntry) → map (accepted_where p c a) (map (entry_at g.priority) ms) ≡ map (entry_at g.priority) ms
      skipped [] = refl
      skipped (m ∷ ms) = ap₂ (λ (e : Entry) es. e ∷ es) (ap (λ w. cond (w && bytes_eq m.callback c) (let e : Entry = entry_at g.priority m in record e { accepted = a }) (entry_at g.priority m)) k) (skipped ms)

  pub accepted_found : (gs : List GroupView) (i : ℕ) (d g' : GroupView) → AreGroups gs → i < length gs → HoldsAt (λ (g : GroupView). int_cmp g.priority p ≡ Equal) gs i → d ≡ get_or gs i d → g' ≡ with_members (map (accepted_if c a) d.members) d → entries_of (set gs i g') ≡ map (accepted_where p c a) (entries_of gs)
  accepted_found gs i d g' o lt at x k =
      let old : GroupView = get_or gs i d in
      let same : int_eq old.priority p ≡ true = subst (λ q. int_eq q p ≡ true) (sym (cmp_equal old.priority p (at d))) (eq_itself p) in
      let group : group_entries g' ≡ map (accepted_where p c a) (group_entries old) = ap group_entries (k ∙ ap (λ (g : GroupView). with_members (map (accepted_if c a) g.members) g) x) ∙ accepted_group old.priority old.members same in
      edited p (map (accepted_where p c a)) (map_joined (accepted_where p c a)) refl skipped_group gs i d g' o lt at group

  pub accepted_missing : (gs : List GroupView) (i : ℕ) → IsPartitionPoint (λ (g : GroupView). int_cmp g.priority p ≡ Less) (λ (g : GroupView). int_cmp g.priority p ≡ Greater) gs i → entries_of gs ≡ map (accepted_where p c a) (entries_of gs)
  accepted_missing gs i parts = sym (others_same p (map (accepted_where p c a)) (map_joined (accepted_where p c a)) refl skipped_group gs (apart p gs i parts.0 parts.1))

  pub order_accepted : (gs : List GroupView) (i : ℕ) (d g' : GroupView) → AreGroups gs → i < length gs → d ≡ get_or gs i d → g' ≡ with_members (map (accepted_if c a) d.members) d → AreGroups (set gs i g')
  order_accepted gs i d g' o lt x k =
      let some : 0 < length (get_or gs i d).members = has_member gs i d o lt in
      let long : length g'.members ≡ length (get_or gs i d).members = ap (λ (g : GroupView). length g.members) k ∙ (length_mapped (accepted_if c a) d.members ∙ ap (λ (g : GroupView). length g.members) x) in
      let some' : 0 < length g'.members = omega arith in
      order_set gs i d g' lt (ap (λ (g : GroupView). g.priority) k ∙ ap (λ (g : GroupView). g.priority) x) some' o

-- ---- without the entries named

module _ (p : ℤ) (c : Option (List ℕ)) where
  same_test : (o : Option (List ℕ)) (q : ℤ) (m : GroupEntry) → is_of o (entry_at q m) ≡ is_group_entry_of o m
  same_test None q m = refl
  same_test (Some callback) q m = refl

  gone_group : (q : ℤ) (ms : List GroupEntry) → int_eq q p ≡ true → map (entry_at q) (filter (λ (m : GroupEntry). not (is_group_entry_of c m)) ms) ≡ filter (λ (e : Entry). not (is_named (Some p) c e)) (map (entry_at q) ms)
  gone_group q [] k = refl
  gone_group q (m ∷ ms) k =
      by (is_group_entry_of c m) (gone_group q ms k) ∙ ap (λ b. cond (not b) (entry_at q m ∷ gone) gone) (sym test)
    where
      gone : List Entry
      gone = filter (λ (e : Entry). not (is_named (Some p) c e)) (map (entry_at q) ms)

      test : is_named (Some p) c (entry_at q m) ≡ is_group_entry_of c m
      test = ap (λ b. b && is_of c (entry_at q m)) k ∙ same_test c q m

      by : (b : Bool) → map (entry_at q) (filter (λ (l : GroupEntry). not (is_group_entry_of c l)) ms) ≡ gone → map (entry_at q) (cond (not b) (m ∷ filter (λ (l : GroupEntry). not (is_group_entry_of c l)) ms) (filter (λ (l : GroupEntry). not (is_group_entry_of c l)) ms)) ≡ cond (not b) (entry_at q m ∷ gone) gone
      by true ih = ih
      by false ih = ap (λ es. entry_at q m ∷ es) ih

  kept_group : (g : GroupView) → int_eq g.priority p ≡ false → filter (λ (e : Entry). not (is_named (Some p) c e)) (group_entries g) ≡ group_entries g
  kept_group g k = all_pass (λ (e : Entry). not (is_named (Some p) c e)) (group_entries g) (kept g.members)
    where
      kept : (ms : List GroupEntry) → IsEach (λ (e : Entry). not (is_named (Some p) c e) ≡ true) (map (entry_at g.priority) ms)
      kept [] = tt
      kept (m ∷ ms) = (ap (λ b. not (b && is_of c (entry_at g.priority m))) k, kept ms)

  pub removed_found : (gs : List GroupView) (i : ℕ) (d g' : GroupView) → AreGroups gs → i < length gs → HoldsAt (λ (g : GroupView). int_cmp g.priority p ≡ Equal) gs i → d ≡ get_or gs i d → g' ≡ with_members (filter (λ (m : GroupEntry). not (is_group_entry_of c m)) d.members) d → entries_of (set gs i g') ≡ filter (λ (e : Entry). not (is_named (Some p) c e)) (entries_of gs)
  removed_found gs i d g' o lt at x k =
      let old : GroupView = get_or gs i d in
      let f : List Entry → List Entry = filter (λ (e : Entry). not (is_named (Some p) c e)) in
      let same : int_eq old.priority p ≡ true = subst (λ q. int_eq q p ≡ true) (sym (cmp_equal old.priority p (at d))) (eq_itself p) in
      let group : group_entries g' ≡ f (group_entries old) = ap group_entries (k ∙ ap (λ (g : GroupView). with_members (filter (λ (m : GroupEntry). not (is_group_entry_of c m)) g.members) g) x) ∙ gone_group old.priority old.members same in
      edited p f (filter_joined (λ (e : Entry). not (is_named (Some p) c e))) refl kept_group gs i d g' o lt at group

  pub removed_missing : (gs : List GroupView) (i : ℕ) → IsPartitionPoint (λ (g : GroupView). int_cmp g.priority p ≡ Less) (λ (g : GroupView). int_cmp g.priority p ≡ Greater) gs i → entries_of gs ≡ filter (λ (e : Entry). not (is_named (Some p) c e)) (entries_of gs)
  removed_missing gs i parts = sym (others_same p (filter (λ (e : Entry). not (is_named (Some p) c e))) (filter_joined (λ (e : Entry). not (is_named (Some p) c e))) refl kept_group gs (apart p gs i parts.0 parts.1))

-- ---- how many entries there are

length_entries : (g : GroupView) (gs : List GroupView) → length (entries_of (g ∷ gs)) ≡ length g.members + length (entries_of gs)
length_entries g gs = length-append (group_entries g) (entries_of gs) ∙ ap (λ k. k + length (entries_of gs)) (length_mapped (entry_at g.priority) g.members)

pub length_set : (gs : List GroupView) (i : ℕ) (d g' : GroupView) → i < length gs → length (entries_of (set gs i g')) + length (get_or gs i d).members ≡ length (entries_of gs) + length g'.members
length_set [] i d g' lt = absurd (omega arith)
length_set (g ∷ gs) zero d g' lt = let a = length_entries g gs in let b = length_entries g' gs in omega arith
length_set (g ∷ gs) (suc i) d g' lt =
    let lt' : i < length gs = omega arith in
    let a = length_entries g gs in let b = length_entries g (set gs i g') in let r = length_set gs i d g' lt' in omega arith

pub length_ahead : (gs : List GroupView) (i : ℕ) (d : GroupView) → i < length gs → length (entries_of (drop i gs)) ≡ length (get_or gs i d).members + length (entries_of (drop (i + 1) gs))
length_ahead [] i d lt = absurd (omega arith)
length_ahead (g ∷ gs) zero d lt = length_entries g gs
length_ahead (g ∷ gs) (suc i) d lt = let lt' : i < length gs = omega arith in let k : suc i + 1 ≡ suc (i + 1) = omega arith in rw k (length_ahead gs i d lt')
