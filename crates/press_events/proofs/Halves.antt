-- Events by time are found by binary search, and one of an identity among those of its time.
use Rattle.std.proofs.Common.{◌≡◌, refl, sym, ◌∙◌, ap, ℕ, zero, suc, ◌+◌, ◌-◌, ◌<◌, ◌≤◌, List, [], ◌∷◌, length, get_or, take, drop, filter, Bool, true, false, not, cond, nat_lt, Option, Some, None, arith, inl, inr, get_or-take, get_or-drop, length-take, length-drop}
use Rattle.std.specs.Prelude.{◌||◌, ◌&&◌, nat_eq, nat_le, option_map, is_some, position}
use Rattle.std.specs.List.{AllWithin, list_any, position_or_len, prefix_len}
use Rattle.std.specs.List.Sorted.{IsPartitionedBy}
use Rattle.std.proofs.lemmas.Bool.{cases_lt, ltb-true, ltb-false}
use Rattle.std.proofs.lemmas.Bool.Decides.{nat_tests}
use Rattle.std.proofs.lemmas.List.Sums.{prefix_len_is, prefix_len_passes, prefix_len_stops}
use Rattle.press_events.specs.declared.event.Event.{Event}
use Rattle.press_events.specs.DueEvents.{NoneBefore, IsByTime, is_same, is_earlier, is_later, is_due, is_of, place_in, place_of, stands, cancel_events, cancels, is_full_without}
use Rattle.press_events.proofs.ByTime.{or_last}

-- ---- a test that only early events pass

at_least : (t : ℕ) (es : List Event) (j : ℕ) (d : Event) → NoneBefore t es → j < length es → t ≤ (get_or es j d).time
at_least t [] j d h lt = absurd (omega arith)
at_least t (e ∷ es) zero d h lt = h.0
at_least t (e ∷ es) (suc j) d h lt = at_least t es j d h.1 (omega arith)

parted : (p : Event → Bool) → ((a b : Event) → a.time ≤ b.time → p b ≡ true → p a ≡ true) → (es : List Event) → IsByTime es → IsPartitionedBy p es
parted p down [] o i j d le lt t = absurd (omega arith)
parted p down (e ∷ es) o zero zero d le lt t = t
parted p down (e ∷ es) o zero (suc j) d le lt t = down e (get_or es j d) (at_least e.time es j d o.0 (omega arith)) t
parted p down (e ∷ es) o (suc i) zero d le lt t = absurd (omega arith)
parted p down (e ∷ es) o (suc i) (suc j) d le lt t = parted p down es o.1 i j d (omega arith) (omega arith) t

earlier_down : (t : ℕ) (a b : Event) → a.time ≤ b.time → is_earlier t b ≡ true → is_earlier t a ≡ true
earlier_down t a b h e = grind (arith, nat_tests)

due_down : (t : ℕ) (a b : Event) → a.time ≤ b.time → is_due t b ≡ true → is_due t a ≡ true
due_down t a b h e = grind (arith, nat_tests)

abbrev pub up_to : ℕ → Event → Bool
up_to t e = not (is_later t e)

later_up : (t m n : ℕ) → m ≤ n → not (nat_lt t n) ≡ true → not (nat_lt t m) ≡ true
later_up t m n h e = grind (arith, nat_tests)

pub parted_earlier : (t : ℕ) (es : List Event) → IsByTime es → IsPartitionedBy (is_earlier t) es
parted_earlier t es o = parted (is_earlier t) (earlier_down t) es o

pub parted_due : (t : ℕ) (es : List Event) → IsByTime es → IsPartitionedBy (is_due t) es
parted_due t es o = parted (is_due t) (due_down t) es o

pub parted_up_to : (t : ℕ) (es : List Event) → IsByTime es → IsPartitionedBy (up_to t) es
parted_up_to t es o = parted (up_to t) (λ a b h e. later_up t a.time b.time h e) es o

pub not_true : (b : Bool) → not b ≡ true → b ≡ false
not_true true e = cc
not_true false e = refl

pub not_false : (b : Bool) → not b ≡ false → b ≡ true
not_false true e = refl
not_false false e = cc

-- ---- what is found

placed_by : (t : ℕ) (es : List Event) (i : ℕ) (d : Event) → AllWithin (λ e. up_to t e ≡ true) es 0 i → AllWithin (λ e. up_to t e ≡ false) es i (length es) → i ≤ length es → i ≡ place_in t es
placed_by t es i d low high le =
    let n : prefix_len (up_to t) es ≡ i = prefix_len_is (up_to t) es i d le (λ k l. low k d (omega arith) l) (λ l. high i d (omega arith) l) in
    sym (or_last (prefix_len (up_to t) es) (length es) (omega (arith, n)) ∙ n)

pub placed : (t : ℕ) (es : List Event) (i : ℕ) → AllWithin (λ e. up_to t e ≡ true) es 0 i → AllWithin (λ e. up_to t e ≡ false) es i (length es) → i ≤ length es → i ≡ place_in t es
placed t [] i low high le = omega arith
placed t (e ∷ es) i low high le = placed_by t (e ∷ es) i e low high le

-- ---- an identity's place

crossed : (t s : ℕ) → nat_lt s t ≡ true → nat_lt t s ≡ true → ⊥
crossed t s h k = grind (arith, nat_tests)

pub in_turn : (t : ℕ) (es : List Event) (a b : ℕ) (d : Event) → AllWithin (λ e. is_earlier t e ≡ true) es 0 a → AllWithin (λ e. is_later t e ≡ true) es b (length es) → a ≤ length es → a ≤ b
in_turn t es a b d early late le = elim (cases_lt b a) [
  | inl lt ↦ absurd (crossed t (get_or es b d).time (early b d (omega arith) lt) (late b d (omega arith) (omega arith)))
  | inr ge ↦ ge
]

-- none before a and none from b on: the place is that among those between, behind a

between : (es : List Event) (a b k : ℕ) (d : Event) → k < b - a → get_or (take (b - a) (drop a es)) k d ≡ get_or es (a + k) d
between es a b k d lt = get_or-take (b - a) (drop a es) k d lt ∙ get_or-drop a es k d

module _ (p : Event → Bool) (es : List Event) (a b : ℕ) (d : Event) (front : AllWithin (λ e. p e ≡ false) es 0 a) (back : AllWithin (λ e. p e ≡ false) es b (length es)) (le : a ≤ b) (le' : b ≤ length es) where
  abbrev inner : List Event
  inner = take (b - a) (drop a es)

  abbrev other : Event → Bool
  other e = not (p e)

  few : length inner ≡ b - a
  few = omega (arith, length-take (b - a) (drop a es), length-drop a es)

  here : prefix_len other inner < length inner → prefix_len other es ≡ a + prefix_len other inner
  here lt =
      let n : prefix_len other inner < b - a = omega (arith, few, lt) in
      prefix_len_is other es (a + prefix_len other inner) d (omega arith)
      (λ k l. elim (cases_lt k a) [
        | inl early ↦ ap not (front k d (omega arith) early)
        | inr late ↦
            let on : a + (k - a) ≡ k = omega arith in
            ap (λ (j : ℕ). other (get_or es j d)) (sym on) ∙ ap other (sym (between es a b (k - a) d (omega arith))) ∙ prefix_len_passes other inner (k - a) d (omega arith)
      ])
      (λ l. ap other (sym (between es a b (prefix_len other inner) d n)) ∙ prefix_len_stops other inner d lt)

  nowhere : length inner ≤ prefix_len other inner → prefix_len other es ≡ length es
  nowhere ge = prefix_len_is other es (length es) d (omega arith)
      (λ k l. elim (cases_lt k a) [
        | inl early ↦ ap not (front k d (omega arith) early)
        | inr late ↦ elim (cases_lt k b) [
          | inl within ↦
              let on : a + (k - a) ≡ k = omega arith in
              ap (λ (j : ℕ). other (get_or es j d)) (sym on) ∙ ap other (sym (between es a b (k - a) d (omega arith))) ∙ prefix_len_passes other inner (k - a) d (omega (arith, few))
          | inr past ↦ ap not (back k d past l)
        ]
      ])
      (λ l. absurd (omega arith))

  found : (n m : ℕ) (c e : Bool) → c ≡ nat_lt n (length inner) → e ≡ nat_lt m (length es) → n ≡ prefix_len other inner → m ≡ prefix_len other es → cond e (Some m) None ≡ option_map (λ i. a + i) (cond c (Some n) None)
  found n m true true f g x y =
      let lt : n < length inner = ltb-true n (length inner) (sym f) in
      let at : m ≡ a + n = omega (arith, here (omega (arith, lt))) in
      ap (λ (k : ℕ). let o : Option ℕ = Some k in o) at
  found n m true false f g x y =
      let lt : n < length inner = ltb-true n (length inner) (sym f) in
      let ge : length es ≤ m = ltb-false m (length es) (sym g) in
      absurd (omega (arith, here (omega (arith, lt)), few))
  found n m false true f g x y =
      let ge : length inner ≤ n = ltb-false n (length inner) (sym f) in
      let lt : m < length es = ltb-true m (length es) (sym g) in
      absurd (omega (arith, nowhere (omega (arith, ge))))
  found n m false false f g x y = refl

  placed_among : position p es ≡ option_map (λ i. a + i) (position p inner)
  placed_among = found (prefix_len other inner) (prefix_len other es) _ _ refl refl refl refl

early_differs : (s t : ℕ) (b : Bool) → nat_lt s t ≡ true → (nat_eq s t && b) ≡ false
early_differs s t b h = let e : nat_eq s t ≡ false = grind (arith, nat_tests) in rw e refl

late_differs : (s t : ℕ) (b : Bool) → nat_lt t s ≡ true → (nat_eq s t && b) ≡ false
late_differs s t b h = let e : nat_eq s t ≡ false = grind (arith, nat_tests) in rw e refl

pub among : (event : Event) (es : List Event) (a b : ℕ) → AllWithin (λ e. is_earlier event.time e ≡ true) es 0 a → AllWithin (λ e. is_later event.time e ≡ true) es b (length es) → a ≤ length es → b ≤ length es
    → place_of event es ≡ option_map (λ i. a + i) (place_of event (take (b - a) (drop a es)))
among event es a b early late le le' =
    placed_among (λ e. is_same e event) es a b event
    (λ k d l h. early_differs (get_or es k d).time event.time _ (early k d l h)) (λ k d l h. late_differs (get_or es k d).time event.time _ (late k d l h))
    (in_turn event.time es a b event early late le) le'

-- ---- whether one stands

any_by : (b rest : Bool) (n m : ℕ) → rest ≡ nat_lt n m → (b || rest) ≡ nat_lt (cond (not b) (1 + n) 0) (suc m)
any_by true rest n m e = grind (arith, nat_tests)
any_by false rest n m e = let on : nat_lt (1 + n) (suc m) ≡ nat_lt n m = grind (arith, nat_tests) in e ∙ sym on

any_is : (p : Event → Bool) (es : List Event) → list_any p es ≡ nat_lt (position_or_len p es) (length es)
any_is p [] = refl
any_is p (e ∷ es) = any_by (p e) (list_any p es) (position_or_len p es) (length es) (any_is p es)

some_where : (b : Bool) (n : ℕ) → is_some (let o : Option ℕ = cond b (Some n) None in o) ≡ b
some_where true n = refl
some_where false n = refl

pub stands_is : (event : Event) (es : List Event) → is_some (place_of event es) ≡ stands event es
stands_is event es = some_where _ _ ∙ sym (any_is (λ e. is_same e event) es)

-- ---- fewer where one was of a kind

kept_by : (b rest : Bool) (n m : ℕ) (x : Event) (xs : List Event) → length xs ≡ n → n ≤ m → nat_lt n m ≡ rest → (nat_lt (length (cond (not b) (x ∷ xs) xs)) (suc m) ≡ (b || rest)) × (length (cond (not b) (x ∷ xs) xs) ≤ suc m)
kept_by true rest n m x xs e le h = (grind (arith, nat_tests), omega arith)
kept_by false rest n m x xs e le h = (let on : nat_lt (suc (length xs)) (suc m) ≡ nat_lt n m = grind (arith, nat_tests) in on ∙ h, omega arith)

fewer : (p : Event → Bool) (es : List Event) → (nat_lt (length (filter (λ e. not (p e)) es)) (length es) ≡ list_any p es) × (length (filter (λ e. not (p e)) es) ≤ length es)
fewer p [] = (refl, omega arith)
fewer p (e ∷ es) = let h = fewer p es in kept_by (p e) (list_any p es) (length (filter (λ e. not (p e)) es)) (length es) e (filter (λ e. not (p e)) es) refl h.1 h.0

pub cancels_is : (hook arg : List ℕ) (es : List Event) → nat_lt (length (cancel_events hook arg es)) (length es) ≡ cancels hook arg es
cancels_is hook arg es = (fewer (is_of hook arg) es).0

pub fewer_left : (hook arg : List ℕ) (es : List Event) → length (cancel_events hook arg es) ≤ length es
fewer_left hook arg es = (fewer (is_of hook arg) es).1

pub told : (hook arg : List ℕ) (es : List Event) (n m : ℕ) → n ≡ length (cancel_events hook arg es) → m ≡ length es → nat_lt n m ≡ cancels hook arg es
told hook arg es n m e f = rw (e, f) (cancels_is hook arg es)

none_left : (limit n k : ℕ) → n < limit → k ≤ n → nat_le limit n ≡ nat_le limit k
none_left limit n k h le = grind (arith, nat_tests)

pub not_full : (hook arg : List ℕ) (es : List Event) (n : ℕ) → n ≡ length es → n < 4096 → nat_le 4096 n ≡ is_full_without hook arg es
not_full hook arg es n e lt = none_left 4096 n (length (cancel_events hook arg es)) lt (omega (arith, fewer_left hook arg es))
