-- Numbers in order, and that they cover events.
use Rattle.std.proofs.Common.{◌≡◌, refl, sym, ◌∙◌, ap, ap₂, subst, ℕ, suc, ◌+◌, ◌-◌, ◌<◌, ◌≤◌, List, [], ◌∷◌, length, get_or, Bool, true, false, not, cond, nat_lt, arith, inl, inr}
use Rattle.std.specs.Prelude.{◌&&◌, ◌||◌, nat_eq, nat_le, insert, remove, bytes_eq, Ok, Err}
use Rattle.std.specs.List.{count_by}
use Rattle.std.specs.List.Sorted.{IsBinarySearchResult, IsNonDecreasing}
use Rattle.std.specs.Ordering.{nat_cmp}
use Rattle.std.proofs.lemmas.Bool.{cases_eq, cases_lt}
use Rattle.std.proofs.lemmas.Bool.Decides.{nat_tests}
use Rattle.std.proofs.lemmas.List.Edits.{length-remove, get_or-remove_below, get_or-remove_above}
use Rattle.std.proofs.lemmas.List.Sorted.{IsNonDecreasingBy-insert, searched}
use Rattle.std.proofs.lemmas.List.Sums.{sum_by-cons, sum_by-insert, sum_by-remove, get_or-le-sum_by}
use Rattle.std.proofs.lemmas.Slice.Eq.{bytes_eq-Decides}
use Rattle.press_events.specs.declared.event.Event.{Event}
use Rattle.press_events.specs.DueEvents.{is_of, cancel_events, cancels, stands, insert_event, put_again, place_in}
use Rattle.press_events.specs.Marks.{Covers, IsTwice, count_of, mark, one}

pub same_one : (x : ℕ) → one x x ≡ 1
same_one x = grind (arith, nat_tests)

other_one : (x y : ℕ) → (x ≡ y → ⊥) → one x y ≡ 0
other_one x y h = grind (arith, nat_tests)

-- ---- what a binary search finds

pub there : (x : ℕ) (xs : List ℕ) (i : ℕ) → i < length xs → get_or xs i 0 ≡ x → true ≡ nat_lt 0 (count_of x xs)
there x xs i lt e =
    let at : one x (get_or xs i 0) ≤ count_of x xs = get_or-le-sum_by (one x) xs i 0 lt in
    let is : one x (get_or xs i 0) ≡ 1 = rw e (same_one x) in
    grind (arith, nat_tests)

none : (x : ℕ) (xs : List ℕ) → ((k : ℕ) → k < length xs → get_or xs k 0 ≡ x → ⊥) → count_of x xs ≡ 0
none x [] h = refl
none x (y ∷ ys) h =
    let first : one x y ≡ 0 = other_one x y (λ e. h 0 (omega arith) (sym e)) in
    let rest : count_of x ys ≡ 0 = none x ys (λ k lt e. h (suc k) (omega arith) e) in
    omega (arith, sum_by-cons (one x) y ys)

apart : (x : ℕ) (xs : List ℕ) (i : ℕ) → ((k : ℕ) → k < i → get_or xs k 0 < x) → ((k : ℕ) → i ≤ k → k < length xs → x < get_or xs k 0) → (k : ℕ) → k < length xs → get_or xs k 0 ≡ x → ⊥
apart x xs i below above k lt e = elim (cases_lt k i) [
  | inl l ↦ let b = below k l in omega arith
  | inr g ↦ let a = above k g lt in omega arith
]

pub absent : (x : ℕ) (xs : List ℕ) (i : ℕ) → ((k : ℕ) → k < i → get_or xs k 0 < x) → ((k : ℕ) → i ≤ k → k < length xs → x < get_or xs k 0) → count_of x xs ≡ 0
absent x xs i below above = none x xs (apart x xs i below above)

pub hit : (x : ℕ) (xs ys : List ℕ) (i : ℕ) → ys ≡ xs → IsBinarySearchResult (λ y. nat_cmp y x) ys (Ok i) → IsNonDecreasing xs → (i < length xs) × (get_or xs i 0 ≡ x)
hit x xs ys i e p up = searched xs x (Ok i) (subst (λ zs. IsBinarySearchResult (λ y. nat_cmp y x) zs (Ok i)) e p) (λ a b le lt. up a b 0 le lt)

pub missed : (x : ℕ) (xs ys : List ℕ) (i : ℕ) → ys ≡ xs → IsBinarySearchResult (λ y. nat_cmp y x) ys (Err i) → IsNonDecreasing xs → count_of x xs ≡ 0
missed x xs ys i e p up =
    let t = searched xs x (Err i) (subst (λ zs. IsBinarySearchResult (λ y. nat_cmp y x) zs (Err i)) e p) (λ a b le lt. up a b 0 le lt) in
    absent x xs i t.1 t.2

-- ---- in and out

pub put_in : (m x : ℕ) (xs : List ℕ) (i : ℕ) → count_of x (insert xs i m) ≡ count_of x xs + one x m
put_in m x xs i = sum_by-insert (one x) xs i m

pub taken_out : (m x : ℕ) (xs : List ℕ) (i : ℕ) → i < length xs → get_or xs i 0 ≡ m → count_of x (remove xs i) ≡ count_of x xs - one x m
taken_out m x xs i lt e =
    let all : count_of x (remove xs i) + one x (get_or xs i 0) ≡ count_of x xs = sum_by-remove (one x) xs i 0 lt in
    let is : one x (get_or xs i 0) ≡ one x m = ap (one x) e in
    omega arith

pub not_there : (m x : ℕ) (xs : List ℕ) → count_of m xs ≡ 0 → count_of x xs ≡ count_of x xs - one x m
not_there m x xs h = elim (cases_eq x m) [
  | inl e ↦ let z : count_of x xs ≡ 0 = rw e h in omega arith
  | inr d ↦ let z : one x m ≡ 0 = other_one x m d in omega arith
]

pub some_more : (x m i a b c : ℕ) → b ≡ a - cond (nat_eq x m) i 0 → c ≡ b - one x m → c ≡ a - cond (nat_eq x m) (i + 1) 0
some_more x m i a b c e f = by (nat_eq x m) e f
  where
    by : (t : Bool) → b ≡ a - cond t i 0 → c ≡ b - cond t 1 0 → c ≡ a - cond t (i + 1) 0
    by true e f = omega arith
    by false e f = omega arith

pub rises_without : (xs : List ℕ) (i : ℕ) → i < length xs → IsNonDecreasing xs → IsNonDecreasing (remove xs i)
rises_without xs i lt up a b d le within =
    let n = length-remove xs i lt in
    elim (cases_lt a i) [
      | inl l ↦ elim (cases_lt b i) [
        | inl m ↦ rw (get_or-remove_below xs i d a l lt, get_or-remove_below xs i d b m lt) (up a b d le (omega arith))
        | inr g ↦ rw (get_or-remove_below xs i d a l lt, get_or-remove_above xs i d b g lt) (up a (b + 1) d (omega arith) (omega arith))
      ]
      | inr g ↦ rw (get_or-remove_above xs i d a g lt, get_or-remove_above xs i d b (omega arith) lt) (up (a + 1) (b + 1) d (omega arith) (omega arith))
    ]

pub rises_with : (xs zs ys : List ℕ) (i m : ℕ) → zs ≡ xs → ys ≡ zs → IsNonDecreasing xs → i ≤ length ys → ((k d : ℕ) → k < i → get_or ys k d ≤ m)
    → ((k d : ℕ) → i ≤ k → k < length ys → m ≤ get_or ys k d) → IsNonDecreasing (insert zs i m)
rises_with xs zs ys i m e f up le below above =
    subst (λ (ws : List ℕ). IsNonDecreasing (insert ws i m)) f (IsNonDecreasingBy-insert (λ (x : ℕ). x) ys i m (subst IsNonDecreasing (sym (f ∙ e)) up) le below above)

-- ---- events

abbrev pub marked : ℕ → List Event → ℕ
marked x es = count_by (λ e. nat_eq x (mark e.arg)) es

abbrev pub mark_one : ℕ → Event → ℕ
mark_one x e = one x (mark e.arg)

pub covers_put : (e : Event) (es : List Event) (i : ℕ) (ms ns : List ℕ) → Covers ms es → ((x : ℕ) → count_of x ns ≡ count_of x ms + one x (mark e.arg)) → Covers ns (insert es i e)
covers_put e es i ms ns c n x = omega (arith, sum_by-insert (mark_one x) es i e, n x, c x)

-- put in and out again
pub covers_still : (m : ℕ) (es : List Event) (ms ns ps : List ℕ) → Covers ms es → ((x : ℕ) → count_of x ns ≡ count_of x ms + one x m) → ((x : ℕ) → count_of x ps ≡ count_of x ns - one x m) → Covers ps es
covers_still m es ms ns ps c n p x = omega (arith, n x, p x, c x)

-- the event at a place, out: e is that event
pub covers_without : (es : List Event) (i : ℕ) (e : Event) (ms ns : List ℕ) (m : ℕ) → i < length es → e ≡ get_or es i e → m ≡ mark e.arg → Covers ms es → ((x : ℕ) → count_of x ns ≡ count_of x ms - one x m) → Covers ns (remove es i)
covers_without es i e ms ns m lt at is c n x =
    let of_it : one x m ≡ mark_one x (get_or es i e) = ap (one x) is ∙ ap (mark_one x) at in
    omega (arith, sum_by-remove (mark_one x) es i e lt, n x, c x)

-- put in again with its argument, where none of its identity is
pub covers_again : (es : List Event) (i : ℕ) (e new : Event) (ms : List ℕ) → i < length es → e ≡ get_or es i e → new.arg ≡ e.arg → Covers ms es → (b : Bool) → b ≡ not (stands new (remove es i)) → b ≡ true → Covers ms (put_again new (remove es i))
covers_again es i e new ms lt at same c b p t x =
    let one_of : mark_one x new ≡ mark_one x (get_or es i e) = ap (λ (arg : List ℕ). one x (mark arg)) same ∙ ap (mark_one x) at in
    let put : put_again new (remove es i) ≡ insert_event new (remove es i) = by (stands new (remove es i)) (sym p ∙ t) in
    let more : marked x (insert_event new (remove es i)) ≡ marked x (remove es i) + mark_one x new = sum_by-insert (mark_one x) (remove es i) (place_in new.time (remove es i)) new in
    rw put (omega (arith, sum_by-remove (mark_one x) es i e lt, more, c x))
  where
    by : (s : Bool) → not s ≡ true → cond s (remove es i) (insert_event new (remove es i)) ≡ insert_event new (remove es i)
    by true h = absurd (cc)
    by false h = refl

-- and where one is
pub stays_out : (es : List Event) (new : Event) (b : Bool) → b ≡ not (stands new es) → b ≡ false → put_again new es ≡ es
stays_out es new b p f = by (stands new es) (sym p ∙ f)
  where
    by : (s : Bool) → not s ≡ false → cond s es (insert_event new es) ≡ es
    by true h = refl
    by false h = absurd (cc)

-- ---- as many numbers as events

-- the place of a number that is there
found : (x : ℕ) (ms : List ℕ) → 0 < count_of x ms → (i : ℕ) × (i < length ms) × (get_or ms i 0 ≡ x)
found x [] more = absurd (omega arith)
found x (m ∷ ms) more = elim (cases_eq x m) [
  | inl e ↦ (0, omega arith, sym e)
  | inr d ↦
      let behind = found x ms (let no : one x m ≡ 0 = other_one x m d in omega (arith, sum_by-cons (one x) m ms)) in
      (suc behind.0, omega (arith, behind.1), behind.2)
]

without_first : (e : Event) (es : List Event) (ms : List ℕ) (i : ℕ) → i < length ms → get_or ms i 0 ≡ mark e.arg → Covers ms (e ∷ es) → Covers (remove ms i) es
without_first e es ms i lt at c x =
    let out : count_of x (remove ms i) ≡ count_of x ms - mark_one x e = taken_out (mark e.arg) x ms i lt at in
    omega (arith, sum_by-cons (mark_one x) e es, c x, out)

pub as_many : (es : List Event) (ms : List ℕ) → Covers ms es → length ms ≡ length es
as_many [] [] c = refl
as_many [] (m ∷ ms) c =
    let none : 0 ≡ count_of m (m ∷ ms) = c m in
    let of_it : one m m ≡ 1 = same_one m in
    absurd (omega (arith, sum_by-cons (one m) m ms))
as_many (e ∷ es) ms c =
    let of_it : mark_one (mark e.arg) e ≡ 1 = same_one (mark e.arg) in
    let at = found (mark e.arg) ms (omega (arith, c (mark e.arg), sum_by-cons (mark_one (mark e.arg)) e es)) in
    let rest : length (remove ms at.0) ≡ length es = as_many es (remove ms at.0) (without_first e es ms at.0 at.1 at.2 c) in
    omega (arith, length-remove ms at.0 at.1)

-- ---- cancelled

abbrev gone : List ℕ → List ℕ → List Event → ℕ
gone hook arg es = count_by (is_of hook arg) es

pub one_of_it : (hook arg : List ℕ) (x : ℕ) (e : Event) → is_of hook arg e ≡ true → mark_one x e ≡ one x (mark arg)
one_of_it hook arg x e h = ap (λ (a : List ℕ). one x (mark a)) (same_arg (bytes_eq e.hook hook) h)
  where
    same_arg : (b : Bool) → (b && bytes_eq e.arg arg) ≡ true → e.arg ≡ arg
    same_arg true h = (bytes_eq-Decides e.arg arg).0 h
    same_arg false h = absurd (cc)

pub lengths : (hook arg : List ℕ) (es : List Event) → length es ≡ length (cancel_events hook arg es) + gone hook arg es
lengths hook arg [] = refl
lengths hook arg (e ∷ es) = by (is_of hook arg e) (gone hook arg (e ∷ es)) (sum_by-cons (λ (e : Event). cond (is_of hook arg e) 1 0) e es) (lengths hook arg es)
  where
    by : (b : Bool) (g : ℕ) → g ≡ cond b 1 0 + gone hook arg es → length es ≡ length (cancel_events hook arg es) + gone hook arg es → suc (length es) ≡ length (cond (not b) (e ∷ cancel_events hook arg es) (cancel_events hook arg es)) + g
    by true g e h = omega arith
    by false g e h = omega arith

stay : (hook arg : List ℕ) (x : ℕ) (es : List Event) → marked x (cancel_events hook arg es) + cond (nat_eq x (mark arg)) (gone hook arg es) 0 ≡ marked x es
stay hook arg x [] = by (nat_eq x (mark arg))
  where
    by : (c : Bool) → 0 + cond c 0 0 ≡ 0
    by true = refl
    by false = refl
stay hook arg x (e ∷ es) =
    by (is_of hook arg e) refl (nat_eq x (mark arg)) refl (gone hook arg (e ∷ es)) (sum_by-cons (λ (e : Event). cond (is_of hook arg e) 1 0) e es) (stay hook arg x es)
  where
    by : (b : Bool) → is_of hook arg e ≡ b → (c : Bool) → nat_eq x (mark arg) ≡ c → (g : ℕ) → g ≡ cond b 1 0 + gone hook arg es
        → marked x (cancel_events hook arg es) + cond c (gone hook arg es) 0 ≡ marked x es
        → marked x (cond (not b) (e ∷ cancel_events hook arg es) (cancel_events hook arg es)) + cond c g 0 ≡ marked x (e ∷ es)
    by true i c n g s h =
        let o : mark_one x e ≡ cond c 1 0 = one_of_it hook arg x e i ∙ ap (λ t. cond t 1 0) n in
        last c (marked x (cancel_events hook arg es)) (gone hook arg es) g (marked x es) s h (mark_one x e) o ∙ sym (sum_by-cons (mark_one x) e es)
      where
        last : (c : Bool) (k r g m : ℕ) → g ≡ 1 + r → k + cond c r 0 ≡ m → (o : ℕ) → o ≡ cond c 1 0 → k + cond c g 0 ≡ o + m
        last true k r g m s h o e = omega arith
        last false k r g m s h o e = omega arith
    by false i c n g s h = other c (marked x (cancel_events hook arg es)) (gone hook arg es) g (marked x es) s h (mark_one x e) (sum_by-cons (mark_one x) e (cancel_events hook arg es)) (sum_by-cons (mark_one x) e es)
      where
        other : (c : Bool) (k r g m : ℕ) → g ≡ 0 + r → k + cond c r 0 ≡ m → (o : ℕ) {k' m' : ℕ} → k' ≡ o + k → m' ≡ o + m → k' + cond c g 0 ≡ m'
        other true k r g m s h o e f = omega arith
        other false k r g m s h o e f = omega arith

pub covers_cancelled : (hook arg : List ℕ) (es : List Event) (ms ns : List ℕ) (m out : ℕ) → m ≡ mark arg → Covers ms es → length es ≡ length (cancel_events hook arg es) + out → ((x : ℕ) → count_of x ns ≡ count_of x ms - cond (nat_eq x m) out 0) → Covers ns (cancel_events hook arg es)
covers_cancelled hook arg es ms ns m out e c l n x =
    let same : out ≡ gone hook arg es = omega (arith, lengths hook arg es) in
    let left : count_of x ns ≡ count_of x ms - cond (nat_eq x (mark arg)) (gone hook arg es) 0 = n x ∙ ap₂ (λ k i. count_of x ms - cond (nat_eq x i) k 0) same e in
    omega (arith, stay hook arg x es, c x, left)

-- no event has an argument whose number isn't there
pub none_has : (hook arg : List ℕ) (es : List Event) → marked (mark arg) es ≡ 0 → false ≡ cancels hook arg es
none_has hook arg [] z = refl
none_has hook arg (e ∷ es) z = by (is_of hook arg e) refl (λ y. none_has hook arg es y)
  where
    by : (b : Bool) → is_of hook arg e ≡ b → (marked (mark arg) es ≡ 0 → false ≡ cancels hook arg es) → false ≡ (b || cancels hook arg es)
    by true i rest =
        let o : mark_one (mark arg) e ≡ 1 = one_of_it hook arg (mark arg) e i ∙ same_one (mark arg) in
        absurd (omega (arith, sum_by-cons (mark_one (mark arg)) e es))
    by false i rest = rest (omega (arith, sum_by-cons (mark_one (mark arg)) e es))

no_more : (n : ℕ) → nat_lt 0 n ≡ false → n ≡ 0
no_more n h = grind (arith, nat_tests)

pub none_covered : (hook arg : List ℕ) (es : List Event) (ms : List ℕ) (m : ℕ) (b : Bool) → Covers ms es → m ≡ mark arg → b ≡ nat_lt 0 (count_of m ms) → b ≡ false → b ≡ cancels hook arg es
none_covered hook arg es ms m b c e h f =
    let z : count_of (mark arg) ms ≡ 0 = no_more (count_of (mark arg) ms) (ap (λ i. nat_lt 0 (count_of i ms)) (sym e) ∙ sym h ∙ f) in
    f ∙ none_has hook arg es (omega (arith, c (mark arg)))

-- ---- a number that others stand beside

few : (n : ℕ) → n ≤ 1 → true ≡ nat_le n 1
few n h = grind (arith, nat_tests)

many : (n : ℕ) → 2 ≤ n → false ≡ nat_le n 1
many n h = grind (arith, nat_tests)

module _ (xs : List ℕ) (i : ℕ) (up : IsNonDecreasing xs) (lt : i < length xs) where
  pub single : (x : ℕ) → get_or xs i 0 ≡ x → (0 < i → (d : ℕ) → get_or xs (i - 1) d ≡ get_or xs i d → ⊥) → (i + 1 < length xs → (d : ℕ) → get_or xs (i + 1) d ≡ get_or xs i d → ⊥) → count_of x xs ≤ 1
  single x at before behind =
      let rest : count_of x (remove xs i) ≡ 0 = none x (remove xs i) others in
      let all : count_of x (remove xs i) + one x (get_or xs i 0) ≡ count_of x xs = sum_by-remove (one x) xs i 0 lt in
      let is : one x (get_or xs i 0) ≡ 1 = rw at (same_one x) in
      omega arith
    where
      less : length (remove xs i) + 1 ≡ length xs
      less = length-remove xs i lt

      others : (k : ℕ) → k < length (remove xs i) → get_or (remove xs i) k 0 ≡ x → ⊥
      others k within e = elim (cases_lt k i) [
        | inl l ↦
            let same : get_or xs k 0 ≡ x = sym (get_or-remove_below xs i 0 k l lt) ∙ e in
            let low = up k (i - 1) 0 (omega arith) (omega arith) in
            let high = up (i - 1) i 0 (omega arith) lt in
            before (omega arith) 0 (omega arith)
        | inr g ↦
            let same : get_or xs (k + 1) 0 ≡ x = sym (get_or-remove_above xs i 0 k g lt) ∙ e in
            let low = up i (i + 1) 0 (omega arith) (omega (arith, less)) in
            let high = up (i + 1) (k + 1) 0 (omega arith) (omega (arith, less)) in
            behind (omega (arith, less)) 0 (omega arith)
      ]

  twice : (x : ℕ) → get_or xs i 0 ≡ x → IsTwice xs i 0 → 2 ≤ count_of x xs
  twice x at t = by t
    where
      all : count_of x (remove xs i) + one x (get_or xs i 0) ≡ count_of x xs
      all = sum_by-remove (one x) xs i 0 lt

      less : length (remove xs i) + 1 ≡ length xs
      less = length-remove xs i lt

      beside : (k : ℕ) → k < length (remove xs i) → get_or (remove xs i) k 0 ≡ get_or xs i 0 → 2 ≤ count_of x xs
      beside k within e =
          let more : one x (get_or (remove xs i) k 0) ≤ count_of x (remove xs i) = get_or-le-sum_by (one x) (remove xs i) k 0 within in
          let here : one x (get_or xs i 0) ≡ 1 = rw at (same_one x) in
          let there : one x (get_or (remove xs i) k 0) ≡ 1 = rw (e, at) (same_one x) in
          omega (arith, all, more, here, there)

      by : IsTwice xs i 0 → 2 ≤ count_of x xs
      by (inl p) = beside (i - 1) (omega (arith, less)) (get_or-remove_below xs i 0 (i - 1) (omega arith) lt ∙ p.1)
      by (inr p) = beside i (omega (arith, less)) (get_or-remove_above xs i 0 i (omega arith) lt ∙ p.1)

  pub told_single : (x : ℕ) → get_or xs i 0 ≡ x → (b : Bool) → (b ≡ true → 0 < i → (d : ℕ) → get_or xs (i - 1) d ≡ get_or xs i d → ⊥) → (b ≡ true → i + 1 < length xs → (d : ℕ) → get_or xs (i + 1) d ≡ get_or xs i d → ⊥)
      → (b ≡ false → (d : ℕ) → IsTwice xs i d) → b ≡ nat_le (count_of x xs) 1
  told_single x at true before behind t = few (count_of x xs) (single x at (before refl) (behind refl))
  told_single x at false before behind t = many (count_of x xs) (twice x at (t refl 0))
