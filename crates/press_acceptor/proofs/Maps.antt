-- Maps from numbers, as entries and as finite maps.
use Rattle.std.proofs.Common.{ℕ, zero, suc, ◌+◌, ◌<◌, ◌≤◌, ◌≡◌, ◌≢◌, ◌⊎◌, inl, inr, Bool, true, false, cond, nat_lt, List, [], ◌∷◌, Option, None, Some, refl, sym, ap, ◌∙◌, arith}
use Rattle.std.proofs.lemmas.Bool.{cases_eq, eq-eqb, ne_eqb, cond-true, cond-false, ltb-true, ltb-false}
use Rattle.std.proofs.lemmas.Map.Lookups.{exact_unsigned}
use Rattle.std.specs.BTreeMap.{is_at}
use Rattle.std.specs.Cmp.{nat_cmp_total, unsigned_tied}
use Rattle.std.specs.FinMap.{FinMap, empty, find, get, insert, from_entries, get-from_entries, get-insert, same_map}
use Rattle.std.specs.List.{range_with_len}
use Rattle.std.specs.Ordering.{nat_cmp, eq_by_cmp}
use Rattle.press_acceptor.specs.InMemory.{at, with_entry, entries_at, all_slots, map_of}

find_at : {X : Type 0} (es : List (ℕ × X)) (q : ℕ) → find nat_cmp q es ≡ at es q
find_at [] q = refl
find_at (e ∷ es) q = ap (cond (is_at (nat_cmp q) e.0) (Some e.1)) (find_at es q)

-- what a map has after an insert
pub get_here : {X : Type 0} (m : FinMap nat_cmp X) (k : ℕ) (v : X) (q : ℕ) → q ≡ k → get (insert m k v) q ≡ Some v
get_here m k v q e = get-insert nat_cmp_total m k v q ∙ cond-true (eq_by_cmp nat_cmp q k) (Some v) (get m q) (unsigned_tied q k ∙ eq-eqb q k e)

pub get_there : {X : Type 0} (m : FinMap nat_cmp X) (k : ℕ) (v : X) (q : ℕ) → q ≢ k → get (insert m k v) q ≡ get m q
get_there m k v q e = get-insert nat_cmp_total m k v q ∙ cond-false (eq_by_cmp nat_cmp q k) (Some v) (get m q) (unsigned_tied q k ∙ ne_eqb q k e)

pub same_by_get : {X : Type 0} (m n : FinMap nat_cmp X) → ((q : ℕ) → get m q ≡ get n q) → m ≡ n
same_by_get m n h = same_map nat_cmp_total exact_unsigned m n h

-- ---- the map of what each slot has

-- the entries of these numbers, where the number is among them, or not
at_before : {X : Type 0} (f : ℕ → Option X) (a n q : ℕ) → q < a → at (entries_at f (range_with_len a n)) q ≡ None
at_before f a zero q h = refl
at_before {X} f a (suc n) q h = go (f a) (at_before f (a + 1) n q (omega (arith, h)))
  where
    go : (o : Option X) → at (entries_at f (range_with_len (a + 1) n)) q ≡ None → at (with_entry a o (entries_at f (range_with_len (a + 1) n))) q ≡ None
    go None ih = ih
    go (Some x) ih = cond-false (is_at (nat_cmp q) a) (Some x) _ (unsigned_tied q a ∙ ne_eqb q a (λ e. omega (arith, e, h))) ∙ ih

at_within : {X : Type 0} (f : ℕ → Option X) (a n q : ℕ) → a ≤ q → q < a + n → at (entries_at f (range_with_len a n)) q ≡ f q
at_within f a zero q low high = absurd (omega (arith, low, high))
at_within {X} f a (suc n) q low high = go (cases_eq q a) (λ l h. at_within f (a + 1) n q l h)
  where
    here : q ≡ a → (o : Option X) → f a ≡ o → at (with_entry a o (entries_at f (range_with_len (a + 1) n))) q ≡ f q
    here e None g = at_before f (a + 1) n q (omega (arith, e)) ∙ sym (ap f e ∙ g)
    here e (Some x) g = cond-true (is_at (nat_cmp q) a) (Some x) _ (unsigned_tied q a ∙ eq-eqb q a e) ∙ sym (ap f e ∙ g)

    there : q ≢ a → (o : Option X) → at (entries_at f (range_with_len (a + 1) n)) q ≡ f q → at (with_entry a o (entries_at f (range_with_len (a + 1) n))) q ≡ f q
    there e None ih = ih
    there e (Some x) ih = cond-false (is_at (nat_cmp q) a) (Some x) _ (unsigned_tied q a ∙ ne_eqb q a e) ∙ ih

    go : (q ≡ a) ⊎ (q ≡ a → ⊥) → (a + 1 ≤ q → q < a + 1 + n → at (entries_at f (range_with_len (a + 1) n)) q ≡ f q) → at (entries_at f (range_with_len a (suc n))) q ≡ f q
    go (inl e) ih = here e (f a) refl
    go (inr e) ih = there e (f a) (ih (omega (arith, low, e)) (omega (arith, high)))

at_beyond : {X : Type 0} (f : ℕ → Option X) (a n q : ℕ) → a + n ≤ q → at (entries_at f (range_with_len a n)) q ≡ None
at_beyond f a zero q h = refl
at_beyond {X} f a (suc n) q h = go (f a) (at_beyond f (a + 1) n q (omega (arith, h)))
  where
    go : (o : Option X) → at (entries_at f (range_with_len (a + 1) n)) q ≡ None → at (with_entry a o (entries_at f (range_with_len (a + 1) n))) q ≡ None
    go None ih = ih
    go (Some x) ih = cond-false (is_at (nat_cmp q) a) (Some x) _ (unsigned_tied q a ∙ ne_eqb q a (λ e. omega (arith, e, h))) ∙ ih

pub get_at : {X : Type 0} (es : List (ℕ × X)) (q : ℕ) → get (from_entries {R = nat_cmp} es) q ≡ at es q
get_at es q = get-from_entries nat_cmp_total es q ∙ find_at es q

-- the number is a slot
abbrev pub IsSlot : ℕ → Type 0
IsSlot q = (1 ≤ q) × (q ≤ 1000000)

abbrev IsIn : ℕ → ℕ → ℕ → Type 0
IsIn a n q = (a ≤ q) × (q < a + n)

-- a number is within a range, or not
which : (a n q : ℕ) → IsIn a n q ⊎ ((q < a) ⊎ (a + n ≤ q))
which a n q = go (nat_lt q a) refl (nat_lt q (a + n)) refl
  where
    go : (x : Bool) → nat_lt q a ≡ x → (y : Bool) → nat_lt q (a + n) ≡ y → IsIn a n q ⊎ ((q < a) ⊎ (a + n ≤ q))
    go true e y f = inr (inl (ltb-true q a e))
    go false e true f = inl (ltb-false q a e, ltb-true q (a + n) f)
    go false e false f = inr (inr (ltb-false q (a + n) f))

abbrev ranged : {X : Type 0} → (ℕ → Option X) → ℕ → ℕ → FinMap nat_cmp X
ranged f a n = from_entries (entries_at f (range_with_len a n))

get_within : {X : Type 0} (f : ℕ → Option X) (a n q : ℕ) → IsIn a n q → get (ranged f a n) q ≡ f q
get_within f a n q h = get_at (entries_at f (range_with_len a n)) q ∙ at_within f a n q h.0 h.1

get_outside : {X : Type 0} (f : ℕ → Option X) (a n q : ℕ) → (q < a) ⊎ (a + n ≤ q) → get (ranged f a n) q ≡ None
get_outside f a n q (inl h) = get_at (entries_at f (range_with_len a n)) q ∙ at_before f a n q h
get_outside f a n q (inr h) = get_at (entries_at f (range_with_len a n)) q ∙ at_beyond f a n q h

ranged_same : {X : Type 0} (f g : ℕ → Option X) (a n : ℕ) → ((q : ℕ) → IsIn a n q → g q ≡ f q) → ranged g a n ≡ ranged f a n
ranged_same f g a n h = same_by_get _ _ (λ q. go q (which a n q))
  where
    go : (q : ℕ) → IsIn a n q ⊎ ((q < a) ⊎ (a + n ≤ q)) → get (ranged g a n) q ≡ get (ranged f a n) q
    go q (inl i) = get_within g a n q i ∙ h q i ∙ sym (get_within f a n q i)
    go q (inr o) = get_outside g a n q o ∙ sym (get_outside f a n q o)

ranged_set : {X : Type 0} (f g : ℕ → Option X) (a n k : ℕ) (v : X) → IsIn a n k → g k ≡ Some v → ((q : ℕ) → IsIn a n q → q ≢ k → g q ≡ f q) → ranged g a n ≡ insert (ranged f a n) k v
ranged_set f g a n k v here e h = same_by_get _ _ (λ q. go q (which a n q) (cases_eq q k))
  where
    go : (q : ℕ) → IsIn a n q ⊎ ((q < a) ⊎ (a + n ≤ q)) → (q ≡ k) ⊎ (q ≡ k → ⊥) → get (ranged g a n) q ≡ get (insert (ranged f a n) k v) q
    go q (inl i) (inl same) = get_within g a n q i ∙ ap g same ∙ e ∙ sym (get_here (ranged f a n) k v q same)
    go q (inl i) (inr apart) = get_within g a n q i ∙ h q i apart ∙ sym (get_there (ranged f a n) k v q apart ∙ get_within f a n q i)
    go q (inr o) (inl same) = absurd (out o)
      where
        out : (q < a) ⊎ (a + n ≤ q) → ⊥
        out (inl x) = omega (arith, x, same, here.0, here.1)
        out (inr x) = omega (arith, x, same, here.0, here.1)
    go q (inr o) (inr apart) = get_outside g a n q o ∙ sym (get_there (ranged f a n) k v q apart ∙ get_outside f a n q o)

pub map_get : {X : Type 0} (f : ℕ → Option X) (q : ℕ) → IsSlot q → get (map_of f) q ≡ f q
unfolding map_of all_slots
map_get f q h = get_within f 1 1000000 q (h.0, omega (arith, h.1))

pub map_same : {X : Type 0} (f g : ℕ → Option X) → ((q : ℕ) → IsSlot q → g q ≡ f q) → map_of g ≡ map_of f
unfolding map_of all_slots
map_same f g h = ranged_same f g 1 1000000 (λ q i. h q (i.0, omega (arith, i.1)))

pub map_set : {X : Type 0} (f g : ℕ → Option X) (k : ℕ) (v : X) → IsSlot k → g k ≡ Some v → ((q : ℕ) → IsSlot q → q ≢ k → g q ≡ f q) → map_of g ≡ insert (map_of f) k v
unfolding map_of all_slots
map_set f g k v here e h = ranged_set f g 1 1000000 k v (here.0, omega (arith, here.1)) e (λ q i apart. h q (i.0, omega (arith, i.1)) apart)

none_at : {X : Type 0} (ns : List ℕ) → entries_at {X = X} (λ _. None) ns ≡ []
none_at [] = refl
none_at (n ∷ ns) = none_at ns

pub map_none : {X : Type 0} → map_of {X = X} (λ _. None) ≡ empty
unfolding map_of
map_none = ap (λ es. from_entries {R = nat_cmp} es) (none_at all_slots)
