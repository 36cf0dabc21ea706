-- What stands in the order of its names: so a sort says, and equal names are neighbours.
use Rattle.std.proofs.Common.{◌≡◌, refl, sym, ◌∙◌, ap, subst, ℕ, zero, suc, ◌+◌, ◌<◌, ◌≤◌, Bool, true, false, not, cond, bytes_eq, List, [], ◌∷◌, length, get_or, drop, Option, Some, None, arith}
use Rattle.std.specs.Prelude.{◌||◌, is_some, option_map}
use Rattle.std.specs.List.{list_all}
use Rattle.std.specs.List.Sorted.{IsSortedBy}
use Rattle.std.specs.Cmp.{IsStrictWeakOrder}
use Rattle.std.proofs.lemmas.Cmp.{nat_list_cmp_total}
use Rattle.std.proofs.lemmas.List.MinMax.{ranks_by}
use Rattle.std.proofs.lemmas.List.Sorted.{sorted_far}
use Rattle.press_text.specs.NameOrder.{is_before}
use Rattle.press_callbacks.specs.Order.{in_order, place_of}
use Rattle.press_callbacks.specs.Kits.{has_two, is_named}
use Rattle.press_text.proofs.NameOrder.{and, both, not_true, behind}
use Rattle.press_callbacks.proofs.Halves.{none_behind}

-- ---- as a sort says it

pub order_of : {A : Type 0} (name : A → List ℕ) → IsStrictWeakOrder (λ x y. is_before (name x) (name y))
order_of name = ranks_by nat_list_cmp_total name

all_from : {A : Type 0} (p : A → Bool) (xs : List A) → ((j : ℕ) (d : A) → j < length xs → p (get_or xs j d) ≡ true) → list_all p xs ≡ true
all_from p [] h = refl
all_from p (x ∷ xs) h = and (p x) (list_all p xs) (h 0 x (omega arith)) (all_from p xs (λ j d lt. h (suc j) d (omega arith)))

sorted_behind : {A : Type 0} (name : A → List ℕ) (x : A) (xs : List A) → IsSortedBy (λ y z. is_before (name y) (name z)) (x ∷ xs) → IsSortedBy (λ y z. is_before (name y) (name z)) xs
sorted_behind name x xs up k d low high =
    let e : suc k + 1 ≡ suc (k + 1) = omega arith in
    subst (λ n. is_before (name (get_or (x ∷ xs) n d)) (name (get_or xs k d)) ≡ false) e (up (suc k) d (omega arith) (omega arith))

pub in_order_sorted : {A : Type 0} (name : A → List ℕ) (xs : List A) → IsSortedBy (λ y z. is_before (name y) (name z)) xs → in_order name xs ≡ true
in_order_sorted name [] up = refl
in_order_sorted {A} name (x ∷ xs) up =
    and _ _
    (all_from (λ y. not (is_before (name y) (name x))) xs
    (λ j d lt. ap not (sorted_far (λ (y z : A). is_before (name y) (name z)) (order_of name) (x ∷ xs) up 0 (suc j) d (omega arith) (omega arith))))
    (in_order_sorted name xs (sorted_behind name x xs up))

-- ---- found by binary search

some_where : (b : Bool) (place : Option ℕ) (named : Bool) → is_some place ≡ named → is_some (cond b (Some 0) (option_map suc place)) ≡ (b || named)
some_where true place named e = refl
some_where false None named e = e
some_where false (Some i) named e = e

pub placed_named : {A : Type 0} (name : A → List ℕ) (n : List ℕ) (xs : List A) → is_some (place_of name n xs) ≡ is_named name xs n
placed_named name n [] = refl
placed_named name n (x ∷ xs) = some_where (bytes_eq (name x) n) (place_of name n xs) (is_named name xs n) (placed_named name n xs)

-- ---- equal names are neighbours

or_false : (a b : Bool) → a ≡ false → b ≡ false → (a || b) ≡ false
or_false a b e f = rw (e, f) refl

none_named : (place : Option ℕ) → place ≡ None → is_some place ≡ false
none_named None e = refl
none_named (Some i) e = cc

-- where the next has another name, so has each behind it
apart : {A : Type 0} (name : A → List ℕ) (x y : A) (zs : List A) → in_order name (x ∷ y ∷ zs) ≡ true → bytes_eq (name y) (name x) ≡ false → is_named name (y ∷ zs) (name x) ≡ false
apart name x y zs o e =
    let outer = both (list_all (λ z. not (is_before (name z) (name x))) (y ∷ zs)) (in_order name (y ∷ zs)) o in
    let late : not (is_before (name y) (name x)) ≡ true = (both (not (is_before (name y) (name x))) (list_all (λ z. not (is_before (name z) (name x))) zs) outer.0).0 in
    let first : is_before (name x) (name y) ≡ true = behind (name y) (name x) (not_true (is_before (name y) (name x)) late) e in
    let further = (both (list_all (λ z. not (is_before (name z) (name y))) zs) (in_order name zs) outer.1).0 in
    or_false (bytes_eq (name y) (name x)) (is_named name zs (name x)) e
    (sym (placed_named name (name x) zs) ∙ none_named (place_of name (name x) zs) (none_behind name (name x) y zs first further))

two_passed : {A : Type 0} (name : A → List ℕ) (x : A) (ys : List A) → is_named name ys (name x) ≡ false → has_two name ys ≡ has_two name (x ∷ ys)
two_passed name x ys e = sym (ap (λ b. b || has_two name ys) e)

pub next_apart : {A : Type 0} (name : A → List ℕ) (xs : List A) (i : ℕ) (x y : A) → in_order name xs ≡ true → i + 1 < length xs → x ≡ get_or xs i x → y ≡ get_or xs (i + 1) y → bytes_eq (name y) (name x) ≡ false → has_two name (drop (i + 1) xs) ≡ has_two name (drop i xs)
next_apart name [] i x y o lt ex ey e = absurd (omega arith)
next_apart name (a ∷ []) i x y o lt ex ey e = absurd (omega arith)
next_apart name (a ∷ b ∷ zs) zero x y o lt ex ey e =
    two_passed name a (b ∷ zs) (apart name a b zs o (rw (← ex, ← ey) e))
next_apart name (a ∷ b ∷ zs) (suc i) x y o lt ex ey e =
    let k : suc i + 1 ≡ suc (i + 1) = omega arith in
    let o' = (both (list_all (λ z. not (is_before (name z) (name a))) (b ∷ zs)) (in_order name (b ∷ zs)) o).1 in
    rw k (next_apart name (b ∷ zs) i x y o' (omega arith) ex (rw k at ey) e)

pub next_equal : {A : Type 0} (name : A → List ℕ) (xs : List A) (i : ℕ) (x y : A) → i + 1 < length xs → x ≡ get_or xs i x → y ≡ get_or xs (i + 1) y → bytes_eq (name y) (name x) ≡ true → has_two name (drop i xs) ≡ true
next_equal name [] i x y lt ex ey e = absurd (omega arith)
next_equal name (a ∷ []) i x y lt ex ey e = absurd (omega arith)
next_equal name (a ∷ b ∷ zs) zero x y lt ex ey e =
    let first : bytes_eq (name b) (name a) ≡ true = rw (← ex, ← ey) e in
    ap (λ t. t || is_named name zs (name a) || has_two name (b ∷ zs)) first
next_equal name (a ∷ b ∷ zs) (suc i) x y lt ex ey e =
    let k : suc i + 1 ≡ suc (i + 1) = omega arith in
    next_equal name (b ∷ zs) i x y (omega arith) ex (rw k at ey) e

-- one thing alone has no second
pub two_alone : {A : Type 0} (name : A → List ℕ) (xs : List A) → length xs ≤ 1 → has_two name xs ≡ false
two_alone name [] h = refl
two_alone name (x ∷ []) h = refl
two_alone name (x ∷ y ∷ zs) h = absurd (omega arith)
