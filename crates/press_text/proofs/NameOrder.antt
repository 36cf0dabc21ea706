-- Of two names one is before the other or they are the same; and tests of each of a list.
use Rattle.std.proofs.Common.{◌≡◌, refl, sym, ◌∙◌, ap, ℕ, zero, suc, ◌<◌, Bool, true, false, not, bytes_eq, List, [], ◌∷◌, length, get_or, arith}
use Rattle.std.specs.Prelude.{◌&&◌}
use Rattle.std.specs.List.{list_all}
use Rattle.std.specs.Cmp.{IsStrictWeakOrder}
use Rattle.std.specs.Cmp.Lexicographic.{slice_cmp}
use Rattle.std.specs.Ordering.{nat_cmp, is_lt, is_eq, ordering_reverse}
use Rattle.std.specs.declared.cmp.Ordering.{Ordering}
use Rattle.std.specs.declared.cmp.Ordering.TheVariants.{Less, Equal, Greater}
use Rattle.std.proofs.lemmas.Cmp.{nat_list_cmp_total}
use Rattle.std.proofs.lemmas.List.MinMax.{ranks_by}
use Rattle.std.proofs.lemmas.Map.Text.{is_eq-slice_cmp}
use Rattle.press_text.specs.NameOrder.{is_before}

pub weak : IsStrictWeakOrder is_before
weak = ranks_by nat_list_cmp_total (λ (x : List ℕ). x)

pub both : (a b : Bool) → (a && b) ≡ true → (a ≡ true) × (b ≡ true)
both true b e = (refl, e)
both false b e = absurd (cc)

pub and : (a b : Bool) → a ≡ true → b ≡ true → (a && b) ≡ true
and a b e f = rw (e, f) refl

pub not_true : (b : Bool) → not b ≡ true → b ≡ false
not_true true e = cc
not_true false e = refl

pub clash : {X : Type 0} (b : Bool) → b ≡ true → b ≡ false → X
clash true e f = absurd (cc)
clash false e f = absurd (cc)

-- ---- of two names, one is before the other or they are the same

eq_where : (o : Ordering) → is_lt o ≡ true → is_eq o ≡ false
eq_where Less e = refl
eq_where Equal e = cc
eq_where Greater e = cc

pub differs : (a b : List ℕ) → is_before a b ≡ true → bytes_eq a b ≡ false
differs a b e = sym (is_eq-slice_cmp a b) ∙ eq_where (slice_cmp nat_cmp a b) e

other_way : (o : Ordering) → is_lt (ordering_reverse o) ≡ false → is_eq (ordering_reverse o) ≡ false → is_lt o ≡ true
other_way Less e f = refl
other_way Equal e f = cc
other_way Greater e f = cc

pub behind : (a b : List ℕ) → is_before a b ≡ false → bytes_eq a b ≡ false → is_before b a ≡ true
behind a b e f =
    let turned : slice_cmp nat_cmp a b ≡ ordering_reverse (slice_cmp nat_cmp b a) = nat_list_cmp_total.antisymm a b in
    other_way (slice_cmp nat_cmp b a) (ap is_lt (sym turned) ∙ e) (ap is_eq (sym turned) ∙ is_eq-slice_cmp a b ∙ f)

-- ---- each of a list

pub all_at : {A : Type 0} (p : A → Bool) (xs : List A) (i : ℕ) (d : A) → list_all p xs ≡ true → i < length xs → p (get_or xs i d) ≡ true
all_at p [] i d e h = absurd (omega arith)
all_at p (x ∷ xs) zero d e h = (both (p x) (list_all p xs) e).0
all_at p (x ∷ xs) (suc i) d e h =
    let lt : i < length xs = omega arith in
    all_at p xs i d (both (p x) (list_all p xs) e).1 lt
