-- The order of the published posts, oldest first, from one change of a place to the next.
use Rattle.std.proofs.Common.{◌≡◌, refl, sym, ◌∙◌, ap, ap₂, ℕ, zero, suc, ◌+◌, ◌<◌, ◌≤◌, List, [], ◌∷◌, ◌++◌, length, get_or, set, Bool, true, false, cond, Option, Some, None, arith}
use Rattle.std.specs.Prelude.{remove, is_some}
use Rattle.std.specs.List.Sorted.{IsPartitionedBy}
use Rattle.std.proofs.lemmas.Bool.Decides.{nat_tests}
use Rattle.press_posts.specs.declared.post.Post.{Post}
use Rattle.press_posts.specs.declared.posts.Dated.{Dated}
use Rattle.press_posts.specs.Kept.{oldest_first, place_among, put_in, take_out, IsAmong}
use Rattle.press_posts.specs.PostChange.{post_count}
use Rattle.press_posts.specs.Published.{dated_of, is_older, NoneOlder, IsOldestFirst}
use Rattle.press_posts.proofs.Order.{put, puts, put_with, oldest_none, oldest_more}

-- ---- found by binary search

older_yet : (x e d : Dated) → is_older x e ≡ false → is_older x d ≡ true → is_older e d ≡ true
older_yet x e d h k = grind (arith, nat_tests)

none_at : (e x : Dated) (es : List Dated) (j : ℕ) → NoneOlder e es → j < length es → is_older (get_or es j x) e ≡ false
none_at e x [] j h lt = absurd (omega arith)
none_at e x (y ∷ ys) zero h lt = h.0
none_at e x (y ∷ ys) (suc j) h lt = none_at e x ys j h.1 (omega arith)

pub parted : (d : Dated) (es : List Dated) → IsOldestFirst es → IsPartitionedBy (λ e. is_older e d) es
parted d [] o i j x le lt t = absurd (omega arith)
parted d (e ∷ es) o zero zero x le lt t = t
parted d (e ∷ es) o zero (suc j) x le lt t = older_yet (get_or es j x) e d (none_at e x es j o.0 (omega arith)) t
parted d (e ∷ es) o (suc i) zero x le lt t = absurd (omega arith)
parted d (e ∷ es) o (suc i) (suc j) x le lt t = parted d es o.1 i j x (omega arith) (omega arith) t

-- ---- one put in and taken out

same : (a b : Dated) → is_older a b ≡ false → is_older b a ≡ false → a ≡ b
same a b h k =
    let date : a.date ≡ b.date = grind (arith, nat_tests) in
    let id : a.id ≡ b.id = grind (arith, nat_tests) in
    ap₂ (λ (d i : ℕ). let x : Dated = record { date = d; id = i } in x) date id

never : (d : Dated) → is_older d d ≡ false
never d = grind (arith, nat_tests)

not_both : (a b : Dated) → is_older a b ≡ true → is_older b a ≡ false
not_both a b h = grind (arith, nat_tests)

swap_by : (ab ba : Bool) (a b : Dated) (xs : List Dated) → is_older a b ≡ ab → is_older b a ≡ ba → cond ba (b ∷ a ∷ xs) (a ∷ b ∷ xs) ≡ cond ab (a ∷ b ∷ xs) (b ∷ a ∷ xs)
swap_by true true a b xs h k = absurd (cc (not_both a b h))
swap_by true false a b xs h k = refl
swap_by false true a b xs h k = refl
swap_by false false a b xs h k = ap₂ (λ (x y : Dated). x ∷ y ∷ xs) (same a b h k) (sym (same a b h k))

swap : (a b : Dated) (xs : List Dated) → cond (is_older b a) (b ∷ a ∷ xs) (a ∷ b ∷ xs) ≡ cond (is_older a b) (a ∷ b ∷ xs) (b ∷ a ∷ xs)
swap a b xs = swap_by (is_older a b) (is_older b a) a b xs refl refl

before : (e a b : Dated) → is_older e a ≡ true → is_older e b ≡ false → is_older b a ≡ true
before e a b h k = grind (arith, nat_tests)

turn_by : (ea eb : Bool) (a b e : Dated) (es : List Dated) → is_older e a ≡ ea → is_older e b ≡ eb → put a (put b es) ≡ put b (put a es) → put a (cond eb (e ∷ put b es) (b ∷ e ∷ es)) ≡ put b (cond ea (e ∷ put a es) (a ∷ e ∷ es))
turn_by true true a b e es h k ih = rw (h, k) (ap (λ (ys : List Dated). e ∷ ys) ih)
turn_by true false a b e es h k ih = rw (before e a b h k, h, k) refl
turn_by false true a b e es h k ih = rw (before e b a k h, h, k) refl
turn_by false false a b e es h k ih = rw (h, k) (swap a b (e ∷ es))

pub turn : (a b : Dated) (es : List Dated) → put a (put b es) ≡ put b (put a es)
turn a b [] = swap a b []
turn a b (e ∷ es) = turn_by (is_older e a) (is_older e b) a b e es refl refl (turn a b es)

turn_with : (o q : Option Dated) (es : List Dated) → put_with o (put_with q es) ≡ put_with q (put_with o es)
turn_with None q es = refl
turn_with (Some a) None es = refl
turn_with (Some a) (Some b) es = turn a b es

out_by : (b : Bool) (d e : Dated) (es : List Dated) → is_older e d ≡ b → remove (put d es) (place_among d (put d es)) ≡ es
    → remove (cond b (e ∷ put d es) (d ∷ e ∷ es)) (place_among d (cond b (e ∷ put d es) (d ∷ e ∷ es))) ≡ e ∷ es
out_by true d e es h ih =
    let one : 1 + place_among d (put d es) ≡ suc (place_among d (put d es)) = omega arith in
    rw (h, one) (ap (λ (ys : List Dated). e ∷ ys) ih)
out_by false d e es h ih = rw (never d) refl

out : (d : Dated) (es : List Dated) → remove (put d es) (place_among d (put d es)) ≡ es
out d [] = rw (never d) refl
out d (e ∷ es) = out_by (is_older e d) d e es refl (out d es)

pub out_with : (o : Option Dated) (es : List Dated) → take_out o (put_with o es) ≡ es
out_with None es = refl
out_with (Some d) es = out d es

among_by : (b : Bool) (d e : Dated) (es : List Dated) → is_older e d ≡ b → place_among d (put d es) < length (put d es) → place_among d (cond b (e ∷ put d es) (d ∷ e ∷ es)) < length (cond b (e ∷ put d es) (d ∷ e ∷ es))
among_by true d e es h ih = rw h (omega arith)
among_by false d e es h ih = rw (never d) (omega arith)

among : (d : Dated) (es : List Dated) → place_among d (put d es) < length (put d es)
among d [] = rw (never d) (omega arith)
among d (e ∷ es) = among_by (is_older e d) d e es refl (among d es)

pub among_with : (o : Option Dated) (es : List Dated) → IsAmong o (put_with o es)
among_with None es = tt
among_with (Some d) es = among d es

pub in_with : (o : Option Dated) (es : List Dated) → put_in o es ≡ put_with o es
in_with None es = refl
in_with (Some d) es = puts d es

-- ---- one place emptied or filled

pub emptied : (ps : List (Option Post)) (i : ℕ) → oldest_first ps ≡ put_with (dated_of (get_or ps i None)) (oldest_first (set ps i None))
emptied [] i = refl
emptied (p ∷ ps) zero = oldest_more p ps ∙ ap (put_with (dated_of p)) (sym (oldest_more None ps))
emptied (p ∷ ps) (suc i) =
    oldest_more p ps ∙ ap (put_with (dated_of p)) (emptied ps i) ∙ turn_with (dated_of p) (dated_of (get_or ps i None)) (oldest_first (set ps i None))
    ∙ ap (put_with (dated_of (get_or ps i None))) (sym (oldest_more p (set ps i None)))

pub filled : (ps : List (Option Post)) (i : ℕ) (q : Option Post) → i < length ps → get_or ps i None ≡ None → oldest_first (set ps i q) ≡ put_with (dated_of q) (oldest_first ps)
filled [] i q lt e = absurd (omega arith)
filled (p ∷ ps) zero q lt e = oldest_more q ps ∙ ap (put_with (dated_of q)) (sym (oldest_more None ps) ∙ ap (λ (o : Option Post). oldest_first (o ∷ ps)) (sym e))
filled (p ∷ ps) (suc i) q lt e =
    oldest_more p (set ps i q) ∙ ap (put_with (dated_of p)) (filled ps i q (omega arith) e) ∙ turn_with (dated_of p) (dated_of q) (oldest_first ps)
    ∙ ap (put_with (dated_of q)) (sym (oldest_more p ps))

-- a place more, which is empty
pub more : (ps : List (Option Post)) → oldest_first (ps ++ None ∷ []) ≡ oldest_first ps
more [] = oldest_more None []
more (p ∷ ps) = oldest_more p (ps ++ None ∷ []) ∙ ap (put_with (dated_of p)) (more ps) ∙ sym (oldest_more p ps)

-- ---- how many

abbrev one_if : Option Post → ℕ
one_if p = cond (is_some p) 1 0

standing_more : (p : Option Post) (ps : List (Option Post)) → post_count (p ∷ ps) ≡ one_if p + post_count ps
standing_more None ps = omega arith
standing_more (Some p) ps = omega arith

pub counted : (ps : List (Option Post)) (i : ℕ) (q : Option Post) → i < length ps → post_count (set ps i q) + one_if (get_or ps i None) ≡ post_count ps + one_if q
counted [] i q lt = absurd (omega arith)
counted (p ∷ ps) zero q lt = omega (arith, standing_more p ps, standing_more q ps)
counted (p ∷ ps) (suc i) q lt = omega (arith, standing_more p ps, standing_more p (set ps i q), counted ps i q (omega arith))

pub counted_more : (ps : List (Option Post)) → post_count (ps ++ None ∷ []) ≡ post_count ps
counted_more [] = refl
counted_more (p ∷ ps) = omega (arith, standing_more p ps, standing_more p (ps ++ None ∷ []), counted_more ps)

few_if : (p : Option Post) → one_if p ≤ 1
few_if None = omega arith
few_if (Some p) = omega arith

pub few_stand : (ps : List (Option Post)) → post_count ps ≤ length ps
few_stand [] = omega arith
few_stand (p ∷ ps) = omega (arith, standing_more p ps, few_if p, few_stand ps)

pub fewer_stand : (ps : List (Option Post)) (i : ℕ) → i < length ps → get_or ps i None ≡ None → post_count ps < length ps
fewer_stand [] i lt e = absurd (omega arith)
fewer_stand (p ∷ ps) zero lt e = let none : one_if p ≡ 0 = ap one_if e in omega (arith, standing_more p ps, few_stand ps)
fewer_stand (p ∷ ps) (suc i) lt e = omega (arith, standing_more p ps, few_if p, fewer_stand ps i (omega arith) e)

length_put_by : (b : Bool) (d e : Dated) (es : List Dated) → length (put d es) ≡ length es + 1 → length (cond b (e ∷ put d es) (d ∷ e ∷ es)) ≡ length (e ∷ es) + 1
length_put_by true d e es h = omega arith
length_put_by false d e es h = omega arith

length_put : (d : Dated) (es : List Dated) → length (put d es) ≡ length es + 1
length_put d [] = omega arith
length_put d (e ∷ es) = length_put_by (is_older e d) d e es (length_put d es)

few_if_dated : (b : Bool) (d : Dated) (es : List Dated) → length (put_with (cond b (Some d) None) es) ≤ length es + 1
few_if_dated true d es = omega (arith, length_put d es)
few_if_dated false d es = omega arith

few_with : (p : Option Post) (es : List Dated) → length (put_with (dated_of p) es) ≤ length es + one_if p
few_with None es = omega arith
few_with (Some p) es = few_if_dated _ _ es

pub few_published : (ps : List (Option Post)) → length (oldest_first ps) ≤ post_count ps
few_published [] = rw oldest_none (omega arith)
few_published (p ∷ ps) = rw (oldest_more p ps) (omega (arith, few_with p (oldest_first ps), few_published ps, standing_more p ps))
