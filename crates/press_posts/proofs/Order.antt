-- Published posts, put in one by one, stand in their order, each once.
use Rattle.std.proofs.Common.{◌≡◌, refl, sym, ◌∙◌, ap, ℕ, suc, ◌+◌, ◌-◌, ◌≤◌, List, [], ◌∷◌, ◌++◌, length, take, drop, reverse, Bool, true, false, cond, Option, Some, None, arith, take-append-drop, append_assoc, length-drop}
use Rattle.std.specs.Prelude.{insert, IsPermutation}
use Rattle.std.proofs.lemmas.Bool.Decides.{nat_tests}
use Rattle.std.proofs.lemmas.List.{reverse-append, length-reverse}
use Rattle.std.proofs.lemmas.List.Sorted.{IsPermutation-refl, IsPermutation-cons, IsPermutation-trans, IsPermutation-insert}
use Rattle.press_posts.specs.declared.post.Post.{Post}
use Rattle.press_posts.specs.declared.posts.Dated.{Dated}
use Rattle.press_posts.specs.Kept.{oldest_first, place_among}
use Rattle.press_posts.specs.Published.{dated_of, is_older, place_in, with_dated, newest_first, with_listed, published_by_id, NoneOlder, IsOldestFirst, IsInOrder}

-- ---- each once

once_with : (o : Option Dated) (ds es : List Dated) → IsPermutation ds es → IsPermutation (with_listed o ds) (with_dated o es)
once_with None ds es h = h
once_with (Some d) ds es h = IsPermutation-trans (d ∷ ds) (d ∷ es) (with_dated (Some d) es) (IsPermutation-cons d ds es h) (IsPermutation-insert es (place_in d es) d)

once : (posts : List (Option Post)) → IsPermutation (published_by_id posts) (newest_first posts)
once [] = IsPermutation-refl []
once (p ∷ ps) = once_with (dated_of p) (published_by_id ps) (newest_first ps) (once ps)

-- ---- the order, read from the end

asymmetric : (a b : Dated) → is_older a b ≡ true → is_older b a ≡ false
asymmetric a b h = grind (arith, nat_tests)

passes_on : (a b c : Dated) → is_older a b ≡ false → is_older b c ≡ false → is_older a c ≡ false
passes_on a b c h k = grind (arith, nat_tests)

none_further : (d e : Dated) (es : List Dated) → is_older e d ≡ false → NoneOlder e es → NoneOlder d es
none_further d e [] h k = tt
none_further d e (x ∷ xs) h k = (passes_on x e d k.0 h, none_further d e xs h k.1)

abbrev pub put : Dated → List Dated → List Dated
put d [] = d ∷ []
put d (e ∷ es) = cond (is_older e d) (e ∷ put d es) (d ∷ e ∷ es)

puts_by : (b : Bool) (d e : Dated) (es : List Dated) → insert es (place_among d es) d ≡ put d es → insert (e ∷ es) (cond b (1 + place_among d es) 0) d ≡ cond b (e ∷ put d es) (d ∷ e ∷ es)
puts_by true d e es h = let one : 1 + place_among d es ≡ suc (place_among d es) = omega arith in rw one (ap (λ (ys : List Dated). e ∷ ys) h)
puts_by false d e es h = refl

pub puts : (d : Dated) (es : List Dated) → insert es (place_among d es) d ≡ put d es
puts d [] = refl
puts d (e ∷ es) = puts_by (is_older e d) d e es (puts d es)

none_put_by : (b : Bool) (c d e : Dated) (es : List Dated) → is_older d c ≡ false → is_older e c ≡ false → NoneOlder c es → NoneOlder c (put d es) → NoneOlder c (cond b (e ∷ put d es) (d ∷ e ∷ es))
none_put_by true c d e es h k m n = (k, n)
none_put_by false c d e es h k m n = (h, (k, m))

none_put : (c d : Dated) (es : List Dated) → is_older d c ≡ false → NoneOlder c es → NoneOlder c (put d es)
none_put c d [] h k = (h, tt)
none_put c d (e ∷ es) h k = none_put_by (is_older e d) c d e es h k.0 k.1 (none_put c d es h k.1)

order_put_by : (b : Bool) (d e : Dated) (es : List Dated) → is_older e d ≡ b → IsOldestFirst (e ∷ es) → IsOldestFirst (put d es) → IsOldestFirst (cond b (e ∷ put d es) (d ∷ e ∷ es))
order_put_by true d e es l h k = (none_put e d es (asymmetric e d l) h.0, k)
order_put_by false d e es l h k = ((l, none_further d e es l h.0), h)

order_put : (d : Dated) (es : List Dated) → IsOldestFirst es → IsOldestFirst (put d es)
order_put d [] h = (tt, tt)
order_put d (e ∷ es) h = order_put_by (is_older e d) d e es refl h (order_put d es h.1)

few_by : (b : Bool) (n m : ℕ) → n ≤ m → cond b (1 + n) 0 ≤ suc m
few_by true n m h = omega arith
few_by false n m h = omega arith

older_few : (d : Dated) (es : List Dated) → place_among d es ≤ length es
older_few d [] = omega arith
older_few d (e ∷ es) = few_by (is_older e d) (place_among d es) (length es) (older_few d es)

seam : (d : Dated) (xs ys : List Dated) → insert (xs ++ ys) (length xs) d ≡ xs ++ d ∷ ys
seam d [] ys = refl
seam d (x ∷ xs) ys = ap (λ (zs : List Dated). x ∷ zs) (seam d xs ys)

turned_at : (d : Dated) (xs ys : List Dated) → reverse (xs ++ d ∷ ys) ≡ insert (reverse (xs ++ ys)) (length ys) d
turned_at d xs ys =
    reverse-append xs (d ∷ ys) ∙ ap (λ (zs : List Dated). zs ++ reverse xs) (reverse-append (d ∷ []) ys) ∙ append_assoc (reverse ys) (d ∷ []) (reverse xs)
    ∙ sym (seam d (reverse ys) (reverse xs)) ∙ ap (λ (m : ℕ). insert (reverse ys ++ reverse xs) m d) (length-reverse ys) ∙ ap (λ (zs : List Dated). insert zs (length ys) d) (sym (reverse-append xs ys))

-- an element put in before the last k is behind the first k of the reverse
turned : (d : Dated) (ds : List Dated) (k : ℕ) → k ≤ length ds → reverse (insert ds (length ds - k) d) ≡ insert (reverse ds) k d
turned d ds k h =
    let n : ℕ = length ds - k in
    let e : length (drop n ds) ≡ k = omega (arith, length-drop n ds) in
    turned_at d (take n ds) (drop n ds) ∙ ap (λ (m : ℕ). insert (reverse (take n ds ++ drop n ds)) m d) e ∙ ap (λ (zs : List Dated). insert (reverse zs) k d) (take-append-drop n ds)

abbrev pub put_with : Option Dated → List Dated → List Dated
put_with None es = es
put_with (Some d) es = put d es

reverse_with : (o : Option Dated) (ds : List Dated) → reverse (with_dated o ds) ≡ put_with o (reverse ds)
reverse_with None ds = refl
reverse_with (Some d) ds =
    let k = place_among d (reverse ds) in
    let few : k ≤ length ds = omega (arith, older_few d (reverse ds), length-reverse ds) in
    turned d ds k few ∙ puts d (reverse ds)

pub oldest_none : oldest_first [] ≡ []
unfolding oldest_first
oldest_none = refl

pub oldest_more : (p : Option Post) (ps : List (Option Post)) → oldest_first (p ∷ ps) ≡ put_with (dated_of p) (oldest_first ps)
unfolding oldest_first
oldest_more p ps = reverse_with (dated_of p) (newest_first ps)

order_with : (o : Option Dated) (es : List Dated) → IsOldestFirst es → IsOldestFirst (put_with o es)
order_with None es h = h
order_with (Some d) es h = order_put d es h

pub order : (posts : List (Option Post)) → IsOldestFirst (oldest_first posts)
order [] = rw oldest_none tt
order (p ∷ ps) = rw (oldest_more p ps) (order_with (dated_of p) (oldest_first ps) (order ps))

pub in_order : (posts : List (Option Post)) → IsInOrder posts
unfolding oldest_first
in_order posts = record { once = once posts; order = order posts }
