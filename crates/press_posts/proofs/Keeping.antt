-- What is kept beside the posts stays so where a place is emptied or filled, comes or goes.
use Rattle.std.proofs.Common.{◌≡◌, refl, sym, ◌∙◌, ap, ap₂, ℕ, zero, suc, ◌+◌, ◌-◌, ◌<◌, ◌≤◌, List, [], ◌∷◌, ◌++◌, length, get_or, set, Bool, true, false, nat_eq, set-set, get_or-set_same, Option, Some, None, arith, length-append, length-set, map, take, take_all, reverse, Result, Ok, Err, OnErr}
use Rattle.std.specs.Prelude.{◌&&◌}
use Rattle.std.proofs.lemmas.Bool.Decides.{nat_tests}
use Rattle.std.proofs.lemmas.List.{set_at, take-map, reverse-reverse, length-map, length-reverse}
use Rattle.press_posts.specs.declared.post.Post.{Post}
use Rattle.press_posts.specs.declared.posts.Dated.{Dated}
use Rattle.press_posts.specs.Kept.{oldest_first, put_in, take_out, keeps_order, IsAmong, IsKept}
use Rattle.press_posts.specs.PostChange.{post_at, is_publish, post_count}
use Rattle.press_posts.specs.Published.{dated_of, newest_first, published, IsOldestFirst}
use Rattle.press_posts.specs.Restored.{IsGiven}
use Rattle.press_posts.proofs.Order.{put_with, oldest_none, order}
use Rattle.press_posts.proofs.Oldest.{out_with, among_with, in_with, emptied, filled, more, counted, counted_more, fewer_stand, few_stand, few_published}

pub at_place : (posts : List (Option Post)) (id : ℕ) → 1 ≤ id → post_at posts id ≡ get_or posts (id - 1) None
at_place posts zero h = absurd (omega arith)
at_place posts (suc i) h = let on : suc i - 1 ≡ i = omega arith in ap (λ (j : ℕ). get_or posts j None) (sym on)

any_default : (posts : List (Option Post)) (i : ℕ) (d : Option Post) → i < length posts → get_or posts i d ≡ get_or posts i None
any_default [] i d h = absurd (omega arith)
any_default (p ∷ ps) zero d h = refl
any_default (p ∷ ps) (suc i) d h = any_default ps i d (omega arith)

both : (a b : Bool) → (a && b) ≡ true → (a ≡ true) × (b ≡ true)
both true b e = (refl, e)
both false b e = absurd (cc)

equals : (m n : ℕ) → nat_eq m n ≡ true → m ≡ n
equals m n e = grind (arith, nat_tests)

same_dated : (old new : Post) → keeps_order (Some old) new ≡ true → dated_of (Some old) ≡ dated_of (Some new)
same_dated old new e =
    let was = both (is_publish old.status) (is_publish new.status && (nat_eq old.date new.date && nat_eq old.id new.id)) e in
    let is = both (is_publish new.status) (nat_eq old.date new.date && nat_eq old.id new.id) was.1 in
    let alike = both (nat_eq old.date new.date) (nat_eq old.id new.id) is.1 in
    let date : old.date ≡ new.date = equals old.date new.date alike.0 in
    let id : old.id ≡ new.id = equals old.id new.id alike.1 in
    rw (was.0, is.0) (ap₂ (λ (d i : ℕ). let o : Option Dated = Some (record { date = d; id = i }) in o) date id)

module _ (posts : List (Option Post)) (count : ℕ) (ds : List Dated) (room : ℕ) where
  pub in_order : IsKept posts count ds room → IsOldestFirst ds
  in_order k = rw k.ordered (order posts)

  module _ (id : ℕ) (p : Post) where
    -- a place that is empty

    abbrev IsFree : Type 0
    IsFree = post_at posts id ≡ None

    free : IsGiven id posts → IsFree → get_or posts (id - 1) None ≡ None
    free g e = sym (at_place posts id g.0) ∙ e

    pub few : IsKept posts count ds room → IsGiven id posts → IsFree → count < length posts
    few k g e = rw k.counted (fewer_stand posts (id - 1) (omega (arith, g.0, g.1)) (free g e))

    pub has_room : IsKept posts count ds room → IsGiven id posts → IsFree → length ds < room
    has_room k g e =
        let n : length ds ≤ post_count posts = rw k.ordered (few_published posts) in
        omega (arith, few k g e, k.counted, k.roomy, n)

    pub fills : (es : List Dated) → es ≡ put_in (dated_of (Some p)) ds → IsKept posts count ds room → IsGiven id posts → IsFree → IsKept (set posts (id - 1) (Some p)) (count + 1) es room
    fills es put k g e =
        let lt : id - 1 < length posts = omega (arith, g.0, g.1) in
        let n = counted posts (id - 1) (Some p) lt in
        let empty = free g e in
        record {
          counted = omega (arith, rw empty at n, k.counted);
          ordered = put ∙ in_with (dated_of (Some p)) ds ∙ ap (put_with (dated_of (Some p))) k.ordered ∙ sym (filled posts (id - 1) (Some p) lt empty);
          roomy = omega (arith, length-set posts (id - 1) (Some p), k.roomy);
        }

    -- a place where a post is

    stood : (q : Option Post) → IsGiven id posts → q ≡ get_or posts (id - 1) q → q ≡ Some p → get_or posts (id - 1) None ≡ Some p
    stood q g at is = sym (any_default posts (id - 1) q (omega (arith, g.0, g.1))) ∙ sym at ∙ is

    pub was : (q : Option Post) → IsKept posts count ds room → IsGiven id posts → q ≡ get_or posts (id - 1) q → q ≡ Some p → ds ≡ put_with (dated_of (Some p)) (oldest_first (set posts (id - 1) None))
    was q k g at is = k.ordered ∙ emptied posts (id - 1) ∙ ap (λ (o : Option Post). put_with (dated_of o) (oldest_first (set posts (id - 1) None))) (stood q g at is)

    fewer : (q : Option Post) → IsKept posts count ds room → IsGiven id posts → q ≡ get_or posts (id - 1) q → q ≡ Some p → post_count (set posts (id - 1) None) + 1 ≡ count
    fewer q k g at is =
        let n = counted posts (id - 1) None (omega (arith, g.0, g.1)) in
        let one = stood q g at is in
        omega (arith, rw one at n, k.counted)

    pub some_stand : (q : Option Post) → IsKept posts count ds room → IsGiven id posts → q ≡ get_or posts (id - 1) q → q ≡ Some p → 1 ≤ count
    some_stand q k g at is = omega (arith, fewer q k g at is)

    pub is_among : (q : Option Post) → IsKept posts count ds room → IsGiven id posts → q ≡ get_or posts (id - 1) q → q ≡ Some p → IsAmong (dated_of (Some p)) ds
    is_among q k g at is = rw (was q k g at is) (among_with (dated_of (Some p)) (oldest_first (set posts (id - 1) None)))

    pub empties : (q : Option Post) (es : List Dated) → es ≡ take_out (dated_of (Some p)) ds → IsKept posts count ds room → IsGiven id posts → q ≡ get_or posts (id - 1) q → q ≡ Some p → IsKept (set posts (id - 1) None) (count - 1) es room
    empties q es taken k g at is = record {
      counted = omega (arith, fewer q k g at is);
      ordered = taken ∙ ap (take_out (dated_of (Some p))) (was q k g at is) ∙ out_with (dated_of (Some p)) (oldest_first (set posts (id - 1) None));
      roomy = omega (arith, length-set posts (id - 1) None, k.roomy);
    }

    -- a post in place of another, the order as it is

    replaces : (o : Option Post) → post_at posts id ≡ o → keeps_order o p ≡ true → IsKept posts count ds room → IsGiven id posts → IsKept (set posts (id - 1) (Some p)) count ds room
    replaces None e same k g = absurd (cc)
    replaces (Some old) e same k g =
        let lt : id - 1 < length posts = omega (arith, g.0, g.1) in
        let stood : get_or posts (id - 1) None ≡ Some old = sym (at_place posts id g.0) ∙ e in
        let n = counted posts (id - 1) (Some p) lt in
        let empty : get_or (set posts (id - 1) None) (id - 1) None ≡ None = get_or-set_same posts (id - 1) None None lt in
        let lt' : id - 1 < length (set posts (id - 1) None) = omega (arith, length-set posts (id - 1) None) in
        record {
          counted = omega (arith, rw stood at n, k.counted);
          ordered =
              k.ordered ∙ emptied posts (id - 1) ∙ ap (λ (o : Option Post). put_with (dated_of o) (oldest_first (set posts (id - 1) None))) stood
              ∙ ap (λ (o : Option Dated). put_with o (oldest_first (set posts (id - 1) None))) (same_dated old p same)
              ∙ sym (ap oldest_first (sym (set-set posts (id - 1) None (Some p))) ∙ filled (set posts (id - 1) None) (id - 1) (Some p) lt' empty);
          roomy = omega (arith, length-set posts (id - 1) (Some p), k.roomy);
        }

    pub replaced : keeps_order (post_at posts id) p ≡ true → IsKept posts count ds room → IsGiven id posts → IsKept (set posts (id - 1) (Some p)) count ds room
    replaced same k g = replaces (post_at posts id) refl same k g

  -- the last place, which is empty

  pub longer : (es : List Dated) (wide : ℕ) → es ≡ ds → length posts + 1 ≤ wide → IsKept posts count ds room → IsKept (posts ++ None ∷ []) count es wide
  longer es wide same le k = record {
    counted = k.counted ∙ sym (counted_more posts);
    ordered = same ∙ k.ordered ∙ sym (more posts);
    roomy = omega (arith, length-append posts (None ∷ []), le);
  }

  pub shorter : IsKept (posts ++ None ∷ []) count ds room → IsKept posts count ds room
  shorter k = record {
    counted = k.counted ∙ counted_more posts;
    ordered = k.ordered ∙ more posts;
    roomy = omega (arith, length-append posts (None ∷ []), k.roomy);
  }

pub pushed : (posts longer : List (Option Post)) (n : ℕ) (p : Post) → longer ≡ posts ++ None ∷ [] → n ≡ length longer → set longer (n - 1) (Some p) ≡ posts ++ Some p ∷ []
pushed posts longer n p at len =
    let k : length posts ≡ n - 1 = omega (arith, ap length at, length-append posts (None ∷ [])) in
    ap (λ (ps : List (Option Post)). set ps (n - 1) (Some p)) at ∙ set_at posts None [] (Some p) (n - 1) k

pub none : (room : ℕ) → IsKept [] 0 [] room
none room = record { counted = refl; ordered = sym oldest_none; roomy = omega arith }

pub newest_of : (posts : List (Option Post)) (ds : List Dated) (most : ℕ) → ds ≡ oldest_first posts → map (λ (d : Dated). d.id) (take most (reverse ds)) ≡ take most (published posts)
unfolding oldest_first
newest_of posts ds most e =
    ap (λ (es : List Dated). map (λ (d : Dated). d.id) (take most (reverse es))) e ∙ ap (λ (es : List Dated). map (λ (d : Dated). d.id) (take most es)) (reverse-reverse (newest_first posts))
    ∙ sym (take-map (λ (d : Dated). d.id) most (newest_first posts))

few_newest : (posts : List (Option Post)) → length (newest_first posts) ≤ post_count posts
unfolding oldest_first
few_newest posts = omega (arith, length-reverse (newest_first posts), few_published posts)

pub all_published : (posts : List (Option Post)) → take (length posts) (published posts) ≡ published posts
all_published posts = take_all (length posts) (published posts) (few_of posts)
  where
    few_of : (posts : List (Option Post)) → length (published posts) ≤ length posts
    few_of posts = omega (arith, length-map (newest_first posts) (λ (d : Dated). d.id), few_newest posts, few_stand posts)

pub on_err : {T E P : Type 0} (r : Result T E) → P → OnErr r P
on_err (Ok x) p = tt
on_err (Err e) p = p
