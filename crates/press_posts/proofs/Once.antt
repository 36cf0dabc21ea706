-- Where posts have the ids of their places, no id is published twice.
use Rattle.std.proofs.Common.{◌≡◌, subst, ℕ, suc, ◌+◌, ◌≤◌, List, [], ◌∷◌, get_or, map, nat_eq, cond, Bool, true, false, Option, Some, None, arith}
use Rattle.std.specs.Prelude.{IfSome}
use Rattle.std.specs.List.{IsDistinct, AllByRecursion}
use Rattle.std.proofs.lemmas.Bool.Decides.{nat_tests}
use Rattle.std.proofs.lemmas.List.Sorted.{IsPermutation-map}
use Rattle.std.proofs.lemmas.Map.Keys.{IsDistinct-cons, IsDistinct-IsPermutation}
use Rattle.press_posts.specs.declared.post.Post.{Post}
use Rattle.press_posts.specs.declared.posts.Dated.{Dated}
use Rattle.press_posts.specs.Ids.{HaveIds}
use Rattle.press_posts.specs.PostChange.{is_publish}
use Rattle.press_posts.specs.Published.{with_listed, published_by_id, newest_first, published}
use Rattle.press_posts.proofs.Order.{in_order}

-- posts behind so many places
abbrev pub HaveIdsFrom : ℕ → List (Option Post) → Type 0
HaveIdsFrom k [] = Unit {0}
HaveIdsFrom k (p ∷ ps) = IfSome p (λ q. q.id ≡ suc k) × HaveIdsFrom (suc k) ps

from : (k : ℕ) (ps : List (Option Post)) → ((i : ℕ) → IfSome (get_or ps i None) (λ q. q.id ≡ suc (k + i))) → HaveIdsFrom k ps
from k [] h = tt
from k (p ∷ ps) h =
    let first : suc (k + 0) ≡ suc k = omega arith in
    (subst (λ n. IfSome p (λ (q : Post). q.id ≡ n)) first (h 0), from (suc k) ps (λ i. let on : suc (k + suc i) ≡ suc (suc k + i) = omega arith in subst (λ n. IfSome (get_or ps i None) (λ (q : Post). q.id ≡ n)) on (h (suc i))))

pub all_from : (posts : List (Option Post)) → HaveIds posts → HaveIdsFrom 0 posts
all_from posts h = from 0 posts (λ i. let on : suc i ≡ suc (0 + i) = omega arith in subst (λ n. IfSome (get_or posts i None) (λ (q : Post). q.id ≡ n)) on (h (suc i)))

abbrev ids : List Dated → List ℕ
ids ds = map (λ (d : Dated). d.id) ds

differs : (m n k : ℕ) → n ≡ suc k → m ≤ k → nat_eq m n ≡ false
differs m n k e h = grind (arith, nat_tests)

unlike_by : (b : Bool) (m k : ℕ) (p : Post) (ds : List Dated) → p.id ≡ suc k → m ≤ k → AllByRecursion (λ y. nat_eq m y ≡ false) (ids ds) → AllByRecursion (λ y. nat_eq m y ≡ false) (ids (with_listed (cond b (Some (record { date = p.date; id = p.id })) None) ds))
unlike_by true m k p ds e h rest = (differs m p.id k e h, rest)
unlike_by false m k p ds e h rest = rest

unlike : (m k : ℕ) (ps : List (Option Post)) → m ≤ k → HaveIdsFrom k ps → AllByRecursion (λ y. nat_eq m y ≡ false) (ids (published_by_id ps))
unlike m k [] h f = tt
unlike m k (None ∷ ps) h f = unlike m (suc k) ps (omega arith) f.1
unlike m k (Some p ∷ ps) h f = unlike_by (is_publish p.status) m k p (published_by_id ps) f.0 h (unlike m (suc k) ps (omega arith) f.1)

once_by : (b : Bool) (p : Post) (ds : List Dated) → AllByRecursion (λ y. nat_eq p.id y ≡ false) (ids ds) → IsDistinct nat_eq (ids ds) → IsDistinct nat_eq (ids (with_listed (cond b (Some (record { date = p.date; id = p.id })) None) ds))
once_by true p ds h rest = IsDistinct-cons nat_eq p.id (ids ds) h rest
once_by false p ds h rest = rest

none_twice : IsDistinct nat_eq []
unfolding IsDistinct
none_twice = tt

once : (k : ℕ) (ps : List (Option Post)) → HaveIdsFrom k ps → IsDistinct nat_eq (ids (published_by_id ps))
once k [] f = none_twice
once k (None ∷ ps) f = once (suc k) ps f.1
once k (Some p ∷ ps) f = once_by (is_publish p.status) p (published_by_id ps) (unlike p.id (suc k) ps (omega (arith, f.0)) f.1) (once (suc k) ps f.1)

flips : (x y : ℕ) → nat_eq x y ≡ nat_eq y x
flips x y = grind (arith, nat_tests)

pub published_once : (posts : List (Option Post)) → HaveIds posts → IsDistinct nat_eq (published posts)
published_once posts h =
    IsDistinct-IsPermutation nat_eq flips (ids (published_by_id posts)) (published posts) (IsPermutation-map (λ (d : Dated). d.id) (published_by_id posts) (newest_first posts) (in_order posts).once)
    (once 0 posts (all_from posts h))
