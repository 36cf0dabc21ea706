-- A change leaves posts with the ids of their places.
use Rattle.std.proofs.Common.{◌≡◌, refl, subst, ℕ, zero, suc, ◌+◌, ◌-◌, ◌≤◌, List, [], ◌∷◌, ◌++◌, length, get_or, set, cond, Bool, true, false, Option, Some, None, Result, Ok, Err, arith}
use Rattle.std.specs.Prelude.{IfSome, IfOk}
use Rattle.press_posts.specs.declared.fault.PostFault.{PostFault}
use Rattle.press_posts.specs.declared.fault.PostFault.TheVariants.{NotTrashed}
use Rattle.press_posts.specs.declared.post.Post.{Post}
use Rattle.press_posts.specs.declared.status.Status.{Status}
use Rattle.press_posts.specs.Ids.{HaveIds}
use Rattle.press_posts.specs.PostChange.{Change, ChangeResult, post_change, post_at, put_at, unless, of_post, insert_fault, edit_fault, insert_post, edit_post, delete_post, post_of, status_after_move, move_post, is_trash}
use Rattle.press_posts.specs.PostChange.Change.{Insert, Edit, Moves, Delete}
use Rattle.press_posts.proofs.Once.{HaveIdsFrom, all_from}

abbrev HasId : ℕ → Option Post → Type 0
HasId n p = IfSome p (λ q. q.id ≡ n)

at_from : (k : ℕ) (ps : List (Option Post)) (i : ℕ) → HaveIdsFrom k ps → HasId (suc (k + i)) (get_or ps i None)
at_from k [] i f = tt
at_from k (p ∷ ps) zero f = let on : suc k ≡ suc (k + 0) = omega arith in subst (λ n. HasId n p) on f.0
at_from k (p ∷ ps) (suc i) f = let on : suc (suc k + i) ≡ suc (k + suc i) = omega arith in subst (λ n. HasId n (get_or ps i None)) on (at_from (suc k) ps i f.1)

from_all : (posts : List (Option Post)) → HaveIdsFrom 0 posts → HaveIds posts
from_all posts f zero = tt
from_all posts f (suc i) = let on : suc (0 + i) ≡ suc i = omega arith in subst (λ n. HasId n (get_or posts i None)) on (at_from 0 posts i f)

set_from : (k : ℕ) (ps : List (Option Post)) (i : ℕ) (q : Option Post) → HasId (suc (k + i)) q → HaveIdsFrom k ps → HaveIdsFrom k (set ps i q)
set_from k [] i q h f = tt
set_from k (p ∷ ps) zero q h f = let on : suc (k + 0) ≡ suc k = omega arith in (subst (λ n. HasId n q) on h, f.1)
set_from k (p ∷ ps) (suc i) q h f = let on : suc (k + suc i) ≡ suc (suc k + i) = omega arith in (f.0, set_from (suc k) ps i q (subst (λ n. HasId n q) on h) f.1)

more_from : (k : ℕ) (ps : List (Option Post)) (q : Option Post) → HasId (suc (k + length ps)) q → HaveIdsFrom k ps → HaveIdsFrom k (ps ++ q ∷ [])
more_from k [] q h f = let on : suc (k + 0) ≡ suc k = omega arith in (subst (λ n. HasId n q) on h, tt)
more_from k (p ∷ ps) q h f = let on : suc (k + length (p ∷ ps)) ≡ suc (suc k + length ps) = omega arith in (f.0, more_from (suc k) ps q (subst (λ n. HasId n q) on h) f.1)

put_ids : (posts : List (Option Post)) (id : ℕ) (q : Option Post) → 1 ≤ id → HasId id q → HaveIds posts → HaveIds (put_at posts id q)
put_ids posts id q some h f =
    let on : id ≡ suc (0 + (id - 1)) = omega arith in
    from_all (put_at posts id q) (set_from 0 posts (id - 1) q (subst (λ n. HasId n q) on h) (all_from posts f))

more_ids : (posts : List (Option Post)) (q : Option Post) → HasId (length posts + 1) q → HaveIds posts → HaveIds (posts ++ q ∷ [])
more_ids posts q h f =
    let on : length posts + 1 ≡ suc (0 + length posts) = omega arith in
    from_all (posts ++ q ∷ []) (more_from 0 posts q (subst (λ n. HasId n q) on h) (all_from posts f))

-- ---- by cases on what a change comes to

abbrev Keep : Result ChangeResult PostFault → Type 0
Keep meant = IfOk meant (λ c. HaveIds c.posts)

keep_unless : (o : Option PostFault) (c : ChangeResult) → HaveIds c.posts → Keep (unless o c)
keep_unless None c h = h
keep_unless (Some f) c h = tt

keep_of : (o : Option Post) (f : Post → Result ChangeResult PostFault) → ((p : Post) → o ≡ Some p → Keep (f p)) → Keep (of_post o f)
keep_of None f h = tt
keep_of (Some p) f h = h p refl

some_id : (posts : List (Option Post)) (id : ℕ) (p : Post) → post_at posts id ≡ Some p → 1 ≤ id
some_id posts zero p e = absurd (cc)
some_id posts (suc i) p e = omega arith

own_id : (posts : List (Option Post)) (id : ℕ) (p : Post) → HaveIds posts → post_at posts id ≡ Some p → p.id ≡ id
own_id posts id p f e = subst (HasId id) e (f id)

moved_by : (r : Result (Option Status) PostFault) (posts : List (Option Post)) (id : ℕ) (p : Post) → HaveIds posts → post_at posts id ≡ Some p → Keep (move_post id r p posts)
moved_by (Ok (Some status)) posts id p f e = put_ids posts id _ (some_id posts id p e) (own_id posts id p f e) f
moved_by (Ok None) posts id p f e = f
moved_by (Err fault) posts id p f e = tt

deleted_by : (b : Bool) (posts : List (Option Post)) (id : ℕ) (p : Post) → HaveIds posts → post_at posts id ≡ Some p → Keep (cond b (Ok (delete_post id posts)) (Err NotTrashed))
deleted_by true posts id p f e = put_ids posts id None (some_id posts id p e) tt f
deleted_by false posts id p f e = tt

pub keep_ids : (posts : List (Option Post)) (change : Change) (now : ℕ) → HaveIds posts → IfOk (post_change posts change now) (λ c. HaveIds c.posts)
keep_ids posts (Insert d) now f = keep_unless (insert_fault d posts) (insert_post (post_of (length posts + 1) d now) posts) (more_ids posts _ refl f)
keep_ids posts (Edit id d) now f =
    keep_of (post_at posts id) _
    (λ p e. keep_unless (edit_fault d p) (edit_post (post_of id d now) p posts) (put_ids posts id _ (some_id posts id p e) refl f))
keep_ids posts (Moves id move) now f = keep_of (post_at posts id) _ (λ p e. moved_by (status_after_move move p) posts id p f e)
keep_ids posts (Delete id) now f = keep_of (post_at posts id) _ (λ p e. deleted_by (is_trash p.status) posts id p f e)
