-- Each change that is done is taken back.
use Rattle.std.proofs.Common.{◌≡◌, refl, sym, ◌∙◌, ap, ℕ, zero, suc, ◌+◌, ◌-◌, ◌<◌, List, [], ◌∷◌, ◌++◌, length, get_or, set, cond, Bool, true, false, Option, Some, None, Result, Ok, Err, arith, length-append, length-set, set-set, take_at}
use Rattle.std.specs.Prelude.{IfOk}
use Rattle.std.proofs.lemmas.List.{set-get_or}
use Rattle.press_posts.specs.declared.draft.Draft.{Draft}
use Rattle.press_posts.specs.declared.fault.PostFault.{PostFault}
use Rattle.press_posts.specs.declared.fault.PostFault.TheVariants.{NotTrashed}
use Rattle.press_posts.specs.declared.post.Move.{Move}
use Rattle.press_posts.specs.declared.post.Post.{Post}
use Rattle.press_posts.specs.declared.status.Status.{Status}
use Rattle.press_posts.specs.PostChange.{Change, ChangeResult, post_change, post_at, put_at, unless, of_post, insert_fault, edit_fault, insert_post, edit_post, set_post_status, leave_post, delete_post, post_of, status_after_move, move_post, is_trash}
use Rattle.press_posts.specs.PostChange.Change.{Insert, Edit, Moves, Delete}
use Rattle.press_posts.specs.Restored.{restore_post, changed_id, post_before, IsGiven, IsRestorable, IsTakenBack}
use Rattle.press_posts.proofs.Keeping.{at_place}

given_by : (posts : List (Option Post)) (i : ℕ) (p : Post) → get_or posts i None ≡ Some p → i < length posts
given_by [] i p e = absurd (cc)
given_by (q ∷ qs) zero p e = omega arith
given_by (q ∷ qs) (suc i) p e = let h = given_by qs i p e in omega arith

given : (posts : List (Option Post)) (id : ℕ) (p : Post) → post_at posts id ≡ Some p → IsGiven id posts
given posts zero p e = absurd (cc)
given posts (suc i) p e = let h = given_by posts i p e in (omega arith, omega arith)

there : (posts : List (Option Post)) (id : ℕ) (p : Post) → post_at posts id ≡ Some p → Some p ≡ get_or posts (id - 1) None
there posts id p e = sym e ∙ at_place posts id (given posts id p e).0

-- ---- a post put at its place again

may : (posts after : List (Option Post)) (id : ℕ) (p : Post) → post_at posts id ≡ Some p → length after ≡ length posts → IsRestorable id (Some p) after
may posts after id p e len = let g = given posts id p e in record { given = (g.0, omega (arith, g.1)); last = tt }

kept : (posts : List (Option Post)) (id : ℕ) (p : Post) → post_at posts id ≡ Some p → restore_post id (Some p) posts ≡ posts
kept posts id p e = ap (λ (o : Option Post). set posts (id - 1) o) (there posts id p e) ∙ set-get_or posts (id - 1) None

back : (posts : List (Option Post)) (id : ℕ) (p : Post) (q : Option Post) → post_at posts id ≡ Some p → restore_post id (Some p) (put_at posts id q) ≡ posts
back posts id p q e = set-set posts (id - 1) q (Some p) ∙ kept posts id p e

-- ---- by cases on what a change comes to

abbrev Taken : Change → List (Option Post) → Result ChangeResult PostFault → Type 0
Taken change posts meant = IfOk meant (IsTakenBack change posts)

taken_unless : (change : Change) (posts : List (Option Post)) (o : Option PostFault) (c : ChangeResult) → IsTakenBack change posts c → Taken change posts (unless o c)
taken_unless change posts None c h = h
taken_unless change posts (Some f) c h = tt

taken_of : (change : Change) (posts : List (Option Post)) (o : Option Post) (f : Post → Result ChangeResult PostFault) → ((p : Post) → o ≡ Some p → Taken change posts (f p)) → Taken change posts (of_post o f)
taken_of change posts None f h = tt
taken_of change posts (Some p) f h = h p refl

-- ---- an insert

long : (posts : List (Option Post)) (q : Option Post) → length (posts ++ q ∷ []) ≡ length posts + 1
long posts q = omega (arith, length-append posts (q ∷ []))

may_last : (posts : List (Option Post)) (q : Option Post) → IsRestorable (length posts + 1) None (posts ++ q ∷ [])
may_last posts q = record { given = (omega arith, omega (arith, long posts q)); last = sym (long posts q) }

back_last : (posts : List (Option Post)) (q : Option Post) → restore_post (length posts + 1) None (posts ++ q ∷ []) ≡ posts
back_last posts q = take_at posts (q ∷ []) (length (posts ++ q ∷ []) - 1) (omega (arith, long posts q))

insert_taken : (posts : List (Option Post)) (d : Draft) (now : ℕ) → Taken (Insert d) posts (post_change posts (Insert d) now)
insert_taken posts d now =
    taken_unless (Insert d) posts (insert_fault d posts) (insert_post (post_of (length posts + 1) d now) posts)
    (record { id = refl; may = may_last posts _; back = back_last posts _ })

-- ---- any other

put_taken : (change : Change) (posts : List (Option Post)) (id : ℕ) (p : Post) (q : Option Post) (c : ChangeResult) → changed_id change posts ≡ id → post_before change posts ≡ Some p → post_at posts id ≡ Some p → c.id ≡ id → c.posts ≡ put_at posts id q → IsTakenBack change posts c
put_taken change posts id p q c here old e same new = record {
  id = same ∙ sym here;
  may = rw (same, old, new) (may posts (put_at posts id q) id p e (length-set posts (id - 1) q));
  back = rw (same, old, new) (back posts id p q e);
}

edit_taken : (posts : List (Option Post)) (id : ℕ) (d : Draft) (now : ℕ) → Taken (Edit id d) posts (post_change posts (Edit id d) now)
edit_taken posts id d now =
    taken_of (Edit id d) posts (post_at posts id) _
    (λ p e. taken_unless (Edit id d) posts (edit_fault d p) (edit_post (post_of id d now) p posts)
    (put_taken (Edit id d) posts id p _ (edit_post (post_of id d now) p posts) refl e e refl refl))

moved_by : (r : Result (Option Status) PostFault) (posts : List (Option Post)) (id : ℕ) (move : Move) (p : Post) → post_at posts id ≡ Some p → Taken (Moves id move) posts (move_post id r p posts)
moved_by (Ok (Some status)) posts id move p e = put_taken (Moves id move) posts id p _ (set_post_status id status p posts) refl e e refl refl
moved_by (Ok None) posts id move p e = put_taken (Moves id move) posts id p (Some p) (leave_post id posts) refl e e refl (sym (kept posts id p e))
moved_by (Err fault) posts id move p e = tt

move_taken : (posts : List (Option Post)) (id : ℕ) (move : Move) (now : ℕ) → Taken (Moves id move) posts (post_change posts (Moves id move) now)
move_taken posts id move now = taken_of (Moves id move) posts (post_at posts id) _ (λ p e. moved_by (status_after_move move p) posts id move p e)

delete_by : (b : Bool) (posts : List (Option Post)) (id : ℕ) (p : Post) → post_at posts id ≡ Some p → Taken (Delete id) posts (cond b (Ok (delete_post id posts)) (Err NotTrashed))
delete_by true posts id p e = put_taken (Delete id) posts id p None (delete_post id posts) refl e e refl refl
delete_by false posts id p e = tt

delete_taken : (posts : List (Option Post)) (id now : ℕ) → Taken (Delete id) posts (post_change posts (Delete id) now)
delete_taken posts id now = taken_of (Delete id) posts (post_at posts id) _ (λ p e. delete_by (is_trash p.status) posts id p e)

pub taken_back : (posts : List (Option Post)) (change : Change) (now : ℕ) → IfOk (post_change posts change now) (IsTakenBack change posts)
taken_back posts (Insert d) now = insert_taken posts d now
taken_back posts (Edit id d) now = edit_taken posts id d now
taken_back posts (Moves id move) now = move_taken posts id move now
taken_back posts (Delete id) now = delete_taken posts id now
