-- What a change of posts comes to: the posts after it, what it fires, and which events of `publish_future_post` go and come; or the first refusal
-- (Plugin Handbook, Post Status Transitions; ids, limits, the trash and the order of refusals are own).
-- A post is at a place for good: ids are 1, 2, .. by place, and the place of a deleted post stays empty.
use Rattle.std.specs.Prelude.{◌≡◌, ℕ, zero, suc, ◌+◌, ◌-◌, ◌^◌, List, [], ◌∷◌, ◌++◌, length, filter, set, slice_index_or, Bool, true, false, ◌&&◌, ◌||◌, nat_lt, nat_le, if◌then◌else◌, Option, Some, None, is_some, Result, Ok, Err, MatchResult}
use Rattle.press_posts.specs.declared.draft.Draft as draft
use Rattle.press_posts.specs.declared.fault.PostFault.{PostFault}
use Rattle.press_posts.specs.declared.fault.PostFault.TheVariants.{NoMemory, TooLong, NoSuchPost, NotTrashed, IsTrashed, TooManyPosts}
use Rattle.press_posts.specs.declared.fire.Fire.{Fire}
use Rattle.press_posts.specs.declared.post.Move.{Move}
use Rattle.press_posts.specs.declared.post.Move.TheVariants as move
use Rattle.press_posts.specs.declared.post.Post.{Post}
use Rattle.press_posts.specs.declared.status.Status.{Status}
use Rattle.press_posts.specs.declared.status.Status.TheVariants.{Publish, Future, Draft, Pending, Private, Trash}
use Rattle.press_posts.specs.Transitions.{transition, insert_fires, update_fires}

pub data Change : Type 0 where
  Insert : (draft : draft.Draft) → Change
  Edit : (id : ℕ) (draft : draft.Draft) → Change
  Moves : (id : ℕ) (move : Move) → Change
  Delete : (id : ℕ) → Change

-- what is fired, and of the events of `publish_future_post` with this id as argument: whether they go, and then the moment of the one that comes
pub record ChangeResult : Type 0 where
  pub posts : List (Option Post)
  pub id : ℕ
  pub fires : List Fire
  pub goes : Bool
  pub comes : Option ℕ

-- ---- statuses

abbrev pub is_trash : Status → Bool
is_trash Trash = true
is_trash Publish = false
is_trash Future = false
is_trash Draft = false
is_trash Pending = false
is_trash Private = false

abbrev pub is_future : Status → Bool
is_future Future = true
is_future Publish = false
is_future Draft = false
is_future Pending = false
is_future Private = false
is_future Trash = false

abbrev pub is_publish : Status → Bool
is_publish Publish = true
is_publish Future = false
is_publish Draft = false
is_publish Pending = false
is_publish Private = false
is_publish Trash = false

-- publish dated strictly after now becomes future, and future dated not after now becomes publish
abbrev pub settle_status : Status → ℕ → ℕ → Status
settle_status Publish date now = if nat_lt now date then Future else Publish
settle_status Future date now = if nat_lt now date then Future else Publish
settle_status Draft date now = Draft
settle_status Pending date now = Pending
settle_status Private date now = Private
settle_status Trash date now = Trash

abbrev pub is_due : ℕ → Post → Bool
is_due now p = is_future p.status && nat_le p.date now

-- ---- places

-- the post of an id
abbrev pub post_at : List (Option Post) → ℕ → Option Post
post_at posts zero = None
post_at posts (suc i) = slice_index_or posts i None

abbrev pub put_at : List (Option Post) → ℕ → Option Post → List (Option Post)
put_at posts id post = set posts (id - 1) post

-- the posts that exist
abbrev pub post_count : List (Option Post) → ℕ
post_count posts = length (filter (λ p. is_some p) posts)

-- ---- refusals

abbrev pub is_too_long : draft.Draft → Bool
is_too_long d = nat_lt 1024 (length d.title) || nat_lt 65536 (length d.content)

-- also where no greater id is left
abbrev pub is_full : List (Option Post) → Bool
is_full posts = nat_le 10000 (post_count posts) || nat_le (2 ^ 64 - 1) (length posts)

abbrev pub insert_fault : draft.Draft → List (Option Post) → Option PostFault
insert_fault d posts =
    if is_trash d.status then Some IsTrashed else
    (if is_too_long d then Some TooLong else
    (if is_full posts then Some TooManyPosts else None))

abbrev pub edit_fault : draft.Draft → Post → Option PostFault
edit_fault d p =
    if is_trash p.status || is_trash d.status then Some IsTrashed else
    (if is_too_long d then Some TooLong else None)

-- ---- changes

-- the event comes where the new status is future
abbrev pub comes : Status → ℕ → Option ℕ
comes status date = if is_future status then Some date else None

-- the post of an id that a draft gives at a moment
abbrev pub post_of : ℕ → draft.Draft → ℕ → Post
post_of id d now = record { id = id; title = d.title; content = d.content; status = settle_status d.status d.date now; date = d.date }

abbrev pub insert_post : Post → List (Option Post) → ChangeResult
insert_post new posts =
    record { posts = posts ++ Some new ∷ []; id = new.id; fires = insert_fires new.status new.id; goes = true; comes = comes new.status new.date }

abbrev pub edit_post : Post → Post → List (Option Post) → ChangeResult
edit_post new old posts =
    record { posts = put_at posts new.id (Some new); id = new.id; fires = update_fires old.status new.status new.id; goes = true; comes = comes new.status new.date }

abbrev pub with_status : Status → Post → Post
with_status status p = record p { status = status }

abbrev pub set_post_status : ℕ → Status → Post → List (Option Post) → ChangeResult
set_post_status id status p posts =
    record { posts = put_at posts id (Some (with_status status p)); id = id; fires = transition (Some p.status) status id; goes = true; comes = comes status p.date }

abbrev pub leave_post : ℕ → List (Option Post) → ChangeResult
leave_post id posts = record { posts = posts; id = id; fires = []; goes = false; comes = None }

-- the status that a move gives; none where it leaves the post as it is
abbrev pub status_after_move : Move → Post → Result (Option Status) PostFault
status_after_move move.Trash p = if is_trash p.status then Err IsTrashed else Ok (Some Trash)
status_after_move move.Untrash p = if is_trash p.status then Ok (Some Draft) else Err NotTrashed
status_after_move (move.PublishDue now) p = if is_trash p.status then Err IsTrashed else (if is_due now p then Ok (Some Publish) else Ok None)

abbrev pub move_post : ℕ → Result (Option Status) PostFault → Post → List (Option Post) → Result ChangeResult PostFault
move_post id (Ok (Some status)) p posts = Ok (set_post_status id status p posts)
move_post id (Ok None) p posts = Ok (leave_post id posts)
move_post id (Err fault) p posts = Err fault

abbrev pub delete_post : ℕ → List (Option Post) → ChangeResult
delete_post id posts = record { posts = put_at posts id None; id = id; fires = []; goes = true; comes = None }

abbrev pub unless : Option PostFault → ChangeResult → Result ChangeResult PostFault
unless None c = Ok c
unless (Some fault) c = Err fault

-- what becomes of the post, where it exists
abbrev pub of_post : Option Post → (Post → Result ChangeResult PostFault) → Result ChangeResult PostFault
of_post None change = Err NoSuchPost
of_post (Some p) change = change p

abbrev pub post_change : List (Option Post) → Change → ℕ → Result ChangeResult PostFault
post_change posts (Insert d) now = unless (insert_fault d posts) (insert_post (post_of (length posts + 1) d now) posts)
post_change posts (Edit id d) now = of_post (post_at posts id) (λ p. unless (edit_fault d p) (edit_post (post_of id d now) p posts))
post_change posts (Moves id move) now = of_post (post_at posts id) (λ p. move_post id (status_after_move move p) p posts)
post_change posts (Delete id) now = of_post (post_at posts id) (λ p. if is_trash p.status then Ok (delete_post id posts) else Err NotTrashed)

-- ---- what a call answers: a part of the change, and the posts are those after it; or its refusal, and they are as they were.
-- Out of memory comes only where something is fired.

abbrev pub GivesPart : {A : Type 0} → (ChangeResult → A) → A → List (Option Post) → Result ChangeResult PostFault → Type 0
GivesPart part answer new (Ok c) = (answer ≡ part c) × (new ≡ c.posts)
GivesPart part answer new (Err f) = ⊥

abbrev pub is_fired : List Fire → Bool
is_fired [] = false
is_fired (f ∷ fs) = true

abbrev pub Fires : Result ChangeResult PostFault → Type 0
Fires (Ok c) = is_fired c.fires ≡ true
Fires (Err f) = ⊥

abbrev pub Refuses : PostFault → Result ChangeResult PostFault → Type 0
Refuses NoMemory meant = Fires meant
Refuses TooLong meant = meant ≡ Err TooLong
Refuses NoSuchPost meant = meant ≡ Err NoSuchPost
Refuses NotTrashed meant = meant ≡ Err NotTrashed
Refuses IsTrashed meant = meant ≡ Err IsTrashed
Refuses TooManyPosts meant = meant ≡ Err TooManyPosts

abbrev pub Changes : {A : Type 0} → (ChangeResult → A) → Result A PostFault → Result ChangeResult PostFault → List (Option Post) → List (Option Post) → Type 0
Changes part result meant old new = MatchResult result (λ answer. GivesPart part answer new meant) (λ fault. Refuses fault meant × (new ≡ old))
