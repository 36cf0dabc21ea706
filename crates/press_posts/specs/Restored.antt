-- A change taken back: what was at an id's place before is there again.
use Rattle.std.specs.Prelude.{◌≡◌, ℕ, ◌+◌, ◌-◌, ◌≤◌, List, length, take, Option, Some, None, IfNone}
use Rattle.press_posts.specs.declared.post.Post.{Post}
use Rattle.press_posts.specs.PostChange.{Change, ChangeResult, post_at, put_at}
use Rattle.press_posts.specs.PostChange.Change.{Insert, Edit, Moves, Delete}

-- without a post, the last id goes back, and its place with it
abbrev pub restore_post : ℕ → Option Post → List (Option Post) → List (Option Post)
restore_post id (Some p) posts = put_at posts id (Some p)
restore_post id None posts = take (length posts - 1) posts

-- an id that was assigned
abbrev pub IsGiven : ℕ → List (Option Post) → Type 0
IsGiven id posts = (1 ≤ id) × (id ≤ length posts)

-- where a change may be taken back: the id was assigned, and without a post it is the last one
pub record IsRestorable (id : ℕ) (post : Option Post) (posts : List (Option Post)) : Type 0 where
  pub given : IsGiven id posts
  pub last : IfNone post (id ≡ length posts)

-- ---- what a change is taken back with

-- the id that it is about
abbrev pub changed_id : Change → List (Option Post) → ℕ
changed_id (Insert d) posts = length posts + 1
changed_id (Edit id d) posts = id
changed_id (Moves id move) posts = id
changed_id (Delete id) posts = id

-- the post that was there before it
abbrev pub post_before : Change → List (Option Post) → Option Post
post_before (Insert d) posts = None
post_before (Edit id d) posts = post_at posts id
post_before (Moves id move) posts = post_at posts id
post_before (Delete id) posts = post_at posts id

-- with these, a change that is done may be taken back, and the posts are as they were
pub record IsTakenBack (change : Change) (posts : List (Option Post)) (done : ChangeResult) : Type 0 where
  pub id : done.id ≡ changed_id change posts
  pub may : IsRestorable done.id (post_before change posts) done.posts
  pub back : restore_post done.id (post_before change posts) done.posts ≡ posts
