-- Worked rows, computed by the definitions.
use Rattle.std.specs.Prelude.{◌≡◌, refl, ℕ, List, [], ◌∷◌, Bool, true, false, Option, Some, None, Result, Ok, Err, codes, decimal}
use Rattle.press_posts.specs.declared.fault.PostFault.{PostFault}
use Rattle.press_posts.specs.declared.fault.PostFault.TheVariants.{NoSuchPost, NotTrashed, IsTrashed}
use Rattle.press_posts.specs.declared.fire.Fire.{Fire}
use Rattle.press_posts.specs.declared.post.Move.TheVariants as move
use Rattle.press_posts.specs.declared.post.Post.{Post}
use Rattle.press_posts.specs.declared.status.Status.TheVariants.{Publish, Draft}
use Rattle.press_posts.specs.PostChange.{Change, ChangeResult, post_change}
use Rattle.press_posts.specs.PostChange.Change.{Insert, Edit, Moves, Delete}
use Rattle.press_posts.specs.Published.{published}

abbrev Posts : Type 0
Posts = List (Option Post)

-- the posts after a change; none where it is refused
abbrev posts_after : Result ChangeResult PostFault → Posts
posts_after (Ok c) = c.posts
posts_after (Err fault) = []

abbrev then : Posts → Change → ℕ → Posts
then posts change now = posts_after (post_change posts change now)

-- the id, the fires, whether the events go and when one comes
abbrev told : Result ChangeResult PostFault → Result (ℕ × (List Fire × (Bool × Option ℕ))) PostFault
told (Ok c) = Ok (c.id, (c.fires, (c.goes, c.comes)))
told (Err fault) = Err fault

abbrev fire : List ℕ → List (List ℕ) → Fire
fire hook args = record { hook = hook; args = args }

abbrev transits : List ℕ → List ℕ → List (List ℕ) → Fire
transits new old args = fire (codes "transition_post_status") (new ∷ old ∷ args)

-- ---- a scheduled post

abbrev dated : ℕ → Change
dated date = Insert (record { title = codes "x"; content = codes "y"; status = Publish; date = date })

abbrev one : Posts
one = then [] (dated 100) 100

abbrev two : Posts
two = then one (dated 101) 100

first_is_published : told (post_change [] (dated 100) 100) ≡ Ok (
  1,
  (
    transits (codes "publish") (codes "new") (decimal 1 ∷ []) ∷ fire (codes "new_to_publish") (decimal 1 ∷ []) ∷ fire (codes "publish_post") (decimal 1 ∷ []) ∷ fire (codes "save_post") (decimal 1 ∷ [] ∷ []) ∷ [],
    (true, None),
  ),
)
first_is_published = refl

second_is_future : told (post_change one (dated 101) 100) ≡ Ok (
  2,
  (
    transits (codes "future") (codes "new") (decimal 2 ∷ []) ∷ fire (codes "new_to_future") (decimal 2 ∷ []) ∷ fire (codes "future_post") (decimal 2 ∷ []) ∷ fire (codes "save_post") (decimal 2 ∷ [] ∷ []) ∷ [],
    (true, Some 101),
  ),
)
second_is_future = refl

not_due : told (post_change two (Moves 2 (move.PublishDue 100)) 100) ≡ Ok (2, ([], (false, None)))
not_due = refl

due : told (post_change two (Moves 2 (move.PublishDue 101)) 101) ≡ Ok (
  2,
  (
    transits (codes "publish") (codes "future") (decimal 2 ∷ []) ∷ fire (codes "future_to_publish") (decimal 2 ∷ []) ∷ fire (codes "publish_post") (decimal 2 ∷ []) ∷ [],
    (true, None),
  ),
)
due = refl

due_once : told (post_change (then two (Moves 2 (move.PublishDue 101)) 101) (Moves 2 (move.PublishDue 101)) 101) ≡ Ok (2, ([], (false, None)))
due_once = refl

published_already : told (post_change two (Moves 1 (move.PublishDue 101)) 101) ≡ Ok (1, ([], (false, None)))
published_already = refl

-- the newest date, then the greatest id
in_order : published (then (then two (dated 99) 100) (dated 100) 100) ≡ 4 ∷ 1 ∷ 3 ∷ []
in_order = refl

-- ---- refusals

abbrev drafted : Change
drafted = Edit 1 (record { title = codes "x"; content = codes "y"; status = Draft; date = 100 })

abbrev trashed : Posts
trashed = then one (Moves 1 move.Trash) 100

no_such_post : told (post_change one (Edit 9 (record { title = codes "x"; content = codes "y"; status = Draft; date = 100 })) 100) ≡ Err NoSuchPost
no_such_post = refl

to_draft : told (post_change one drafted 100) ≡ Ok (
  1,
  (
    transits (codes "draft") (codes "publish") (decimal 1 ∷ []) ∷ fire (codes "publish_to_draft") (decimal 1 ∷ []) ∷ fire (codes "draft_post") (decimal 1 ∷ []) ∷ fire (codes "save_post") (decimal 1 ∷ codes "1" ∷ []) ∷ [],
    (true, None),
  ),
)
to_draft = refl

not_trashed : told (post_change one (Delete 1) 100) ≡ Err NotTrashed
not_trashed = refl

to_trash : told (post_change one (Moves 1 move.Trash) 100) ≡ Ok (
  1,
  (
    transits (codes "trash") (codes "publish") (decimal 1 ∷ []) ∷ fire (codes "publish_to_trash") (decimal 1 ∷ []) ∷ fire (codes "trash_post") (decimal 1 ∷ []) ∷ [],
    (true, None),
  ),
)
to_trash = refl

trashed_once : told (post_change trashed (Moves 1 move.Trash) 100) ≡ Err IsTrashed
trashed_once = refl

deletes : told (post_change trashed (Delete 1) 100) ≡ Ok (1, ([], (true, None)))
deletes = refl

abbrev id_of : Result ChangeResult PostFault → ℕ
id_of (Ok c) = c.id
id_of (Err fault) = 0

next_is_two : id_of (post_change (then trashed (Delete 1) 100) (dated 100) 100) ≡ 2
next_is_two = refl
