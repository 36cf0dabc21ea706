-- What a change of a post's status fires (Plugin Handbook, Post Status Transitions: `transition_post_status`, `{old}_to_{new}`, `{new}_post`;
-- hook reference, `save_post`). The status of a post before its insert is `new`. The arguments are own.
use Rattle.std.specs.Prelude.{ℕ, List, [], ◌∷◌, ◌++◌, Option, Some, None, bytes_eq, codes, decimal, if◌then◌else◌}
use Rattle.press_posts.specs.declared.fire.Fire.{Fire}
use Rattle.press_posts.specs.declared.status.Status.{Status}
use Rattle.press_posts.specs.declared.status.Status.TheVariants.{Publish, Future, Draft, Pending, Private, Trash}

abbrev pub status_word : Status → List ℕ
status_word Publish = codes "publish"
status_word Future = codes "future"
status_word Draft = codes "draft"
status_word Pending = codes "pending"
status_word Private = codes "private"
status_word Trash = codes "trash"

-- the status of that word
abbrev pub status_named : List ℕ → Option Status
status_named word =
    if bytes_eq word (codes "publish") then Some Publish else
    (if bytes_eq word (codes "future") then Some Future else
    (if bytes_eq word (codes "draft") then Some Draft else
    (if bytes_eq word (codes "pending") then Some Pending else
    (if bytes_eq word (codes "private") then Some Private else
    (if bytes_eq word (codes "trash") then Some Trash else None)))))

abbrev pub old_word : Option Status → List ℕ
old_word None = codes "new"
old_word (Some status) = status_word status

-- the general action, which gets the new status and then the old one
abbrev pub general : Option Status → Status → ℕ → Fire
general old new id = record { hook = codes "transition_post_status"; args = status_word new ∷ old_word old ∷ decimal id ∷ [] }

abbrev pub transition_name : List ℕ → List ℕ → List ℕ
transition_name old new = old ++ (codes "_to_" ++ new)

abbrev pub transition_fire : Option Status → Status → ℕ → Fire
transition_fire old new id = record { hook = transition_name (old_word old) (status_word new); args = decimal id ∷ [] }

abbrev pub status_name : List ℕ → List ℕ
status_name new = new ++ codes "_post"

abbrev pub status_fire : Status → ℕ → Fire
status_fire new id = record { hook = status_name (status_word new); args = decimal id ∷ [] }

-- a transition fires these three, in this order, also where the statuses are the same
abbrev pub transition : Option Status → Status → ℕ → List Fire
transition old new id = general old new id ∷ transition_fire old new id ∷ status_fire new id ∷ []

-- `save_post` gets the id, and `1` for an update or the empty text for an insert
abbrev pub save_fire : ℕ → List ℕ → Fire
save_fire id update = record { hook = codes "save_post"; args = decimal id ∷ update ∷ [] }

abbrev pub insert_fires : Status → ℕ → List Fire
insert_fires new id = transition None new id ++ save_fire id [] ∷ []

abbrev pub update_fires : Status → Status → ℕ → List Fire
update_fires old new id = transition (Some old) new id ++ save_fire id (codes "1") ∷ []
