-- What is kept beside the posts, so that a change looks at no others: how many there are, and the published ones in their order, the oldest first.
use Rattle.std.specs.Prelude.{◌≡◌, ℕ, ◌<◌, ◌≤◌, List, length, insert, remove, reverse, Bool, false, ◌&&◌, nat_eq, Option, Some, None}
use Rattle.std.specs.List.{prefix_len}
use Rattle.press_posts.specs.declared.post.Post.{Post}
use Rattle.press_posts.specs.declared.posts.Dated.{Dated}
use Rattle.press_posts.specs.PostChange.{is_publish, post_count}
use Rattle.press_posts.specs.Published.{is_older, newest_first}

unfoldable pub oldest_first : List (Option Post) → List Dated
oldest_first posts = reverse (newest_first posts)

-- behind the older ones
abbrev pub place_among : Dated → List Dated → ℕ
place_among d ds = prefix_len (λ e. is_older e d) ds

abbrev pub put_in : Option Dated → List Dated → List Dated
put_in None ds = ds
put_in (Some d) ds = insert ds (place_among d ds) d

abbrev pub take_out : Option Dated → List Dated → List Dated
take_out None ds = ds
take_out (Some d) ds = remove ds (place_among d ds)

-- what is to be taken out has a place
abbrev pub IsAmong : Option Dated → List Dated → Type 0
IsAmong None ds = Unit {0}
IsAmong (Some d) ds = place_among d ds < length ds

-- where both are published, with one date and one id
abbrev pub keeps_order : Option Post → Post → Bool
keeps_order None new = false
keeps_order (Some old) new = is_publish old.status && (is_publish new.status && (nat_eq old.date new.date && nat_eq old.id new.id))

-- room for as many published posts as there are places, so that a post at a place that was assigned takes no memory
pub record IsKept (posts : List (Option Post)) (count : ℕ) (order : List Dated) (room : ℕ) : Type 0 where
  pub counted : count ≡ post_count posts
  pub ordered : order ≡ oldest_first posts
  pub roomy : length posts ≤ room
