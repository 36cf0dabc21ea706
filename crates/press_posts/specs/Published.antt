-- The published posts, newest date first, then greatest id (the order of a front page; own where dates are the same).
use Rattle.std.specs.Prelude.{◌≡◌, ℕ, ◌-◌, List, reverse, IsPermutation, false, [], ◌∷◌, length, insert, map, Bool, ◌&&◌, ◌||◌, nat_lt, nat_eq, if◌then◌else◌, Option, Some, None}
use Rattle.std.specs.List.{suffix_len}
use Rattle.press_posts.specs.declared.post.Post.{Post}
use Rattle.press_posts.specs.declared.posts.Dated.{Dated}
use Rattle.press_posts.specs.PostChange.{is_publish}

abbrev pub dated_of : Option Post → Option Dated
dated_of None = None
dated_of (Some p) = if is_publish p.status then Some (record { date = p.date; id = p.id }) else None

abbrev pub is_older : Dated → Dated → Bool
is_older a b = nat_lt a.date b.date || (nat_eq a.date b.date && nat_lt a.id b.id)

-- before the older ones at the end
abbrev pub place_in : Dated → List Dated → ℕ
place_in d ds = length ds - suffix_len (λ e. is_older e d) ds

abbrev pub with_dated : Option Dated → List Dated → List Dated
with_dated None ds = ds
with_dated (Some d) ds = insert ds (place_in d ds) d

abbrev pub newest_first : List (Option Post) → List Dated
newest_first [] = []
newest_first (p ∷ ps) = with_dated (dated_of p) (newest_first ps)

abbrev pub published : List (Option Post) → List ℕ
published posts = map (λ (d : Dated). d.id) (newest_first posts)

-- ---- what the order is: each published post once, and read from the end, none is older than one before it

abbrev pub with_listed : Option Dated → List Dated → List Dated
with_listed None ds = ds
with_listed (Some d) ds = d ∷ ds

-- the published posts in the order of their ids
abbrev pub published_by_id : List (Option Post) → List Dated
published_by_id [] = []
published_by_id (p ∷ ps) = with_listed (dated_of p) (published_by_id ps)

abbrev pub NoneOlder : Dated → List Dated → Type 0
NoneOlder d [] = Unit {0}
NoneOlder d (e ∷ es) = (is_older e d ≡ false) × NoneOlder d es

abbrev pub IsOldestFirst : List Dated → Type 0
IsOldestFirst [] = Unit {0}
IsOldestFirst (d ∷ ds) = NoneOlder d ds × IsOldestFirst ds

pub record IsInOrder (posts : List (Option Post)) : Type 0 where
  pub once : IsPermutation (published_by_id posts) (newest_first posts)
  pub order : IsOldestFirst (reverse (newest_first posts))
