-- Posts have the ids of their places.
use Rattle.std.specs.Prelude.{◌≡◌, ℕ, List, Option, IfSome}
use Rattle.press_posts.specs.declared.post.Post.{Post}
use Rattle.press_posts.specs.PostChange.{post_at}

abbrev pub HaveIds : List (Option Post) → Type 0
HaveIds posts = (id : ℕ) → IfSome (post_at posts id) (λ p. p.id ≡ id)
