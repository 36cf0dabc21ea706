-- A site as one value: its moment and profile; posts, each at the place of its id; events by time, then by scheduling; options by name; active plugins by
-- name; and what became of each command, by token.
use Rattle.std.specs.Prelude.{ℕ, List, Option}
use Rattle.press_events.specs.declared.event.Event.{Event}
use Rattle.press_posts.specs.declared.post.Post.{Post}
use Rattle.press_site.specs.declared.token.Outcome.{Outcome}
use Rattle.press_site.specs.declared.token.Token.{Token}

pub record SiteView : Type 0 where
  pub moment : ℕ
  pub profile : ℕ
  pub posts : List (Option Post)
  pub events : List Event
  pub options : List (List ℕ × List ℕ)
  pub active : List (List ℕ)
  pub outcomes : List (Token × Outcome)
