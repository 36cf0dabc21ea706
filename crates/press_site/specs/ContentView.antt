-- Posts, each at the place of its id, and scheduled events by time, then in the order in which they were scheduled.
use Rattle.std.specs.Prelude.{List, Option}
use Rattle.press_events.specs.declared.event.Event.{Event}
use Rattle.press_posts.specs.declared.post.Post.{Post}

pub record ContentView : Type 0 where
  pub posts : List (Option Post)
  pub events : List Event
