use Rattle.std.proofs.Common.{◌∙◌, ◌-◌, Some, None, set-set}
use Rattle.press_posts.specs.PostChange.{with_status}
use Rattle.press_posts.proofs.posts.Posts.turn.Goals as goal

pub returns-clause-ok : goal.returns-clause-ok
returns-clause-ok c =
    rw (← c.in-Some.ensures.post) (c.fill.ensures ∙ rw c.in-Some.ensures.after (set-set c.args.self.now (c.args.id - 1) None (Some (with_status c.args.status c.in-Some.post))))
