use Rattle.std.proofs.Common.{sym, ◌∙◌, ◌-◌, Some, None, set-set}
use Rattle.press_posts.proofs.Keeping.{replaced}
use Rattle.press_posts.proofs.posts.Posts.put.Goals as goal

pub invariant_of-self : goal.invariant_of-self
invariant_of-self c =
    let same = sym c.keeps_order.ensures ∙ c.if-keeps_order.true in
    replaced _ _ _ _ c.args.id c.args.post (rw (← c.self.view_is) at same) c.self.invariant (rw (← c.self.view_is) at c.requires)

pub returns : goal.returns
returns c = c.fill.ensures ∙ rw c.empty.ensures.after (set-set c.args.self.now (c.args.id - 1) None (Some c.args.post))
