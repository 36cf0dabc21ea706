use Rattle.std.proofs.Common.{sym}
use Rattle.press_posts.proofs.Keeping.{in_order, some_stand, is_among, empties}
use Rattle.press_posts.proofs.posts.Posts.empty.Goals as goal

pub overflow_sub-self : goal.overflow_sub-self
overflow_sub-self c =
    let r = rw (← c.self.view_is) at c.requires in
    some_stand _ _ _ _ c.args.id c.in_ok-post.post _ c.self.invariant r c.index_mut.ensures.value (sym c.in_ok-post.ensures.value)

pub take_out-requires-clause-order : goal.take_out-requires-clause-order
take_out-requires-clause-order c = in_order _ _ _ _ c.self.invariant

pub take_out-requires-clause-among : goal.take_out-requires-clause-among
take_out-requires-clause-among c =
    let r = rw (← c.self.view_is) at c.requires in
    rw c.to_dated.ensures (is_among _ _ _ _ c.args.id c.in_ok-post.post _ c.self.invariant r c.index_mut.ensures.value (sym c.in_ok-post.ensures.value))

pub invariant_of-self-2 : goal.invariant_of-self-2
invariant_of-self-2 c =
    let r = rw (← c.self.view_is) at c.requires in
    rw (c.take_out.ensures.capacity, c.take.ensures.after)
    (empties _ _ _ _ c.args.id c.in_ok-post.post _ _ (rw c.to_dated.ensures at c.take_out.ensures.items) c.self.invariant r c.index_mut.ensures.value (sym c.in_ok-post.ensures.value))
