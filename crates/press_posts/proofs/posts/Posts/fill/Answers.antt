use Rattle.std.proofs.Common.{arith}
use Rattle.press_posts.proofs.Keeping.{in_order, few, has_room, fills}
use Rattle.press_posts.proofs.posts.Posts.fill.Goals as goal

pub put_in-requires-clause-order : goal.put_in-requires-clause-order
put_in-requires-clause-order c = in_order _ _ _ _ c.self.invariant

pub put_in-requires-clause-room : goal.put_in-requires-clause-room
put_in-requires-clause-room c =
    let r = rw (← c.self.view_is) at c.requires in
    let n = has_room _ _ _ _ c.args.id c.args.post c.self.invariant r.0 r.1 in
    omega arith

pub overflow_add-self : goal.overflow_add-self
overflow_add-self c =
    let r = rw (← c.self.view_is) at c.requires in
    let n = few _ _ _ _ c.args.id c.args.post c.self.invariant r.0 r.1 in
    omega arith

pub invariant_of-self : goal.invariant_of-self
invariant_of-self c =
    let r = rw (← c.self.view_is) at c.requires in
    rw c.put_in.ensures.capacity (fills _ _ _ _ c.args.id c.args.post _ (rw c.to_dated.ensures at c.put_in.ensures.items) c.self.invariant r.0 r.1)
