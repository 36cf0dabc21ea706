use Rattle.std.proofs.Common.{arith}
use Rattle.press_posts.proofs.Keeping.{longer}
use Rattle.press_posts.proofs.posts.Posts.add_place.Goals as goal

pub invariant_of-self-2 : goal.invariant_of-self-2
invariant_of-self-2 c = rw c.in_ok-push.ensures.items (longer _ _ _ _ _ _ c.in_ok-make_room.ensures.items (omega (arith, c.in_ok-make_room.ensures.room)) c.self.invariant)
