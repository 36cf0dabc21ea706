use Rattle.std.proofs.Common.{◌∙◌, subst, length, List, ℕ, ◌<◌}
use Rattle.press_posts.proofs.Keeping.{newest_of, on_err}
use Rattle.press_posts.proofs.posts.Posts.newest.Goals as goal

pub returns-clause-ids : goal.returns-clause-ids
returns-clause-ids c = rw (← c.self.view_is) (c.from_vec.ensures ∙ c.in_ok-ids.ensures.ids ∙ newest_of c.self.inside.places.items c.deref.result.now c.args.most (c.deref.ensures.value ∙ c.self.invariant.ordered))

pub returns-in_err-ids-clause-memory : goal.returns-in_err-ids-clause-memory
returns-in_err-ids-clause-memory c =
    rw (← c.self.view_is) (on_err c.from_residual.result
    (subst (λ (ids : List ℕ). 0 < length ids) (newest_of c.self.inside.places.items c.deref.result.now c.args.most (c.deref.ensures.value ∙ c.self.invariant.ordered)) c.in_err-ids.ensures.memory))
