use Rattle.std.proofs.Common.{rules, ◌∙◌, ap, take, ℕ}
use Rattle.std.proofs.lemmas.Result.{IfOk-weaker}
use Rattle.press_posts.specs.Published.{published}
use Rattle.press_posts.proofs.Keeping.{all_published}
use Rattle.press_posts.proofs.posts.Posts.published.Goals as goal

pub returns-clause-ids : goal.returns-clause-ids
returns-clause-ids c = IfOk-weaker c.newest.result _ _ (λ ids h. h ∙ ap (λ (n : ℕ). take n (published c.args.self.now)) (search rules) ∙ all_published c.args.self.now) c.newest.ensures.ids
