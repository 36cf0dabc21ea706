use Rattle.std.proofs.Common.{◌∙◌, ap, length, arith}
use Rattle.press_posts.proofs.Keeping.{pushed}
use Rattle.press_posts.proofs.posts.Posts.push.Goals as goal

pub returns-clause-ok : goal.returns-clause-ok
returns-clause-ok c = c.fill.ensures ∙ pushed c.args.self.now _ _ c.args.post c.in_ok-add_place.ensures.ok (omega (arith, ap length c.self.view_is))
