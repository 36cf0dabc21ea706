use Rattle.std.proofs.Common.{subst}
use Rattle.std.specs.Prelude.{IfOk}
use Rattle.press_posts.specs.PostChange.Change.{Edit}
use Rattle.press_site.specs.Back.{Does, GoesBack}
use Rattle.press_site.specs.Contents.{post_effect}
use Rattle.press_site.specs.Effects.{content_of, with_content}
use Rattle.press_site.specs.SiteView.{SiteView}
use Rattle.press_site.proofs.Lifted.{back_of_post, does_lifted, with_new}
use Rattle.press_site.proofs.site.Site.edit.Goals as goal

pub returns-clause-does : goal.returns-clause-does
returns-clause-does c =
    let s : SiteView = record { moment = c.self.inside.moment; profile = c.self.inside.profile; posts = c.self.inside.content.posts; events = c.self.inside.content.events; options = c.self.inside.options; active = c.self.inside.plugins; outcomes = c.self.inside.outcomes } in
    subst (λ (v : SiteView). Does c.edit.result (with_content v (post_effect (content_of v) (Edit c.args.id c.args.draft) v.moment)) v (with_new s c.edit.new.self)) c.self.view_is
    (does_lifted s c.edit.result (post_effect (content_of s) (Edit c.args.id c.args.draft) s.moment) c.edit.new.self c.edit.ensures.does)

pub returns-clause-back : goal.returns-clause-back
returns-clause-back c = λ wants.
    let s : SiteView = record { moment = c.self.inside.moment; profile = c.self.inside.profile; posts = c.self.inside.content.posts; events = c.self.inside.content.events; options = c.self.inside.options; active = c.self.inside.plugins; outcomes = c.self.inside.outcomes } in
    subst (λ (v : SiteView). IfOk c.edit.result (λ d. GoesBack wants d.undone (with_new s c.edit.new.self) v)) c.self.view_is
    (back_of_post s c.edit.result wants c.edit.new.self c.edit.ensures.back)
