use Rattle.std.proofs.Common.{subst}
use Rattle.std.specs.Prelude.{IfOk}
use Rattle.press_posts.specs.PostChange.Change.{Moves}
use Rattle.press_site.specs.Back.{Does, GoesBack}
use Rattle.press_site.specs.Contents.{ChangesSome, post_effect}
use Rattle.press_site.specs.Effects.{content_of, with_content}
use Rattle.press_site.specs.SiteView.{SiteView}
use Rattle.press_site.proofs.Lifted.{back_of_post, does_lifted, with_new}
use Rattle.press_site.proofs.Unchanged.{content_grows}
use Rattle.press_site.proofs.site.Site.move_post.Goals as goal

pub returns-clause-does : goal.returns-clause-does
returns-clause-does c =
    let s : SiteView = record { moment = c.self.inside.moment; profile = c.self.inside.profile; posts = c.self.inside.content.posts; events = c.self.inside.content.events; options = c.self.inside.options; active = c.self.inside.plugins; outcomes = c.self.inside.outcomes } in
    subst (λ (v : SiteView). Does c.set_status.result (with_content v (post_effect (content_of v) (Moves c.args.id c.args.to) v.moment)) v (with_new s c.set_status.new.self)) c.self.view_is
    (does_lifted s c.set_status.result (post_effect (content_of s) (Moves c.args.id c.args.to) s.moment) c.set_status.new.self (c.set_status.ensures.does s.moment))

pub returns-clause-back : goal.returns-clause-back
returns-clause-back c = λ wants.
    let s : SiteView = record { moment = c.self.inside.moment; profile = c.self.inside.profile; posts = c.self.inside.content.posts; events = c.self.inside.content.events; options = c.self.inside.options; active = c.self.inside.plugins; outcomes = c.self.inside.outcomes } in
    subst (λ (v : SiteView). IfOk c.set_status.result (λ d. GoesBack wants d.undone (with_new s c.set_status.new.self) v)) c.self.view_is
    (back_of_post s c.set_status.result wants c.set_status.new.self c.set_status.ensures.back)

pub returns-clause-memory : goal.returns-clause-memory
returns-clause-memory c = λ e.
    let s : SiteView = record { moment = c.self.inside.moment; profile = c.self.inside.profile; posts = c.self.inside.content.posts; events = c.self.inside.content.events; options = c.self.inside.options; active = c.self.inside.plugins; outcomes = c.self.inside.outcomes } in
    subst (λ (v : SiteView). ChangesSome (with_content v (post_effect (content_of v) (Moves c.args.id c.args.to) v.moment))) c.self.view_is
    (content_grows s (post_effect (content_of s) (Moves c.args.id c.args.to) s.moment) (c.set_status.ensures.memory s.moment e))
