use Rattle.std.proofs.Common.{subst}
use Rattle.std.specs.Prelude.{IfOk}
use Rattle.press_site.specs.Back.{Does, GoesBack}
use Rattle.press_site.specs.Contents.{ChangesSome, add_event_effect}
use Rattle.press_site.specs.Effects.{content_of, with_content}
use Rattle.press_site.specs.SiteView.{SiteView}
use Rattle.press_site.proofs.Lifted.{back_of_post, does_lifted, with_new}
use Rattle.press_site.proofs.Unchanged.{content_grows}
use Rattle.press_site.proofs.site.Site.schedule.Goals as goal

pub returns-clause-does : goal.returns-clause-does
returns-clause-does c =
    let s : SiteView = record { moment = c.self.inside.moment; profile = c.self.inside.profile; posts = c.self.inside.content.posts; events = c.self.inside.content.events; options = c.self.inside.options; active = c.self.inside.plugins; outcomes = c.self.inside.outcomes } in
    subst (λ (v : SiteView). Does c.schedule.result (with_content v (add_event_effect (content_of v) c.args.event)) v (with_new s c.schedule.new.self)) c.self.view_is
    (does_lifted s c.schedule.result (add_event_effect (content_of s) c.args.event) c.schedule.new.self c.schedule.ensures.does)

pub returns-clause-back : goal.returns-clause-back
returns-clause-back c = λ wants.
    let s : SiteView = record { moment = c.self.inside.moment; profile = c.self.inside.profile; posts = c.self.inside.content.posts; events = c.self.inside.content.events; options = c.self.inside.options; active = c.self.inside.plugins; outcomes = c.self.inside.outcomes } in
    subst (λ (v : SiteView). IfOk c.schedule.result (λ d. GoesBack wants d.undone (with_new s c.schedule.new.self) v)) c.self.view_is
    (back_of_post s c.schedule.result wants c.schedule.new.self c.schedule.ensures.back)

pub returns-clause-memory : goal.returns-clause-memory
returns-clause-memory c = λ e.
    let s : SiteView = record { moment = c.self.inside.moment; profile = c.self.inside.profile; posts = c.self.inside.content.posts; events = c.self.inside.content.events; options = c.self.inside.options; active = c.self.inside.plugins; outcomes = c.self.inside.outcomes } in
    subst (λ (v : SiteView). ChangesSome (with_content v (add_event_effect (content_of v) c.args.event))) c.self.view_is
    (content_grows s (add_event_effect (content_of s) c.args.event) (c.schedule.ensures.memory e))
