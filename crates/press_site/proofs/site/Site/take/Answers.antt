use Rattle.std.proofs.Common.{◌≡◌, subst, true}
use Rattle.std.specs.Prelude.{IfOk, OnErr, Ok, is_some}
use Rattle.press_events.specs.DueEvents.{place_of}
use Rattle.press_site.specs.Back.{Does, GoesBack}
use Rattle.press_site.specs.Contents.{ChangesSome, take_event_effect}
use Rattle.press_site.specs.Effects.{content_of, with_content}
use Rattle.press_site.specs.SiteView.{SiteView}
use Rattle.press_site.proofs.Lifted.{back_lifted, does_lifted, with_new}
use Rattle.press_site.proofs.Unchanged.{content_grows}
use Rattle.press_site.proofs.site.Site.take.Goals as goal

pub returns-clause-does : goal.returns-clause-does
returns-clause-does c =
    let s : SiteView = record { moment = c.self.inside.moment; profile = c.self.inside.profile; posts = c.self.inside.content.posts; events = c.self.inside.content.events; options = c.self.inside.options; active = c.self.inside.plugins; outcomes = c.self.inside.outcomes } in
    subst (λ (v : SiteView). Does c.take.result (with_content v (Ok (take_event_effect (content_of v) c.args.event.now v.moment))) v (with_new s c.take.new.self)) c.self.view_is
    (does_lifted s c.take.result (Ok (take_event_effect (content_of s) c.args.event.now s.moment)) c.take.new.self c.take.ensures.does)

pub returns-clause-back : goal.returns-clause-back
returns-clause-back c =
    let s : SiteView = record { moment = c.self.inside.moment; profile = c.self.inside.profile; posts = c.self.inside.content.posts; events = c.self.inside.content.events; options = c.self.inside.options; active = c.self.inside.plugins; outcomes = c.self.inside.outcomes } in
    subst (λ (v : SiteView). IfOk c.take.result (λ d. GoesBack c.args.wants d.undone (with_new s c.take.new.self) v)) c.self.view_is
    (back_lifted s c.take.result c.args.wants c.take.new.self c.take.ensures.back)

pub returns-clause-memory : goal.returns-clause-memory
returns-clause-memory c = λ e.
    let s : SiteView = record { moment = c.self.inside.moment; profile = c.self.inside.profile; posts = c.self.inside.content.posts; events = c.self.inside.content.events; options = c.self.inside.options; active = c.self.inside.plugins; outcomes = c.self.inside.outcomes } in
    subst (λ (v : SiteView). ChangesSome (with_content v (Ok (take_event_effect (content_of v) c.args.event.now v.moment)))) c.self.view_is
    (content_grows s (Ok (take_event_effect (content_of s) c.args.event.now s.moment)) (subst (λ r. OnErr r (is_some (place_of c.args.event.now s.events) ≡ true)) e c.take.ensures.memory))
