use Rattle.std.proofs.Common.{subst}
use Rattle.press_site.specs.Back.{GoesBack}
use Rattle.press_site.specs.SiteView.{SiteView}
use Rattle.press_site.proofs.Lifted.{active_back}
use Rattle.press_site.proofs.site.Site.activate.Goals as goal

pub returns-clause-back : goal.returns-clause-back
returns-clause-back c = λ wants.
    let s : SiteView = record { moment = c.self.inside.moment; profile = c.self.inside.profile; posts = c.self.inside.content.posts; events = c.self.inside.content.events; options = c.self.inside.options; active = c.self.inside.plugins; outcomes = c.self.inside.outcomes } in
    subst (λ (v : SiteView). GoesBack wants c.of_active-undone.result (record s { active = c.activate.new.self }) v) c.self.view_is
    (active_back s wants c.of_active-undone.result c.in_ok-stood.stood c.activate.new.self c.of_active-undone.ensures c.in_ok-stood.ensures.stood)
