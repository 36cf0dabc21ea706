use Rattle.std.proofs.Common.{sym, ◌∙◌, ap}
use Rattle.press_site.specs.SiteView.{SiteView}
use Rattle.press_page.specs.Desk.{desk_of}
use Rattle.press_page.specs.Page.{page_of}
use Rattle.press_apply.specs.Apply.{site_after}
use Rattle.press_upgrade.proofs.Applies.{sites_alike}
use Rattle.press_upgrade.proofs.Pages.{desk_alike, pages_alike}
use Rattle.press_upgrade.proofs.laws.pages_over_extension.Goals as goal

pub returns-clause-pages : goal.returns-clause-pages
returns-clause-pages c = λ old new values target whole extends e.
    let a = sites_alike old new whole extends values e in
    sym (pages_alike old new whole extends (site_after old values) a.1 target ∙ ap (λ (s : SiteView). page_of new s target) a.0)

pub returns-clause-desk : goal.returns-clause-desk
returns-clause-desk c = λ old new values count asked whole extends e other.
    let a = sites_alike old new whole extends values e in
    sym (desk_alike old new whole extends (site_after old values) a.1 count asked other ∙ ap (λ (s : SiteView). desk_of new s count asked) a.0)
