use Rattle.std.proofs.Common.{sym, ◌∙◌, ap}
use Rattle.press_site.specs.SiteView.{SiteView}
use Rattle.press_apply.specs.Apply.{applied}
use Rattle.press_upgrade.proofs.Applies.{applied_alike, front, last_one, sites_alike}
use Rattle.press_upgrade.proofs.laws.values_over_extension.Goals as goal

pub returns-clause-sites : goal.returns-clause-sites
returns-clause-sites c = λ old new values whole extends e. sym (sites_alike old new whole extends values e).0

pub returns-clause-outcomes : goal.returns-clause-outcomes
returns-clause-outcomes c = λ old new values v whole extends e.
    let a = sites_alike old new whole extends values (front old new values v e) in
    sym ((applied_alike old new whole extends _ v (last_one old new values v e) a.1).0 ∙ ap (λ (s : SiteView). applied new s v) a.0)
