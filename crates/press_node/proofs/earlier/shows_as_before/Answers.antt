use Rattle.std.proofs.Common.{◌∙◌, ap}
use Rattle.press_site.specs.SiteView.{SiteView}
use Rattle.press_apply.specs.Apply.{site_after}
use Rattle.press_page.specs.Earlier as earlier_pages
use Rattle.press_node.proofs.earlier.shows_as_before.Goals as goal

pub returns : goal.returns
returns c = λ kit values target none.
    c.pages_as_before.ensures kit (site_after kit values) target (c.folds_as_before.ensures.profile kit values none)
    ∙ ap (λ (site : SiteView). earlier_pages.page_of kit site target) (c.folds_as_before.ensures.same kit values none)
