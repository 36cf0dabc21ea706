-- An open site: as it stands, and what it goes back by.
use Rattle.press_site.specs.Back.{log_back}
use Rattle.press_site.specs.Log.{Log}
use Rattle.press_site.specs.SiteView.{SiteView}

pub record Open : Type 0 where
  pub site : SiteView
  pub log : Log

-- what stood when it was begun
abbrev pub site_at_start : Open → SiteView
site_at_start o = log_back o.log o.site
