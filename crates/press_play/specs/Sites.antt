-- The site that plays stand on: a new one on which the active plugins were activated in turn; a
-- name that stands twice changes nothing (own).
use Rattle.std.specs.Prelude.{ℕ, List, [], ◌∷◌}
use Rattle.press_site.specs.declared.effect.Effect.TheVariants.{Activate}
use Rattle.press_site.specs.Effects.{effect_on, no_site}
use Rattle.press_site.specs.SiteView.{SiteView}
use Rattle.press_run.specs.Links.{or_no_change}

abbrev pub one_active : List ℕ → SiteView → SiteView
one_active name site = (or_no_change site (effect_on site (Activate name))).0

abbrev pub all_active : List (List ℕ) → SiteView → SiteView
all_active [] site = site
all_active (n ∷ ns) site = all_active ns (one_active n site)

abbrev pub site_with : List (List ℕ) → SiteView
site_with active = all_active active no_site
