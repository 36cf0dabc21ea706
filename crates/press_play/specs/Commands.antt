-- Commands before plays: what becomes of each by *Apply*, as a line of JSON, and the site after
-- them (own).
use Rattle.std.specs.Prelude.{ℕ, List, [], ◌∷◌, ◌++◌, map}
use Rattle.press_site.specs.SiteView.{SiteView}
use Rattle.press_callbacks.specs.Kits.{KitView}
use Rattle.press_apply.specs.declared.command.Stamped.{Stamped}
use Rattle.press_apply.specs.declared.value.Value.TheVariants.{Cmd}
use Rattle.press_apply.specs.Apply.{applied, fold_values}
use Rattle.press_page.specs.Json.{outcome_data}
use Rattle.press_play.specs.Lines.{line}

-- the lines of the outcomes, in turn
abbrev pub outcome_lines : KitView → List Stamped → SiteView → List ℕ
outcome_lines kit [] site = []
outcome_lines kit (c ∷ cs) site = line (outcome_data (applied kit site (Cmd c)).1) ++ outcome_lines kit cs (applied kit site (Cmd c)).0

-- the site after the commands
abbrev pub site_after : KitView → List Stamped → SiteView → SiteView
site_after kit commands site = fold_values kit site (map (λ c. Cmd c) commands)
