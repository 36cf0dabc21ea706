-- Worked rows, computed by the definitions.
use Rattle.std.specs.Prelude.{◌≡◌, refl, [], ◌∷◌, length, Some, codes}
use Rattle.press_callbacks.specs.Kits.{KitView}
use Rattle.press_posts.specs.declared.status.Status.{Status}
use Rattle.press_posts.specs.declared.status.Status.TheVariants.{Draft}
use Rattle.press_site.specs.Effects.{no_site}
use Rattle.press_site.specs.SiteView.{SiteView}
use Rattle.press_run.specs.Run.{do_fires}
use Rattle.press_page.specs.declared.reply.Target.TheVariants as target
use Rattle.press_page.specs.Page.{page_of, site_name, page_opening, articles, whole_page}
use Rattle.press_page.specs.Template.{title_part, heading_part}

abbrev no_kit : KitView
no_kit = record { scripts = []; plugins = [] }

pub empty_front : length (page_of no_kit no_site target.Front).body ≡ 97
unfolding whole_page page_opening articles do_fires title_part heading_part
empty_front = refl

-- ---- a post that isn't published

abbrev with_status : Status → SiteView
with_status status = record no_site { posts = Some (record { id = 1; title = codes "x"; content = codes "Hello"; status = status; date = 10 }) ∷ [] }

pub draft_not_found : (page_of no_kit (with_status Draft) (target.Post 1)).status ≡ 404
draft_not_found = refl

pub draft_not_listed : length (page_of no_kit (with_status Draft) target.Front).body ≡ 97
unfolding whole_page page_opening articles do_fires title_part heading_part
draft_not_listed = refl

-- ---- the option `blogname`

pub name_escaped : site_name (record no_site { options = (codes "blogname", codes "A & B") ∷ [] }) ≡ codes "A &amp; B"
name_escaped = refl
