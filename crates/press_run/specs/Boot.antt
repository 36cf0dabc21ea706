-- A boot is fresh tables: the built-in `do_shortcode` on `the_content` at 11 and `check_and_publish_future_post` on `publish_future_post` at 10, then
-- the loads of the active plugins, in the order in which these stand; a plugin that the kit lacks loads nothing (Plugin Handbook, Plugin Basics;
-- Shortcode API, `do_shortcode`; WP-Cron, `check_and_publish_future_post`; the order is own).
use Rattle.std.specs.Prelude.{ℕ, pos, List, [], ◌∷◌, Option, Some, None, codes}
use Rattle.press_posts.specs.declared.fire.Fire.{Fire}
use Rattle.press_hooks.specs.declared.row.Row.{Row}
use Rattle.press_hooks.specs.HookRows.{add_row}
use Rattle.press_scan.specs.declared.tag_row.TagRow.{TagRow}
use Rattle.press_scan.specs.Tags.{add_tag}
use Rattle.press_callbacks.specs.declared.plugin.Plugin.{Plugin}
use Rattle.press_callbacks.specs.declared.plugin.Load.{Load}
use Rattle.press_callbacks.specs.declared.plugin.Load.TheVariants.{Hook, Tag}
use Rattle.press_callbacks.specs.BuiltIns.{do_shortcode, check_and_publish_future_post}
use Rattle.press_callbacks.specs.Kits.{plugin_of}

-- the hook rows and the tags
pub record LoadedTables : Type 0 where
  pub rows : List Row
  pub tags : List TagRow

abbrev pub load_one : Load → LoadedTables → LoadedTables
load_one (Hook h p c a) t = record t { rows = add_row h c p a t.rows }
load_one (Tag n c) t = record t { tags = add_tag n c t.tags }

abbrev pub load_all : List Load → LoadedTables → LoadedTables
load_all [] t = t
load_all (l ∷ ls) t = load_all ls (load_one l t)

abbrev pub loads_of : Option Plugin → List Load
loads_of None = []
loads_of (Some p) = p.load

abbrev pub load_plugins : List Plugin → List (List ℕ) → LoadedTables → LoadedTables
load_plugins plugins [] t = t
load_plugins plugins (n ∷ ns) t = load_plugins plugins ns (load_all (loads_of (plugin_of n plugins)) t)

abbrev pub the_content : List ℕ
the_content = codes "the_content"

abbrev pub publish_future_post : List ℕ
publish_future_post = codes "publish_future_post"

-- the tables before any plugin
abbrev pub fresh : LoadedTables
fresh = record { rows = add_row publish_future_post check_and_publish_future_post (pos 10) 1 (add_row the_content do_shortcode (pos 11) 1 []); tags = [] }

abbrev pub boot_with : List Plugin → List (List ℕ) → LoadedTables
boot_with plugins active = load_plugins plugins active fresh

-- an action without arguments
abbrev pub bare : List ℕ → Fire
bare hook = record { hook = hook; args = [] }

-- what a boot is followed by (Plugin Handbook, Hooks; hook reference; that it is these three is own)
abbrev pub boot_actions : List Fire
boot_actions = bare (codes "plugins_loaded") ∷ bare (codes "init") ∷ bare (codes "wp_loaded") ∷ []
