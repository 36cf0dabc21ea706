-- One kit extends another where each callback and each plugin of the old one is there in the new one, and the same: its script, its loads. Nothing else of a kit changes
-- a page or an outcome (own; that plugins of one name are versions of one plugin: Plugin Handbook, Header Requirements).
use Rattle.std.specs.Prelude.{◌≡◌, ℕ, List, Bool, true, false, not, ◌&&◌, Some, None, is_some}
use Rattle.std.specs.List.{AllByRecursion, list_any}
use Rattle.press_callbacks.specs.declared.plugin.Plugin.{Plugin}
use Rattle.press_callbacks.specs.declared.script.Op.{Op}
use Rattle.press_callbacks.specs.Kits.{KitView, Scripts, is_known, kit_fault, plugin_of, script_of}
use Rattle.press_hooks.specs.declared.row.Row.{Row}
use Rattle.press_scan.specs.declared.tag_row.TagRow.{TagRow}
use Rattle.press_run.specs.Run.{State}
use Rattle.press_apply.specs.declared.command.Command.{Command}
use Rattle.press_apply.specs.declared.command.Command.TheVariants.{Insert, Update, Trash, Untrash, Delete, SetOption, Activate, Deactivate, Tick, Profile}
use Rattle.press_apply.specs.declared.value.Value.{Value}
use Rattle.press_apply.specs.declared.value.Value.TheVariants.{Noop, Cmd}

-- ---- one kit and the next

-- a callback is there under its name, with its script
abbrev pub HasCallback : Scripts → List ℕ × List Op → Type 0
HasCallback scripts callback = script_of callback.0 scripts ≡ Some callback.1

-- a plugin is there under its name, with its loads
abbrev pub HasPlugin : List Plugin → Plugin → Type 0
HasPlugin plugins plugin = plugin_of plugin.name plugins ≡ Some plugin

pub record Extends (old new : KitView) : Type 0 where
  pub callbacks : AllByRecursion (HasCallback new.scripts) old.scripts
  pub plugins : AllByRecursion (HasPlugin new.plugins) old.plugins

-- a kit that `Kit::build` makes: no name stands twice, and each callback that is named is there
abbrev pub IsWhole : KitView → Type 0
IsWhole kit = kit_fault kit.scripts kit.plugins ≡ None

-- ---- which commands the old kit knows

-- a plugin of the new kit alone
abbrev pub is_new : KitView → KitView → List ℕ → Bool
is_new old new plugin = is_some (plugin_of plugin new.plugins) && not (is_some (plugin_of plugin old.plugins))

-- the plugin that a command activates or deactivates is one of the new kit alone
abbrev pub names_new : KitView → KitView → Command → Bool
names_new old new (Insert draft) = false
names_new old new (Update id draft) = false
names_new old new (Trash id) = false
names_new old new (Untrash id) = false
names_new old new (Delete id) = false
names_new old new (SetOption name value) = false
names_new old new (Activate plugin) = is_new old new plugin
names_new old new (Deactivate plugin) = is_new old new plugin
names_new old new Tick = false
names_new old new (Profile to) = false

abbrev pub asks_new : KitView → KitView → Value → Bool
asks_new old new (Noop at) = false
asks_new old new (Cmd c) = names_new old new c.command

-- some of these values is a command that names a plugin of the new kit alone
abbrev pub ask_new : KitView → KitView → List Value → Bool
ask_new old new values = list_any (asks_new old new) values

-- ---- which runs the old kit knows

abbrev pub Knows : KitView → List ℕ → Type 0
Knows kit callback = is_known (λ c. c.0) kit.scripts callback ≡ true

-- each callback on a hook and behind a tag is built in, or one of the kit
abbrev pub KnowsTables : KitView → State → Type 0
KnowsTables kit s = AllByRecursion (λ (r : Row). Knows kit r.callback) s.rows × AllByRecursion (λ (r : TagRow). Knows kit r.callback) s.tags
