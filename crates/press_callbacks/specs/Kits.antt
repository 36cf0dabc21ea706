-- A kit as plain data, by name: each callback's script and each plugin's loads, in the order of the names.
-- A kit is refused where a name stands twice or is that of a built-in callback, where a load or a script names
-- a callback that is neither there nor built in, or for too many loads (own).
use Rattle.std.specs.Prelude.{ℕ, List, [], ◌∷◌, Bool, true, false, not, ◌||◌, ◌&&◌, cond, if◌then◌else◌, nat_lt, bytes_eq, map, sum_by, count_by, Option, Some, None, option_map, slice_get, ◌≡◌, Result, MatchResult}
use Rattle.std.specs.List.{list_any, list_all}
use Rattle.press_callbacks.specs.declared.script.Op.{Op}
use Rattle.press_callbacks.specs.declared.script.Op.TheVariants.{Set, AddHook, RemoveHook, RemoveAll, AddTag, RemoveTag, SkipIf, Apply, Do, Shortcodes, Ask, SetOption, Schedule, Publish, Echo, Return}
use Rattle.press_callbacks.specs.declared.script.Ask.TheVariants as ask
use Rattle.press_callbacks.specs.declared.script.Ask as asked
use Rattle.press_callbacks.specs.declared.plugin.Plugin.{Plugin}
use Rattle.press_callbacks.specs.declared.plugin.Load.{Load}
use Rattle.press_callbacks.specs.declared.plugin.Load.TheVariants.{Hook, Tag}
use Rattle.press_callbacks.specs.declared.plugin.LoadKind.{LoadKind}
use Rattle.press_callbacks.specs.declared.plugin.LoadKind.TheVariants as kind
use Rattle.press_callbacks.specs.BuiltIns.{is_built_in}
use Rattle.press_callbacks.specs.Order.{by_name}
pub use Rattle.press_callbacks.specs.Order.{has_two}
use Rattle.press_callbacks.specs.declared.kit_fault.KitFault.{KitFault}
use Rattle.press_callbacks.specs.declared.kit_fault.KitFault.TheVariants.{NoMemory, TwoNames, UnknownCallback, BadLoad}
use Rattle.press_callbacks.specs.declared.stored.Stored.{Stored}
use Rattle.press_callbacks.specs.declared.kit.Kit.{Kit}

-- a callback's name, and the script that stands for it
abbrev pub Scripts : Type 0
Scripts = List (List ℕ × List Op)

pub record KitView : Type 0 where
  pub scripts : Scripts
  pub plugins : List Plugin

-- the script of that name
abbrev pub script_of : List ℕ → Scripts → Option (List Op)
script_of id [] = None
script_of id (c ∷ cs) = cond (bytes_eq c.0 id) (Some c.1) (script_of id cs)

-- the plugin of that name
abbrev pub plugin_of : List ℕ → List Plugin → Option Plugin
plugin_of name [] = None
plugin_of name (p ∷ ps) = cond (bytes_eq p.name name) (Some p) (plugin_of name ps)

-- ---- what a kit shows

abbrev pub id_of : {t : _} {F : _} {g : _} → Stored t F g → List ℕ
id_of c = c.id

-- a callback's name beside its script
abbrev pub named_script : {C : Type 0} → (C → List ℕ) → (C → List Op) → C → List ℕ × List Op
named_script id script c = (id c, script c)

abbrev pub script_in : {t : _} {F : _} {g : _} → Stored t F g → List Op
script_in c = c.script

abbrev pub scripts_in : {t : _} {F : _} {g : _} → Kit t F g → Scripts
scripts_in kit = map (λ c. (c.id, c.script)) kit.callbacks.items

abbrev pub plugins_in : {t : _} {F : _} {g : _} → Kit t F g → List Plugin
plugins_in kit = kit.plugins.items

-- the callbacks of a kit, closures and all, in its own order
abbrev pub callbacks_in : {t : _} {F : _} {g : _} → Kit t F g → List (Stored t F g)
callbacks_in kit = kit.callbacks.items

abbrev pub kit_view : {t : _} {F : _} {g : _} → Kit t F g → KitView
kit_view kit = record { scripts = scripts_in kit; plugins = plugins_in kit }

-- the names and scripts of callbacks, as they are
abbrev pub scripts_given : {t : _} {F : _} {g : _} → List (Stored t F g) → Scripts
scripts_given callbacks = map (λ c. (c.id, c.script)) callbacks

-- the view of callbacks and plugins in whatever order
abbrev pub view_of : Scripts → List Plugin → KitView
view_of scripts plugins = record { scripts = by_name (λ c. c.0) scripts; plugins = by_name (λ p. p.name) plugins }

-- ---- refusals, in their order

-- the callback that an op names
abbrev pub callback_asked : asked.Ask → Option (List ℕ)
callback_asked (ask.Did hook) = None
callback_asked (ask.Doing hook) = None
callback_asked (ask.Has hook callback) = Some callback
callback_asked (ask.Option name) = None
callback_asked (ask.Tag tag) = None

abbrev pub callback_named : Op → Option (List ℕ)
callback_named (Set ps) = None
callback_named (AddHook h c p a) = Some c
callback_named (RemoveHook h c p) = Some c
callback_named (RemoveAll h p) = None
callback_named (AddTag t c) = Some c
callback_named (RemoveTag t) = None
callback_named (SkipIf l r n) = None
callback_named (Apply h v more) = None
callback_named (Do h args) = None
callback_named (Shortcodes ps) = None
callback_named (Ask a) = callback_asked a
callback_named (SetOption n v) = None
callback_named (Schedule after every h arg) = None
callback_named (Publish ps) = None
callback_named (Echo ps) = None
callback_named (Return ps) = None

abbrev pub callback_loaded : Load → List ℕ
callback_loaded (Hook h p c a) = c
callback_loaded (Tag t c) = c

abbrev pub is_named : {C : Type 0} → (C → List ℕ) → List C → List ℕ → Bool
is_named id callbacks name = list_any (λ c. bytes_eq (id c) name) callbacks

-- built in, or one of these
abbrev pub is_known : {C : Type 0} → (C → List ℕ) → List C → List ℕ → Bool
is_known id callbacks name = is_built_in name || is_named id callbacks name

abbrev pub is_known_where : {C : Type 0} → (C → List ℕ) → List C → Option (List ℕ) → Bool
is_known_where id callbacks None = true
is_known_where id callbacks (Some name) = is_known id callbacks name

abbrev pub knows_script : {C : Type 0} → (C → List ℕ) → List C → List Op → Bool
knows_script id callbacks script = list_all (λ o. is_known_where id callbacks (callback_named o)) script

abbrev pub knows_plugin : {C : Type 0} → (C → List ℕ) → List C → Plugin → Bool
knows_plugin id callbacks p = list_all (λ l. is_known id callbacks (callback_loaded l)) p.load

abbrev pub knows_all : {C : Type 0} → (C → List ℕ) → (C → List Op) → List C → List Plugin → Bool
knows_all id script callbacks plugins = list_all (λ c. knows_script id callbacks (script c)) callbacks && list_all (knows_plugin id callbacks) plugins

abbrev pub most_hook_loads : ℕ
most_hook_loads = 1000

abbrev pub most_tag_loads : ℕ
most_tag_loads = 128

abbrev pub is_of_kind : LoadKind → Load → Bool
is_of_kind kind.Hooks (Hook h p c a) = true
is_of_kind kind.Hooks (Tag t c) = false
is_of_kind kind.Tags (Hook h p c a) = false
is_of_kind kind.Tags (Tag t c) = true

-- how many loads of a kind the plugins have together
abbrev pub loads_of_kind : LoadKind → List Plugin → ℕ
loads_of_kind k plugins = sum_by (λ p. count_by (is_of_kind k) p.load) plugins

abbrev pub has_many_loads : List Plugin → Bool
has_many_loads plugins = nat_lt most_hook_loads (loads_of_kind kind.Hooks plugins) || nat_lt most_tag_loads (loads_of_kind kind.Tags plugins)

-- whether two callbacks or two plugins have one name, or a callback has that of a built-in one
abbrev pub has_two_names : {C : Type 0} → (C → List ℕ) → List C → List Plugin → Bool
has_two_names id callbacks plugins = has_two id callbacks || list_any (λ c. is_built_in (id c)) callbacks || has_two (λ p. p.name) plugins

abbrev pub kit_fault_by : {C : Type 0} → (C → List ℕ) → (C → List Op) → List C → List Plugin → Option KitFault
kit_fault_by id script callbacks plugins =
    if has_two_names id callbacks plugins then Some TwoNames else
    (if not (knows_all id script callbacks plugins) then Some UnknownCallback else
    (if has_many_loads plugins then Some BadLoad else None))

abbrev pub kit_fault : Scripts → List Plugin → Option KitFault
kit_fault scripts plugins = kit_fault_by (λ c. c.0) (λ c. c.1) scripts plugins

-- what a fault says of the first one: it is that, and out of memory comes only where there is none
abbrev pub Refuses : KitFault → Option KitFault → Type 0
Refuses NoMemory first = first ≡ None
Refuses TwoNames first = first ≡ Some TwoNames
Refuses UnknownCallback first = first ≡ Some UnknownCallback
Refuses BadLoad first = first ≡ Some BadLoad

-- what `build` answers: a kit where there is no fault, else the first
abbrev pub Builds : {K : Type 0} → (K → KitView) → Result K KitFault → Option KitFault → KitView → Type 0
Builds show result first view = MatchResult result (λ kit. (first ≡ None) × (show kit ≡ view)) (λ fault. Refuses fault first)

-- ---- places in a kit

-- the name at a place, where a callback stands there
abbrev pub name_at : ℕ → Scripts → Option (List ℕ)
name_at place cs = option_map (λ c. c.0) (slice_get cs place)

-- whether no callback has that name
abbrev pub is_missing : List ℕ → Scripts → Bool
is_missing id cs = not (is_named (λ c. c.0) cs id)

-- the script at a place, where one stands there
abbrev pub script_at : Option ℕ → Scripts → Option (List Op)
script_at None cs = None
script_at (Some place) cs = option_map (λ c. c.1) (slice_get cs place)
