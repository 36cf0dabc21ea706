-- How a place in a kit is reported to its author: what it is of, by its number and its name, and
-- the step or load there (own).
use Rattle.std.specs.Prelude.{ℕ, List, [], ◌++◌, Option, Some, None, option_map, slice_get, codes, decimal}
use Rattle.press_callbacks.specs.declared.plugin.Plugin.{Plugin}
use Rattle.press_kit.specs.Places.{place_text}
use Rattle.press_kit.specs.declared.kit_parts.KitParts.{KitParts}
use Rattle.press_kit.specs.declared.kit_parts.Scripted.{Scripted}
use Rattle.press_kit.specs.declared.place.Place.{Place}
use Rattle.press_kit.specs.declared.place.Place.TheVariants.{File, Callbacks, Callback, Op, Plugins, Plugin as OnePlugin, Load, Active, ActiveName, Commands, Command, Pages, Page, Plays, Play, Steps, Step}

-- ` "name"`, where there is one
abbrev pub quoted_name : Option (List ℕ) → List ℕ
quoted_name None = []
quoted_name (Some name) = codes " \"" ++ (name ++ codes "\"")

-- `list[n] "name": `, with what follows it
abbrev pub tell_item : List ℕ → ℕ → Option (List ℕ) → List ℕ → List ℕ
tell_item list n name rest = list ++ (codes "[" ++ (decimal n ++ (codes "]" ++ (quoted_name name ++ (codes ": " ++ rest)))))

-- `script[n] `
abbrev pub within : List ℕ → ℕ → List ℕ
within list n = list ++ (codes "[" ++ (decimal n ++ codes "] "))

-- the place of something of that name, in front of the message about it
abbrev pub tell_place : Option (List ℕ) → Place → List ℕ
tell_place name (Callback n) = tell_item (codes "callbacks") n name []
tell_place name (Op c o) = tell_item (codes "callbacks") c name (within (codes "script") o)
tell_place name (OnePlugin n) = tell_item (codes "plugins") n name []
tell_place name (Load p l) = tell_item (codes "plugins") p name (within (codes "load") l)
tell_place name File = place_text File ++ codes ": "
tell_place name Callbacks = place_text Callbacks ++ codes ": "
tell_place name Plugins = place_text Plugins ++ codes ": "
tell_place name Active = place_text Active ++ codes ": "
tell_place name (ActiveName n) = place_text (ActiveName n) ++ codes ": "
tell_place name Commands = place_text Commands ++ codes ": "
tell_place name (Command n) = place_text (Command n) ++ codes ": "
tell_place name Pages = place_text Pages ++ codes ": "
tell_place name (Page n) = place_text (Page n) ++ codes ": "
tell_place name Plays = place_text Plays ++ codes ": "
tell_place name (Play n) = place_text (Play n) ++ codes ": "
tell_place name Steps = place_text Steps ++ codes ": "
tell_place name (Step n) = place_text (Step n) ++ codes ": "

-- the name of the callback or the plugin of that number
abbrev pub callback_name : List Scripted → ℕ → Option (List ℕ)
callback_name callbacks n = option_map (λ (c : Scripted). c.id) (slice_get callbacks n)

abbrev pub plugin_name : List Plugin → ℕ → Option (List ℕ)
plugin_name plugins n = option_map (λ (p : Plugin). p.name) (slice_get plugins n)

-- what is at a place by its name
abbrev pub name_at : KitParts → Place → Option (List ℕ)
name_at kit (Callback n) = callback_name kit.callbacks n
name_at kit (Op c o) = callback_name kit.callbacks c
name_at kit (OnePlugin n) = plugin_name kit.plugins n
name_at kit (Load p l) = plugin_name kit.plugins p
name_at kit File = None
name_at kit Callbacks = None
name_at kit Plugins = None
name_at kit Active = None
name_at kit (ActiveName n) = None
name_at kit Commands = None
name_at kit (Command n) = None
name_at kit Pages = None
name_at kit (Page n) = None
name_at kit Plays = None
name_at kit (Play n) = None
name_at kit Steps = None
name_at kit (Step n) = None

abbrev pub place_in : KitParts → Place → List ℕ
place_in kit at = tell_place (name_at kit at) at
