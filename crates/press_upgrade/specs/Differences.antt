-- The first thing by which a kit doesn't extend another: a callback or a plugin of the old one that is gone, or is another under its name; callbacks first, in the order in
-- which they are given (own).
use Rattle.std.specs.Prelude.{◌≡◌, ℕ, List, ◌++◌, map, codes}
use Rattle.press_callbacks.specs.declared.plugin.Plugin.{Plugin}
use Rattle.press_callbacks.specs.Kits.{KitView}
use Rattle.press_kit.specs.declared.kit_parts.KitParts.{KitParts}
use Rattle.press_kit.specs.declared.kit_parts.Scripted.{Scripted}
use Rattle.press_upgrade.specs.declared.difference.Difference.{Difference}
use Rattle.press_upgrade.specs.declared.difference.Difference.TheVariants.{CallbackIsGone, CallbackIsOther, PluginIsGone, PluginIsOther}
use Rattle.press_upgrade.specs.declared.part.Loss.{Loss}
use Rattle.press_upgrade.specs.declared.part.Loss.TheVariants.{Other, Gone}
use Rattle.press_upgrade.specs.Parts.{AreKept, IsFirstLost}

-- the callbacks and plugins that a kit file gives, in its order
abbrev pub kit_given : KitParts → KitView
kit_given parts = record { scripts = map (λ (c : Scripted). (c.id, c.script)) parts.callbacks; plugins = parts.plugins }

abbrev pub callback_title : Scripted → List ℕ
callback_title c = c.id

abbrev pub plugin_title : Plugin → List ℕ
plugin_title p = p.name

-- the first callback that is lost has this name
abbrev pub LosesCallback : KitParts → KitParts → List ℕ → Loss → Type 0
LosesCallback old new name loss = (c : Scripted) × IsFirstLost callback_title new.callbacks old.callbacks c loss × (c.id ≡ name)

-- no callback is lost, and the first plugin that is has this name
abbrev pub LosesPlugin : KitParts → KitParts → List ℕ → Loss → Type 0
LosesPlugin old new name loss = AreKept callback_title new.callbacks old.callbacks × (p : Plugin) × IsFirstLost plugin_title new.plugins old.plugins p loss × (p.name ≡ name)

abbrev pub Tells : Difference → KitParts → KitParts → Type 0
Tells (CallbackIsGone name) old new = LosesCallback old new name.now Gone
Tells (CallbackIsOther name) old new = LosesCallback old new name.now Other
Tells (PluginIsGone name) old new = LosesPlugin old new name.now Gone
Tells (PluginIsOther name) old new = LosesPlugin old new name.now Other

-- the name of what differs
abbrev pub name_in : Difference → List ℕ
name_in (CallbackIsGone name) = name.now
name_in (CallbackIsOther name) = name.now
name_in (PluginIsGone name) = name.now
name_in (PluginIsOther name) = name.now

-- in words
abbrev pub difference_text : Difference → List ℕ
difference_text (CallbackIsGone name) = codes "callback \"" ++ (name.now ++ codes "\" is gone")
difference_text (CallbackIsOther name) = codes "callback \"" ++ (name.now ++ codes "\" has another script")
difference_text (PluginIsGone name) = codes "plugin \"" ++ (name.now ++ codes "\" is gone")
difference_text (PluginIsOther name) = codes "plugin \"" ++ (name.now ++ codes "\" has another load")
