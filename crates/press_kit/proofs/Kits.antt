-- The kit of a file, where it is one: nothing where it is not.
use Rattle.std.proofs.Common.{[], map}
use Rattle.std.specs.Prelude.{Result, Ok, Err}
use Rattle.press_callbacks.specs.Kits.{KitView, view_of}
use Rattle.press_kit.specs.declared.kit_parts.KitParts.{KitParts}
use Rattle.press_kit.specs.declared.kit_parts.Scripted.{Scripted}
use Rattle.press_kit.specs.declared.place.Place.{Place}

abbrev pub view_where : Result KitParts Place → KitView
view_where (Ok kit) = view_of (map (λ (c : Scripted). (c.id, c.script)) kit.callbacks) kit.plugins
view_where (Err place) = record { scripts = []; plugins = [] }
