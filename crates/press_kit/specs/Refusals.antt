-- What a fault of reading a file, or a part of it, says: BadKitFile is returned only where the file gives nothing, with the first bad place; out of memory may come at any
-- time (own).
use Rattle.std.specs.Prelude.{◌≡◌, Result, Err}
use Rattle.press_kit.specs.declared.place.Place.{Place}
use Rattle.press_kit.specs.declared.fault.KitFileFault.{KitFileFault}
use Rattle.press_kit.specs.declared.fault.KitFileFault.TheVariants.{NoMemory, BadKitFile}

abbrev pub Refuses : {Y : Type 0} → KitFileFault → Result Y Place → Type 0
Refuses NoMemory found = Unit {0}
Refuses (BadKitFile place) found = found ≡ Err place
