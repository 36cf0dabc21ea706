-- The number of each fault of a play, and its place where it has one (own).
use Rattle.std.specs.Prelude.{ℕ, Option, Some, None}
use Rattle.press_callbacks.specs.declared.kit_fault.KitFault.{KitFault}
use Rattle.press_callbacks.specs.declared.kit_fault.KitFault.TheVariants as kit
use Rattle.press_kit.specs.declared.place.Place.{Place}
use Rattle.press_play.specs.declared.fault.PlayFault.{PlayFault}
use Rattle.press_play.specs.declared.fault.PlayFault.TheVariants.{NoMemory, ReadFault, TwoNames, UnknownCallback, BadLoad, BadKitFile}

abbrev pub fault_number : PlayFault → ℕ
fault_number NoMemory = 0
fault_number TwoNames = 3
fault_number UnknownCallback = 4
fault_number BadLoad = 5
fault_number ReadFault = 40
fault_number (BadKitFile place) = 73

abbrev pub place_in : PlayFault → Option Place
place_in NoMemory = None
place_in TwoNames = None
place_in UnknownCallback = None
place_in BadLoad = None
place_in ReadFault = None
place_in (BadKitFile place) = Some place

abbrev pub of_kit : KitFault → PlayFault
of_kit kit.NoMemory = NoMemory
of_kit kit.TwoNames = TwoNames
of_kit kit.UnknownCallback = UnknownCallback
of_kit kit.BadLoad = BadLoad
