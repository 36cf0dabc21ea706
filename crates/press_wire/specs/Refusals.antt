-- What a fault of reading bytes says (own).
use Rattle.std.specs.Prelude.{◌≡◌, Result, Err}
use Rattle.press_wire.specs.declared.fault.WireFault.{WireFault}
use Rattle.press_wire.specs.declared.fault.WireFault.TheVariants.{NoMemory, TooLong, Short, BadKind, BadField, Extra}

-- the fault is that of the reading; out of memory may come at any growth
abbrev pub Refuses : {Y : Type 0} → WireFault → Result Y WireFault → Type 0
Refuses NoMemory read = Unit {0}
Refuses TooLong read = read ≡ Err TooLong
Refuses Short read = read ≡ Err Short
Refuses BadKind read = read ≡ Err BadKind
Refuses BadField read = read ≡ Err BadField
Refuses Extra read = read ≡ Err Extra
