-- The number of each fault of the wire (own).
use Rattle.std.specs.Prelude.{ℕ}
use Rattle.press_wire.specs.declared.fault.WireFault.{WireFault}
use Rattle.press_wire.specs.declared.fault.WireFault.TheVariants.{NoMemory, TooLong, Short, BadKind, BadField, Extra}

abbrev pub wire_fault_number : WireFault → ℕ
wire_fault_number NoMemory = 0
wire_fault_number TooLong = 2
wire_fault_number Short = 30
wire_fault_number BadKind = 31
wire_fault_number BadField = 32
wire_fault_number Extra = 33
