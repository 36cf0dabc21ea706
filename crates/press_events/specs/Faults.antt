-- The number of each fault of scheduling (own).
use Rattle.std.specs.Prelude.{ℕ}
use Rattle.press_events.specs.declared.fault.EventFault.{EventFault}
use Rattle.press_events.specs.declared.fault.EventFault.TheVariants.{NoMemory, TooLong, TooManyEvents}

abbrev pub event_fault_number : EventFault → ℕ
event_fault_number NoMemory = 0
event_fault_number TooLong = 2
event_fault_number TooManyEvents = 14
