-- The number of each fault of a proposer (own).
use Rattle.std.specs.Prelude.{ℕ, Option, None, Some}
use Rattle.press_acceptor.specs.Faults.{store_fault_number}
use Rattle.press_acceptor.specs.declared.fault.StoreFault.{StoreFault}
use Rattle.press_proposer.specs.declared.fault.ProposerFault.{ProposerFault}
use Rattle.press_proposer.specs.declared.fault.ProposerFault.TheVariants.{Full, RoundsUsedUp, Store}

abbrev pub proposer_fault_number : ProposerFault → ℕ
proposer_fault_number Full = 60
proposer_fault_number RoundsUsedUp = 61
proposer_fault_number (Store fault) = store_fault_number fault

-- the fault of the store behind it, if it is one
abbrev pub store_fault : Option ProposerFault → Option StoreFault
store_fault None = None
store_fault (Some Full) = None
store_fault (Some RoundsUsedUp) = None
store_fault (Some (Store fault)) = Some fault
