-- Faults of a node: the number of each, and which of them stop the node (own).
use Rattle.std.specs.Prelude.{ℕ, Bool, true, false, Option, Some, None}
use Rattle.press_acceptor.specs.declared.fault.StoreFault.{StoreFault}
use Rattle.press_acceptor.specs.declared.fault.StoreFault.TheVariants as store_fault
use Rattle.press_proposer.specs.declared.fault.ProposerFault.{ProposerFault}
use Rattle.press_proposer.specs.declared.fault.ProposerFault.TheVariants as proposer_fault
use Rattle.press_node.specs.declared.fault.NodeFault.{NodeFault}
use Rattle.press_node.specs.declared.fault.NodeFault.TheVariants.{Down, TooLong, Full, SlotsUsedUp, RoundsUsedUp, Disk, Damaged, NoMemory}

abbrev pub node_fault_number : NodeFault → ℕ
node_fault_number Down = 63
node_fault_number TooLong = 2
node_fault_number Full = 60
node_fault_number SlotsUsedUp = 62
node_fault_number RoundsUsedUp = 61
node_fault_number Disk = 50
node_fault_number Damaged = 51
node_fault_number NoMemory = 0

-- after it in an event the node is down
abbrev pub stops : NodeFault → Bool
stops Down = false
stops TooLong = false
stops Full = false
stops SlotsUsedUp = false
stops RoundsUsedUp = false
stops Disk = true
stops Damaged = true
stops NoMemory = true

-- what stops a node by a fault; none where that is a refusal
abbrev pub stop_of : NodeFault → Option StoreFault
stop_of Down = None
stop_of TooLong = None
stop_of Full = None
stop_of SlotsUsedUp = None
stop_of RoundsUsedUp = None
stop_of Disk = Some store_fault.Disk
stop_of Damaged = Some store_fault.Damaged
stop_of NoMemory = Some store_fault.NoMemory

-- ---- the fault of a part, as the node's

abbrev pub of_store : StoreFault → NodeFault
of_store store_fault.NoMemory = NoMemory
of_store store_fault.Disk = Disk
of_store store_fault.Damaged = Damaged

abbrev pub of_proposer : ProposerFault → NodeFault
of_proposer proposer_fault.Full = Full
of_proposer proposer_fault.RoundsUsedUp = RoundsUsedUp
of_proposer (proposer_fault.Store fault) = of_store fault
