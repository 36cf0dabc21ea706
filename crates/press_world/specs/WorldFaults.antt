-- The number of each fault of a step (own).
use Rattle.std.specs.Prelude.{ℕ}
use Rattle.press_node.specs.Faults.{node_fault_number}
use Rattle.press_world.specs.declared.fault.WorldFault.{WorldFault}
use Rattle.press_world.specs.declared.fault.WorldFault.TheVariants.{NoSuchMessage, NoSuchNode, Node}

abbrev pub world_fault_number : WorldFault → ℕ
world_fault_number NoSuchMessage = 70
world_fault_number NoSuchNode = 71
world_fault_number (Node fault) = node_fault_number fault
