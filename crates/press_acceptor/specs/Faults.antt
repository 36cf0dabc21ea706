-- The number of each fault of a store (own).
use Rattle.std.specs.Prelude.{ℕ}
use Rattle.press_acceptor.specs.declared.fault.StoreFault.{StoreFault}
use Rattle.press_acceptor.specs.declared.fault.StoreFault.TheVariants.{NoMemory, Disk, Damaged}

abbrev pub store_fault_number : StoreFault → ℕ
store_fault_number NoMemory = 0
store_fault_number Disk = 50
store_fault_number Damaged = 51
