-- What an error of a connection says of its store (own): the numbers 0, 50 and 51.
use Rattle.sqlite.specs.declared.error.Error.{Error}
use Rattle.sqlite.specs.declared.error.Error.TheVariants.{SqliteFailure}
use Rattle.sqlite.specs.declared.error.ErrorCode.TheVariants.{OutOfMemory, SystemIoFailure, DatabaseCorrupt, DiskFull, TooBig}
use Rattle.press_acceptor.specs.declared.fault.StoreFault.{StoreFault}
use Rattle.press_acceptor.specs.declared.fault.StoreFault.TheVariants.{NoMemory, Disk, Damaged}

-- out of memory, the disk or a size; and damage for any other cause
abbrev pub store_fault_of : Error → StoreFault
store_fault_of (SqliteFailure OutOfMemory) = NoMemory
store_fault_of (SqliteFailure SystemIoFailure) = Disk
store_fault_of (SqliteFailure DatabaseCorrupt) = Disk
store_fault_of (SqliteFailure DiskFull) = Disk
store_fault_of (SqliteFailure TooBig) = Disk
store_fault_of _ = Damaged
