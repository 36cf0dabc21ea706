-- The number of each fault of a run, and the faults that stand for those of streams and of files
-- (own).
use Rattle.std.specs.Prelude.{ℕ}
use Rattle.press_text.specs.declared.streams.ReadLimitedFault.{ReadLimitedFault}
use Rattle.press_text.specs.declared.streams.ReadLimitedFault.TheVariants as reading
use Rattle.press_kit.specs.declared.fault.KitFileFault.{KitFileFault}
use Rattle.press_kit.specs.declared.fault.KitFileFault.TheVariants as file
use Rattle.press_world.specs.declared.replay_fault.ReplayFault.{ReplayFault}
use Rattle.press_world.specs.declared.replay_fault.ReplayFault.TheVariants.{NoMemory, ReadFault, WriteFault, BadSchedule}

abbrev pub fault_number : ReplayFault → ℕ
fault_number NoMemory = 0
fault_number ReadFault = 40
fault_number WriteFault = 42
fault_number BadSchedule = 72

-- a file that is too long gives nothing
abbrev pub fault_of_reading : ReadLimitedFault → ReplayFault
fault_of_reading reading.NoMemory = NoMemory
fault_of_reading reading.ReadFault = ReadFault
fault_of_reading reading.TooLong = BadSchedule

-- wherever a file is bad
abbrev pub fault_of_file : KitFileFault → ReplayFault
fault_of_file file.NoMemory = NoMemory
fault_of_file (file.BadKitFile place) = BadSchedule
