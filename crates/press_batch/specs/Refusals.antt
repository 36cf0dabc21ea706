-- What a fault says (own).
use Rattle.std.specs.Prelude.{◌≡◌, Option, Some, Result, Err}
use Rattle.press_batch.specs.declared.fault.BatchFault.{BatchFault}
use Rattle.press_batch.specs.declared.fault.BatchFault.TheVariants.{NoMemory, TooLong, Short, BadVersion, BadMember, BadRecall, BadMessage, Extra}

-- the fault is that of the reading; out of memory may come at any growth
abbrev pub Refuses : {Y : Type 0} → BatchFault → Result Y BatchFault → Type 0
Refuses NoMemory read = Unit {0}
Refuses TooLong read = read ≡ Err TooLong
Refuses Short read = read ≡ Err Short
Refuses BadVersion read = read ≡ Err BadVersion
Refuses BadMember read = read ≡ Err BadMember
Refuses BadRecall read = read ≡ Err BadRecall
Refuses BadMessage read = read ≡ Err BadMessage
Refuses Extra read = read ≡ Err Extra

-- the fault is the refusal; out of memory may come at any growth
abbrev pub IsRefusal : Option BatchFault → BatchFault → Type 0
IsRefusal refusal NoMemory = Unit {0}
IsRefusal refusal TooLong = refusal ≡ Some TooLong
IsRefusal refusal Short = refusal ≡ Some Short
IsRefusal refusal BadVersion = refusal ≡ Some BadVersion
IsRefusal refusal BadMember = refusal ≡ Some BadMember
IsRefusal refusal BadRecall = refusal ≡ Some BadRecall
IsRefusal refusal BadMessage = refusal ≡ Some BadMessage
IsRefusal refusal Extra = refusal ≡ Some Extra
