-- Which batches bring something (own).
use Rattle.press_starts.specs.declared.hearing.Hearing.{Hearing}
use Rattle.press_starts.specs.declared.hearing.Hearing.TheVariants.{Heard, Stale, Unanswered, Forgotten}

-- nothing of the batch is heard
abbrev pub IsUnheard : Hearing → Type 0
IsUnheard Heard = ⊥
IsUnheard Stale = ⊥
IsUnheard Unanswered = Unit {0}
IsUnheard Forgotten = Unit {0}
