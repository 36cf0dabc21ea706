-- What a member tells the others of its starts and theirs, and which of their batches it hears (own). A member whose store keeps no starts tells nothing of them, and hears those that do likewise.
use Rattle.std.specs.Prelude.{ℕ, Bool, false, true, Option, None, Some, is_some, option_map}
use Rattle.press_batch.specs.declared.head.Head.{Head}
use Rattle.press_batch.specs.declared.report.Report.{Report}
use Rattle.press_starts.specs.Files.{with_saves}
use Rattle.press_starts.specs.Witnesses.{WitnessView, after_recall, hearing_of, recall_of}
use Rattle.press_starts.specs.declared.hearing.Hearing.{Hearing}
use Rattle.press_starts.specs.declared.hearing.Hearing.TheVariants.{Heard, Unanswered}
use Rattle.press_starts.specs.declared.mark.Mark.{Mark}
use Rattle.press_starts.specs.declared.recall.Recall.{Recall}

-- the start that runs has made the saves that its store has
abbrev pub counted : Option Mark → WitnessView → WitnessView
counted None witness = witness
counted (Some mark) witness = record witness { file = with_saves mark.saves witness.file }

-- what goes to a member with a batch
abbrev pub recall_for : Option Mark → Option WitnessView → ℕ → Option Recall
recall_for mark witness to = option_map (λ w. recall_of (counted mark w) to) witness

-- what stands before the messages to a member
abbrev pub head_for : ℕ → Report → Option Mark → Option WitnessView → ℕ → Head
head_for own report mark witness to = record { from = own; report = report; recall = recall_for mark witness to }

-- what becomes of a batch
abbrev pub hearing_by : Option WitnessView → ℕ → Option Recall → Hearing
hearing_by None from None = Heard
hearing_by None from (Some recall) = Unanswered
hearing_by (Some witness) from None = Unanswered
hearing_by (Some witness) from (Some recall) = hearing_of witness from recall

-- what is known after it
abbrev pub witness_after : Option WitnessView → ℕ → Option Recall → Option WitnessView
witness_after None from recall = None
witness_after (Some witness) from None = Some witness
witness_after (Some witness) from (Some recall) = Some (after_recall from recall witness)

-- it was told what its store lacks
abbrev pub has_forgotten : Option WitnessView → Bool
has_forgotten None = false
has_forgotten (Some witness) = is_some witness.reminder
