-- How far a delivery is, and that each of its steps keeps the order (own).
use Rattle.std.specs.Prelude.{ℕ, ◌≡◌, ◌<◌, ◌≤◌, ◌+◌, Bool, true, false, if◌then◌else◌, List, [], ◌∷◌, ◌++◌, length, max, nat_le, nat_lt, Option, Some, slice_get}
use Rattle.press_apply.specs.declared.command.Stamped.{Stamped}
use Rattle.press_client.specs.declared.delivery.Delivery.{Delivery}
use Rattle.press_client.specs.declared.delivery.Next.{Next}
use Rattle.press_client.specs.declared.delivery.Next.TheVariants as next
use Rattle.press_client.specs.declared.ending.Ending.{Ending}
use Rattle.press_client.specs.declared.ending.Ending.TheVariants.{NotTaken}
use Rattle.press_client.specs.declared.newsroom.FormAnswer.{FormAnswer}
use Rattle.press_client.specs.declared.newsroom.FormAnswer.TheVariants as taken
use Rattle.press_client.specs.declared.newsroom.OutcomeAnswer.{OutcomeAnswer}
use Rattle.press_client.specs.declared.newsroom.OutcomeAnswer.TheVariants as told
use Rattle.press_client.specs.Delivering.{AreEndings, AreInOrder, IsSettled, ending_of}
use Rattle.press_client.specs.Saying.{Said, Says}

-- what became of the first commands, and how many have ended, or are with the member at a place, of
-- so many; whether no more goes to that one before all that it has have ended, and how often it has
-- said that there is no outcome yet
pub record Course : Type 0 where
  pub commands : List Stamped
  pub members : ℕ
  pub place : ℕ
  pub endings : List Ending
  pub sent : ℕ
  pub is_held : Bool
  pub waited : ℕ

abbrev pub course_of : Delivery → Course
course_of d = record {
  commands = d.commands.now;
  members = d.members;
  place = d.place;
  endings = d.endings.items;
  sent = d.sent;
  is_held = d.is_held;
  waited = d.waited;
}

abbrev pub first_course : List Stamped → ℕ → Course
first_course commands members = record { commands = commands; members = members; place = 0; endings = []; sent = 0; is_held = false; waited = 0 }

-- ---- what an answer does to it

-- the member has none of them that hasn't ended
abbrev pub is_drained : Course → Bool
is_drained c = nat_le c.sent (length c.endings)

-- the next member, behind the last one the first
abbrev pub next_place : Course → ℕ
next_place c = if nat_lt (c.place + 1) c.members then c.place + 1 else 0

-- the next member gets what hasn't ended anew
abbrev pub at_next_member : Course → Course
at_next_member c = record c { place = next_place c; sent = length c.endings; is_held = false; waited = 0 }

-- no more goes to the member for now
abbrev pub on_hold : Course → Course
on_hold c = record c { is_held = true }

-- the oldest command has ended
abbrev pub after_ending : Ending → Course → Course
after_ending ending c = record c { endings = c.endings ++ ending ∷ []; sent = max c.sent (length c.endings + 1); is_held = false; waited = 0 }

-- the member is asked again, a thousand times at most
abbrev pub after_wait : Course → Course
after_wait c = if nat_le 1000 c.waited then at_next_member c else record c { waited = c.waited + 1 }

-- A member that takes no more, or refuses a command, is asked again once all that it has have
-- ended; one that has none is left for the next, and its refusal holds.
abbrev pub after_taken : FormAnswer → Course → Course
after_taken taken.Queued c = record c { sent = c.sent + 1 }
after_taken taken.Busy c = if is_drained c then at_next_member c else on_hold c
after_taken (taken.Refused status) c = if is_drained c then after_ending (NotTaken status) c else on_hold c
after_taken taken.Lost c = at_next_member c

abbrev pub after_told : OutcomeAnswer → Course → Course
after_told (told.Outcome outcome) c = after_ending (ending_of outcome) c
after_told told.NotYet c = after_wait c
after_told told.Lost c = at_next_member c

-- ---- what comes next

abbrev pub next_by_taken : FormAnswer → Course → Next
next_by_taken taken.Queued c = next.On
next_by_taken taken.Busy c = if is_drained c then next.Later else next.On
next_by_taken (taken.Refused status) c = if is_drained c then next.Note else next.On
next_by_taken taken.Lost c = next.Later

abbrev pub next_by_told : OutcomeAnswer → Next
next_by_told (told.Outcome outcome) = next.Note
next_by_told told.NotYet = next.Again
next_by_told told.Lost = next.Later

-- ---- what holds of it

-- by what was said
pub record Stands (said : List Said) (c : Course) : Type 0 where
  pub in_order : AreInOrder c.commands said
  pub ended : AreEndings c.commands said c.endings
  pub ahead : length c.endings ≤ c.sent
  pub within : c.sent ≤ length c.commands
  pub settled : (i : ℕ) (command : Stamped) → i < c.sent → slice_get c.commands i ≡ Some command → IsSettled said c.place command

-- from one moment to another it stands by what was said, and by what more was said between them
abbrev pub GoesOn : Option (List Said) → Option (List Said) → Course → Course → Type 0
GoesOn old new before after =
    (after.commands ≡ before.commands) × ((said : List Said) → Stands said before → (more : List Said) × Says old new more × Stands (more ++ said) after)
