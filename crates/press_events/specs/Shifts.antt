-- Changes of events, and the way back: an event that came in goes out, one that was moved goes to its old place, one that went comes in there, or all that stood
-- come back (own).
use Rattle.press_text.specs.Gives.{GivesOrStays}
use Rattle.std.specs.Prelude.{◌≡◌, ℕ, ◌<◌, ◌≤◌, List, [], length, insert, remove, slice_index_or, Bool, true, false, not, ◌&&◌, nat_eq, nat_le, if◌then◌else◌, Option, Some, None, is_some, Result, Ok, vec_capacity}
use Rattle.std.specs.Global.{Vec}
use Rattle.std.specs.List.{count_by, slice_get}
use Rattle.press_text.specs.declared.every.Every.{Every}
use Rattle.press_text.specs.declared.every.Every.TheVariants.{Once}
use Rattle.press_events.specs.declared.event.Event.{Event}
use Rattle.press_events.specs.declared.fault.EventFault.{EventFault}
use Rattle.press_events.specs.declared.shift.Shift.{Shift}
use Rattle.press_events.specs.declared.shift.Shift.TheVariants.{Came, Moved, Went, All}
use Rattle.press_events.specs.Marks.{mark}
use Rattle.press_events.specs.DueEvents.{IsSchedule, Refuses, cancel_events, is_of, moment_next, place_of, insert_event, stands}

-- ---- the way back

-- an event that was moved, put in as it stood
abbrev pub put_at : Option Event → ℕ → ℕ → Every → List Event → List Event
put_at None from time every events = events
put_at (Some e) from time every events = insert events from (record e { time = time; every = every })

abbrev pub shift_back : Shift → List Event → List Event
shift_back (Came place) events = remove events place
shift_back (Moved to from time every) events = put_at (slice_get events to) from time every (remove events to)
shift_back (Went place event room marks) events = insert events place event
shift_back (All stood) events = stood

-- an event that went, where it comes in again: they are then such as scheduling makes
abbrev pub FitsIn : ℕ → Event → List Event → Type 0
FitsIn place event events = (place ≤ length events) × IsSchedule (insert events place event)

-- room for one more than so many, with nothing in it
abbrev pub HasRoom : {T : Type 0} → Vec T → ℕ → Type 0
HasRoom room n = (room.items ≡ []) × (n < vec_capacity room)

-- where there is such a way, which leaves what scheduling makes; one that went has room for all
abbrev pub MayShiftBack : Shift → List Event → Type 0
MayShiftBack (Came place) events = place < length events
MayShiftBack (Moved to from time every) events = (to < length events) × (from < length events) × IsSchedule (shift_back (Moved to from time every) events)
MayShiftBack (Went place event room marks) events = FitsIn place event events × HasRoom room (length events) × HasRoom marks (length events)
MayShiftBack (All stood) events = Unit {0}

-- by it a change is taken back
abbrev pub ShiftsBack : Shift → List Event → List Event → Type 0
ShiftsBack shift new old = MayShiftBack shift new × (shift_back shift new ≡ old)

-- one that changed nothing has none
abbrev pub MayGoBack : Option Shift → List Event → List Event → Type 0
MayGoBack None new old = new ≡ old
MayGoBack (Some shift) new old = ShiftsBack shift new old

-- ---- scheduling, with the way back

abbrev pub Enters : Result (Option Shift) EventFault → Result (List Event × Bool) EventFault → List Event → List Event → Type 0
Enters result meant old new = GivesOrStays Refuses (λ shift. Ok (new, is_some shift)) result meant old new

-- ---- an event that gets another time and recurrence: None where there is none at the place, or another has the identity that it would get

abbrev pub move_among : Option Event → ℕ → Every → List Event → Option (List Event)
move_among None time every others = None
move_among (Some e) time every others =
    let new = record e { time = time; every = every } in if stands new others then None else Some (insert_event new others)

abbrev pub move_event : ℕ → ℕ → Every → List Event → Option (List Event)
move_event place time every events = move_among (slice_get events place) time every (remove events place)

-- ---- whether an event comes again once it is taken

abbrev pub comes_at : Option ℕ → Event → List Event → Bool
comes_at None e events = false
comes_at (Some time) e events = not (stands (record e { time = time }) events)

abbrev pub comes_of : Option ℕ → Event → ℕ → List Event → Bool
comes_of None event now events = false
comes_of (Some i) event now events = let e = slice_index_or events i event in comes_at (moment_next now e) e events

abbrev pub comes_again : Event → ℕ → List Event → Bool
comes_again event now events = comes_of (place_of event events) event now events

-- ---- one event of a hook and argument

-- an event of that identity
abbrev pub event_at : ℕ → List ℕ → List ℕ → Event
event_at time hook arg = record { time = time; hook = hook; arg = arg; every = Once }

-- whether one stands, and no other has an argument of its argument's number
abbrev pub stands_alone : ℕ → List ℕ → List ℕ → List Event → Bool
stands_alone time hook arg events = nat_le (count_by (λ e. nat_eq (mark arg) (mark e.arg)) events) 1 && is_some (place_of (event_at time hook arg) events)

-- whether the event at a place is the only one of its hook and argument
pub record IsOnly (hook arg : List ℕ) (place : ℕ) (events : List Event) : Type 0 where
  pub within : place < length events
  pub of_it : (d : Event) → is_of hook arg (slice_index_or events place d) ≡ true
  pub only : cancel_events hook arg events ≡ remove events place
