-- What an open site keeps to go back by: what stood where posts and options were changed, and the ways back of the events, the last changed last; all events
-- that stood, once they were kept, which go back before those ways; and the active plugins and the profile that stood before their first change.
use Rattle.std.specs.Prelude.{ℕ, List, [], ◌∷◌, ◌++◌, Bool, true, false, ◌&&◌, ◌||◌, is_none, is_some, Option, None, Some}
use Rattle.press_events.specs.declared.event.Event.{Event}
use Rattle.press_events.specs.declared.shift.Shift.{Shift}
use Rattle.press_events.specs.declared.shift.Shift.TheVariants.{Came, Moved, Went, All}
use Rattle.press_site.specs.declared.stood.Stood.{Stood}
use Rattle.press_site.specs.declared.stood.Undone.{Undone}

pub record Log : Type 0 where
  pub stood : List Stood
  pub shifts : List Shift
  pub events : Option (List Event)
  pub active : Option (List (List ℕ))
  pub profile : Option ℕ

-- nothing changed since
abbrev pub fresh : Log
fresh = record { stood = []; shifts = []; events = None; active = None; profile = None }

abbrev pub first_kept : {A : Type 0} → Option A → Option A → Option A
first_kept None stood = stood
first_kept (Some kept) stood = Some kept

abbrev pub with_stood : Option Stood → List Stood → List Stood
with_stood None ws = ws
with_stood (Some w) ws = ws ++ w ∷ []

-- what stood before one change, if it was at one place
abbrev pub stood_before : Undone → List Stood
stood_before undone = with_stood undone.stood []

-- ---- the way back of a change of events: by places, or all that stood

abbrev pub with_shift : Option Shift → List Shift → List Shift
with_shift None ws = ws
with_shift (Some (Came place)) ws = ws ++ Came place ∷ []
with_shift (Some (Moved to from time every)) ws = ws ++ Moved to from time every ∷ []
with_shift (Some (Went place event room marks)) ws = ws ++ Went place event room marks ∷ []
with_shift (Some (All stood)) ws = ws

abbrev pub all_of : Option Shift → Option (List Event)
all_of None = None
all_of (Some (Came place)) = None
all_of (Some (Moved to from time every)) = None
all_of (Some (Went place event room marks)) = None
all_of (Some (All stood)) = Some stood

-- nothing more of them is kept once all are
abbrev pub more_shifts : Option (List Event) → Option Shift → List Shift → List Shift
more_shifts None shift ws = with_shift shift ws
more_shifts (Some stood) shift ws = ws

-- ---- an event that goes leaves room for all: where it isn't the first change of events, all that stand after it are kept, so that no third room is

abbrev pub some_kept : List Shift → Bool
some_kept [] = false
some_kept (w ∷ ws) = true

abbrev pub fills : Option Shift → List Shift → Bool
fills None ws = false
fills (Some (Came place)) ws = false
fills (Some (Moved to from time every)) ws = false
fills (Some (Went place event room marks)) ws = some_kept ws
fills (Some (All stood)) ws = false

abbrev pub where_filled : Bool → List Event → Option (List Event)
where_filled true events = Some events
where_filled false events = None

-- whether to note a change may take memory: one at a place, or one of events
abbrev pub note_grows : Undone → Bool
note_grows undone = is_some undone.stood || is_some undone.shift

-- after a change, and with the events that stand then
abbrev pub note_change : Undone → List Event → Log → Log
note_change undone events log = record {
  stood = with_stood undone.stood log.stood;
  shifts = more_shifts log.events undone.shift log.shifts;
  events = first_kept (first_kept log.events (all_of undone.shift)) (where_filled (is_none log.events && fills undone.shift log.shifts) events);
  active = first_kept log.active undone.active;
  profile = first_kept log.profile undone.profile;
}
