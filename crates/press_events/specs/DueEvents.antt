-- Scheduled events (Plugin Handbook, Cron: `wp_schedule_event`, `wp_clear_scheduled_hook`, `wp_reschedule_event`, `wp_get_schedules`; that nearness in time
-- refuses nothing, limits and what a taken event becomes are own).
-- Events are ordered by time, then in the order in which they were scheduled. The identity of one is its time, hook and argument.
use Rattle.press_text.specs.Gives.{GivesOrStays}
use Rattle.std.specs.Prelude.{◌≡◌, ℕ, ◌<◌, ◌≤◌, ◌+◌, ◌-◌, ◌*◌, ◌/◌, List, [], ◌∷◌, length, filter, insert, remove, position, unwrap_or, slice_index_or, Bool, true, false, not, ◌&&◌, nat_eq, nat_lt, nat_le, bytes_eq, if◌then◌else◌, Option, Some, None, Result, Ok, Err}
use Rattle.std.specs.List.{list_any}
use Rattle.press_text.specs.Moments.{moment_of}
use Rattle.press_text.specs.declared.every.Every.{Every}
use Rattle.press_text.specs.declared.every.Every.TheVariants.{Once, Hourly, TwiceDaily, Daily}
use Rattle.press_events.specs.declared.event.Event.{Event}
use Rattle.press_events.specs.declared.fault.EventFault.{EventFault}
use Rattle.press_events.specs.declared.fault.EventFault.TheVariants.{NoMemory, TooLong, TooManyEvents}

-- ---- which events

abbrev pub is_of : List ℕ → List ℕ → Event → Bool
is_of hook arg e = bytes_eq e.hook hook && bytes_eq e.arg arg

abbrev pub is_same : Event → Event → Bool
is_same e other = nat_eq e.time other.time && is_of other.hook other.arg e

-- where the event of this identity is
abbrev pub place_of : Event → List Event → Option ℕ
place_of event events = position (λ e. is_same e event) events

abbrev pub stands : Event → List Event → Bool
stands event events = list_any (λ e. is_same e event) events

abbrev pub is_earlier : ℕ → Event → Bool
is_earlier moment e = nat_lt e.time moment

abbrev pub is_later : ℕ → Event → Bool
is_later moment e = nat_lt moment e.time

abbrev pub is_due : ℕ → Event → Bool
is_due now e = nat_le e.time now

-- ---- the order: none of the events behind one is earlier

abbrev pub NoneBefore : ℕ → List Event → Type 0
NoneBefore time [] = Unit {0}
NoneBefore time (e ∷ es) = (time ≤ e.time) × NoneBefore time es

abbrev pub IsByTime : List Event → Type 0
IsByTime [] = Unit {0}
IsByTime (e ∷ es) = NoneBefore e.time es × IsByTime es

-- ---- scheduling: before the first event that is later, or last

abbrev pub place_in : ℕ → List Event → ℕ
place_in time events = unwrap_or (position (is_later time) events) (length events)

abbrev pub insert_event : Event → List Event → List Event
insert_event e events = insert events (place_in e.time events) e

-- the events after it, and whether it was put in; or its refusal
abbrev pub add_event : Event → List Event → Result (List Event × Bool) EventFault
add_event e events =
    if nat_lt 256 (length e.arg) then Err TooLong else
    (if stands e events then Ok (events, false) else
    (if nat_le 4096 (length events) then Err TooManyEvents else Ok (insert_event e events, true)))

-- ---- cancelling takes out each event of the hook and argument

abbrev pub cancels : List ℕ → List ℕ → List Event → Bool
cancels hook arg events = list_any (is_of hook arg) events

abbrev pub cancel_events : List ℕ → List ℕ → List Event → List Event
cancel_events hook arg events = filter (λ e. not (is_of hook arg e)) events

-- whether there is no room for another event once these are out
abbrev pub is_full_without : List ℕ → List ℕ → List Event → Bool
is_full_without hook arg events = nat_le 4096 (length (cancel_events hook arg events))

-- ---- due events: those of a time at most now

abbrev pub due : ℕ → List Event → List Event
due now events = filter (is_due now) events

-- ---- taking an event: one that is scheduled as Once goes; another is scheduled anew, at the least time + n intervals after now (n at least 1).
-- Where an event of that identity is scheduled already, or that is past the greatest moment, it goes too.

abbrev pub interval : Every → Option ℕ
interval Once = None
interval Hourly = Some 3600
interval TwiceDaily = Some 43200
interval Daily = Some 86400

abbrev pub moment_after : ℕ → ℕ → ℕ → ℕ
moment_after interval time now = time + ((now - time) / interval + 1) * interval

-- a moment by which so many intervals, at least one, have passed since the time; it is after now, and no such moment is earlier
pub record IsLeastAfter (interval time now moment : ℕ) : Type 0 where
  pub counts : (n : ℕ) × ((1 ≤ n) × (moment ≡ time + n * interval))
  pub later : now < moment
  pub least : (n : ℕ) → 1 ≤ n → now < time + n * interval → moment ≤ time + n * interval

abbrev pub moment_again : Option ℕ → ℕ → ℕ → Option ℕ
moment_again None time now = None
moment_again (Some interval) time now = moment_of (moment_after interval time now)

-- when an event comes again
abbrev pub moment_next : ℕ → Event → Option ℕ
moment_next now e = moment_again (interval e.every) e.time now

abbrev pub put_again : Event → List Event → List Event
put_again e events = if stands e events then events else insert_event e events

abbrev pub again : Option ℕ → Event → List Event → List Event
again None e events = events
again (Some time) e events = put_again (record e { time = time }) events

abbrev pub take_event_at : Option ℕ → Event → ℕ → List Event → List Event
take_event_at None event now events = events
take_event_at (Some i) event now events = let e = slice_index_or events i event in again (moment_next now e) e (remove events i)

abbrev pub take_event : Event → ℕ → List Event → List Event
take_event event now events = take_event_at (place_of event events) event now events

-- ---- one event of each identity

abbrev pub HasEachOnce : List Event → Type 0
HasEachOnce [] = Unit {0}
HasEachOnce (e ∷ es) = (stands e es ≡ false) × HasEachOnce es

-- ---- what scheduling makes: events by time, one of each identity, with no argument over 256 bytes, and at most 4,096

abbrev pub AreShort : List Event → Type 0
AreShort [] = Unit {0}
AreShort (e ∷ es) = (length e.arg ≤ 256) × AreShort es

pub record IsSchedule (events : List Event) : Type 0 where
  pub by_time : IsByTime events
  pub once : HasEachOnce events
  pub short : AreShort events
  pub few : length events ≤ 4096

-- events that are added to others one by one; a refused one leaves what was there
abbrev pub after_adding : Result (List Event × Bool) EventFault → List Event → List Event
after_adding (Ok after) events = after.0
after_adding (Err fault) events = events

abbrev pub add_all : List Event → List Event → List Event
add_all [] events = events
add_all (e ∷ es) events = add_all es (after_adding (add_event e events) events)

-- ---- what `add` answers: a fault leaves the events as they were; out of memory comes only where the event would be put in

abbrev pub IsPutIn : Result (List Event × Bool) EventFault → Type 0
IsPutIn (Ok after) = after.1 ≡ true
IsPutIn (Err f) = ⊥

abbrev pub Refuses : EventFault → Result (List Event × Bool) EventFault → Type 0
Refuses NoMemory meant = IsPutIn meant
Refuses TooLong meant = meant ≡ Err TooLong
Refuses TooManyEvents meant = meant ≡ Err TooManyEvents

abbrev pub Adds : Result Bool EventFault → Result (List Event × Bool) EventFault → List Event → List Event → Type 0
Adds result meant old new = GivesOrStays Refuses (λ added. Ok (new, added)) result meant old new
