-- The events beside a post's change, found before it is made.
use Rattle.std.specs.Prelude.{◌≡◌, ◌<◌, List, length, remove, is_some, unwrap_or, true, Ok}
use Rattle.press_text.specs.declared.every.Every.TheVariants.{Once}
use Rattle.press_events.specs.declared.event.Event.{Event}
use Rattle.press_events.specs.DueEvents.{add_event, insert_event}
use Rattle.press_events.specs.Shifts.{move_event}
use Rattle.press_site.specs.declared.content.Beside.{Beside}
use Rattle.press_site.specs.declared.content.Beside.TheVariants.{Same, Came, Moved, Gone, Others}

abbrev pub events_beside : Beside → List Event → List Event
events_beside Same events = events
events_beside (Came event) events = insert_event event events
events_beside (Moved place date) events = unwrap_or (move_event place date Once events) events
events_beside (Gone place) events = remove events place
events_beside (Others others) events = others

-- an event comes in, or comes at another date, by the rules of scheduling; one that goes is there
abbrev pub MayStandBeside : Beside → List Event → Type 0
MayStandBeside Same events = Unit {0}
MayStandBeside (Came event) events = add_event event events ≡ Ok (insert_event event events, true)
MayStandBeside (Moved place date) events = is_some (move_event place date Once events) ≡ true
MayStandBeside (Gone place) events = place < length events
MayStandBeside (Others others) events = Unit {0}
