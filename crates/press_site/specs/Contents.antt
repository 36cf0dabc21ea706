-- Changes of posts and events. Each change of a post takes out the events of `publish_future_post` with its id as argument, and where its new status is
-- future, one at its date comes (`_future_post_hook`, `check_and_publish_future_post`; limits and the order of refusals are own).
use Rattle.std.specs.Prelude.{◌≡◌, ℕ, List, [], length, Bool, true, false, nat_le, if◌then◌else◌, codes, decimal, Option, Some, None, is_some, Result, Ok, Err}
use Rattle.press_text.specs.declared.every.Every.TheVariants.{Once}
use Rattle.press_events.specs.declared.event.Event.{Event}
use Rattle.press_events.specs.declared.fault.EventFault.{EventFault}
use Rattle.press_events.specs.DueEvents.{add_event, cancel_events, place_of, insert_event, take_event}
use Rattle.press_posts.specs.declared.fault.PostFault.{PostFault}
use Rattle.press_posts.specs.declared.post.Move.{Move}
use Rattle.press_posts.specs.declared.post.Post.{Post}
use Rattle.press_posts.specs.declared.status.Status.{Status}
use Rattle.press_posts.specs.PostChange as post
use Rattle.press_site.specs.declared.changed.Changed.{Changed}
use Rattle.press_site.specs.declared.fault.SiteFault.{SiteFault}
use Rattle.press_site.specs.declared.fault.SiteFault.TheVariants.{NoSuchPost, TooManyEvents}
use Rattle.press_site.specs.ContentView.{ContentView}
use Rattle.press_site.specs.Faults.{of_posts, of_events}

abbrev pub publish_event : ℕ → ℕ → Event
publish_event id date = record { time = date; hook = codes "publish_future_post"; arg = decimal id; every = Once }

abbrev pub events_without : ℕ → List Event → List Event
events_without id events = cancel_events (codes "publish_future_post") (decimal id) events

-- the events beside a post, given the moment of the one that comes
abbrev pub events_of : Option ℕ → ℕ → List Event → Result (List Event) SiteFault
events_of None id events = Ok (events_without id events)
events_of (Some date) id events =
    if nat_le 4096 (length (events_without id events)) then Err TooManyEvents else Ok (insert_event (publish_event id date) (events_without id events))

abbrev pub events_where : Bool → Option ℕ → ℕ → List Event → Result (List Event) SiteFault
events_where true comes id events = events_of comes id events
events_where false comes id events = Ok events

abbrev pub beside : post.ChangeResult → Result (List Event) SiteFault → Result (ContentView × Changed) SiteFault
beside c (Ok events) = Ok (record { posts = c.posts; events = events }, record { id = c.id; did = c.goes; fires = c.fires })
beside c (Err fault) = Err fault

abbrev pub with_events : Result post.ChangeResult PostFault → List Event → Result (ContentView × Changed) SiteFault
with_events (Ok c) events = beside c (events_where c.goes c.comes c.id events)
with_events (Err fault) events = Err (of_posts fault)

-- the posts' own change and refusals, then those of the events
abbrev pub post_effect : ContentView → post.Change → ℕ → Result (ContentView × Changed) SiteFault
post_effect v change now = with_events (post.post_change v.posts change now) v.events

abbrev pub some_events : Result (List Event) SiteFault → Result (Option (List Event)) SiteFault
some_events (Ok events) = Ok (Some events)
some_events (Err fault) = Err fault

-- the events beside a post that is moved, none where it stays as it is
abbrev pub beside_status : Result (Option Status) PostFault → ℕ → ℕ → List Event → Result (Option (List Event)) SiteFault
beside_status (Ok (Some status)) date id events = some_events (events_of (post.comes status date) id events)
beside_status (Ok None) date id events = Ok None
beside_status (Err fault) date id events = Err (of_posts fault)

abbrev pub beside_move : Option Post → Move → ℕ → List Event → Result (Option (List Event)) SiteFault
beside_move None to id events = Err NoSuchPost
beside_move (Some p) to id events = beside_status (post.status_after_move to p) p.date id events

-- whether the move changes it
abbrev pub MovesPost : Result (Option (List Event)) SiteFault → Type 0
MovesPost (Ok (Some events)) = Unit {0}
MovesPost (Ok None) = ⊥
MovesPost (Err fault) = ⊥

-- whether a change changes anything; what changes nothing takes no memory
abbrev pub ChangesSome : {S : Type 0} → Result (S × Changed) SiteFault → Type 0
ChangesSome (Ok after) = after.1.did ≡ true
ChangesSome (Err fault) = ⊥

-- ---- events alone: whether one was put in or taken

abbrev pub no_post : Bool → Changed
no_post did = record { id = 0; did = did; fires = [] }

abbrev pub put_in : Result (List Event × Bool) EventFault → ContentView → Result (ContentView × Changed) SiteFault
put_in (Ok after) v = Ok (record v { events = after.0 }, no_post after.1)
put_in (Err fault) v = Err (of_events fault)

abbrev pub add_event_effect : ContentView → Event → Result (ContentView × Changed) SiteFault
add_event_effect v event = put_in (add_event event v.events) v

abbrev pub take_event_effect : ContentView → Event → ℕ → ContentView × Changed
take_event_effect v event now = (record v { events = take_event event now v.events }, no_post (is_some (place_of event v.events)))
