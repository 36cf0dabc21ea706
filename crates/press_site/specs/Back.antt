-- The way back: what was kept is put back, the last change first.
use Rattle.std.specs.Prelude.{◌≡◌, ◌≢◌, List, [], ◌∷◌, Bool, true, false, ◌||◌, is_none, is_some, unwrap_or, Option, None, Some, Result, Ok, Err, IfOk, MatchResult}
use Rattle.press_events.specs.declared.event.Event.{Event}
use Rattle.press_events.specs.declared.shift.Shift.{Shift}
use Rattle.press_events.specs.Shifts.{MayShiftBack, shift_back}
use Rattle.press_posts.specs.declared.post.Post.{Post}
use Rattle.press_posts.specs.Restored.{restore_post, IsRestorable}
use Rattle.press_text.specs.Gives.{GivesOrStays}
use Rattle.press_site.specs.declared.changed.Changed.{Changed}
use Rattle.press_site.specs.declared.stood.Done.{Done}
use Rattle.press_site.specs.declared.stood.Stood.{Stood}
use Rattle.press_site.specs.declared.stood.Stood.TheVariants.{OfPost, OfOption}
use Rattle.press_site.specs.declared.stood.Undone.{Undone}
use Rattle.press_site.specs.declared.fault.SiteFault.{SiteFault}
use Rattle.press_site.specs.declared.fault.SiteFault.TheVariants.{NoMemory}
use Rattle.press_site.specs.Becomes.{Becomes, Refuses}
use Rattle.press_site.specs.Contents.{ChangesSome}
use Rattle.press_site.specs.ContentView.{ContentView}
use Rattle.press_site.specs.Log.{Log, note_grows, stood_before}
use Rattle.press_site.specs.Options.{Values, put_back}
use Rattle.press_site.specs.SiteView.{SiteView}

-- ---- what stood at one place: of a post it leaves the options, of an option the posts

abbrev pub post_back : Stood → List (Option Post) → List (Option Post)
post_back (OfPost id post) posts = restore_post id post posts
post_back (OfOption name value) posts = posts

abbrev pub option_back : Stood → Values → Values
option_back (OfPost id post) options = options
option_back (OfOption name value) options = put_back name value options

abbrev pub MayPostGoBack : Stood → List (Option Post) → Type 0
MayPostGoBack (OfPost id post) posts = IsRestorable id post posts
MayPostGoBack (OfOption name value) posts = Unit {0}

-- ---- all that stood

abbrev pub posts_back : List Stood → List (Option Post) → List (Option Post)
posts_back [] posts = posts
posts_back (w ∷ ws) posts = post_back w (posts_back ws posts)

abbrev pub options_back : List Stood → Values → Values
options_back [] options = options
options_back (w ∷ ws) options = option_back w (options_back ws options)

abbrev pub MayPostsGoBack : List Stood → List (Option Post) → Type 0
MayPostsGoBack [] posts = Unit {0}
MayPostsGoBack (w ∷ ws) posts = MayPostGoBack w (posts_back ws posts) × MayPostsGoBack ws posts

-- ---- events

abbrev pub events_back : List Shift → List Event → List Event
events_back [] events = events
events_back (w ∷ ws) events = shift_back w (events_back ws events)

abbrev pub MayEventsGoBack : List Shift → List Event → Type 0
MayEventsGoBack [] events = Unit {0}
MayEventsGoBack (w ∷ ws) events = MayShiftBack w (events_back ws events) × MayEventsGoBack ws events

-- by the way back of one change, if it has one
abbrev pub event_back : Option Shift → List Event → List Event
event_back None events = events
event_back (Some shift) events = shift_back shift events

abbrev pub MayEventBack : Option Shift → List Event → Type 0
MayEventBack None events = Unit {0}
MayEventBack (Some shift) events = MayShiftBack shift events

-- ---- one change

abbrev pub site_back : Undone → SiteView → SiteView
site_back u s = record s {
  posts = posts_back (stood_before u) s.posts;
  events = event_back u.shift s.events;
  options = options_back (stood_before u) s.options;
  active = unwrap_or u.active s.active;
  profile = unwrap_or u.profile s.profile;
}

-- with what a change of posts and events answers it may be taken back; events alone are told only where they are wanted
pub record ContentGoesBack (wants : Bool) (undone : Undone) (new old : ContentView) : Type 0 where
  pub may : MayPostsGoBack (stood_before undone) new.posts
  pub same_posts : posts_back (stood_before undone) new.posts ≡ old.posts
  pub may_events : MayEventBack undone.shift new.events
  pub same_events : (wants || is_some undone.stood) ≡ true → event_back undone.shift new.events ≡ old.events
  pub no_options : (options : Values) → options_back (stood_before undone) options ≡ options
  pub no_active : undone.active ≡ None
  pub no_profile : undone.profile ≡ None

-- with what any change answers; without what stood at a place, events are told only where they are wanted
pub record GoesBack (wants : Bool) (undone : Undone) (new old : SiteView) : Type 0 where
  pub may : MayPostsGoBack (stood_before undone) new.posts
  pub same_posts : posts_back (stood_before undone) new.posts ≡ old.posts
  pub may_events : MayEventBack undone.shift new.events
  pub same_events : (wants || is_some undone.stood) ≡ true → event_back undone.shift new.events ≡ old.events
  pub same_options : options_back (stood_before undone) new.options ≡ old.options
  pub same_active : unwrap_or undone.active new.active ≡ old.active
  pub same_profile : unwrap_or undone.profile new.profile ≡ old.profile
  pub same_moment : new.moment ≡ old.moment
  pub same_outcomes : new.outcomes ≡ old.outcomes

abbrev pub Does : {S : Type 0} → Result Done SiteFault → Result (S × Changed) SiteFault → S → S → Type 0
Does result meant old new = GivesOrStays Refuses (λ d. Ok (new, d.changed)) result meant old new

-- ---- all changes since

abbrev pub log_back : Log → SiteView → SiteView
log_back log s = record s {
  posts = posts_back log.stood s.posts;
  events = events_back log.shifts (unwrap_or log.events s.events);
  options = options_back log.stood s.options;
  active = unwrap_or log.active s.active;
  profile = unwrap_or log.profile s.profile;
}

abbrev pub MayLogGoBack : Log → List (Option Post) → List Event → Type 0
MayLogGoBack log posts events = MayPostsGoBack log.stood posts × MayEventsGoBack log.shifts (unwrap_or log.events events)

-- ---- what a change leaves of it: what stood when the site was begun, and that it may go back

pub record Keeps (old : Log) (before : SiteView) (new : Log) (after : SiteView) : Type 0 where
  pub same : log_back new after ≡ log_back old before
  pub may : MayLogGoBack old before.posts before.events → MayLogGoBack new after.posts after.events

-- what becomes of a change that is done, where it is noted: it means what it meant before
abbrev pub Notes : Result Done SiteFault → Result Changed SiteFault → SiteView → SiteView → Log → Log → Type 0
Notes done result given site old new =
    (meant : Result (SiteView × Changed) SiteFault) (before : SiteView) → Does done meant before given → IfOk done (λ d. GoesBack (is_none old.events) d.undone given before) →
    IfOk done (λ d. d.changed.did ≡ false → given ≡ before) → Becomes result meant before site × Keeps old before new site

-- and when out of memory comes of it
abbrev pub NotesSome : Result Done SiteFault → Result Changed SiteFault → SiteView → Type 0
NotesSome done result given =
    (meant : Result (SiteView × Changed) SiteFault) (before : SiteView) → Does done meant before given → (done ≡ Err NoMemory → ChangesSome meant) → result ≡ Err NoMemory → ChangesSome meant

-- a change that takes no memory, nor does its note
abbrev pub TakesNone : Result Done SiteFault → Type 0
TakesNone result = MatchResult result (λ d. note_grows d.undone ≡ false) (λ f. f ≢ NoMemory)
