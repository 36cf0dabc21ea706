-- A change that changes nothing leaves the site as it was, and takes no memory.
use Rattle.std.proofs.Common.{◌≡◌, refl, sym, ap, subst, ℕ, ◌+◌, Bool, true, false, List, [], ◌∷◌, Option, Some, None}
use Rattle.std.specs.Prelude.{Result, Ok, Err, IfOk, bytes_eq, nat_le, nat_lt, length, is_some, if◌then◌else◌}
use Rattle.press_events.specs.DueEvents.{IsPutIn, place_of, insert_event, stands, take_event_at}
use Rattle.press_events.specs.declared.event.Event.{Event}
use Rattle.press_events.specs.declared.fault.EventFault.{EventFault}
use Rattle.press_events.specs.declared.fault.EventFault.TheVariants as event_fault
use Rattle.press_posts.specs.PostChange as post
use Rattle.press_posts.specs.PostChange.Change.{Insert as PostInsert, Edit as PostEdit, Moves as PostMoves, Delete as PostDelete}
use Rattle.press_posts.specs.declared.draft.Draft as draft
use Rattle.press_posts.specs.declared.fault.PostFault.{PostFault}
use Rattle.press_posts.specs.declared.fault.PostFault.TheVariants as post_fault
use Rattle.press_posts.specs.declared.fire.Fire.{Fire}
use Rattle.press_posts.specs.declared.post.Move.{Move}
use Rattle.press_posts.specs.declared.post.Post.{Post}
use Rattle.press_posts.specs.declared.status.Status.{Status}
use Rattle.press_site.specs.declared.changed.Changed.{Changed}
use Rattle.press_site.specs.declared.effect.Effect.{Effect}
use Rattle.press_site.specs.declared.effect.Effect.TheVariants.{Insert, Edit, Move as MovePost, Delete, SetOption, Schedule, Take, Activate, Deactivate, Profile}
use Rattle.press_site.specs.declared.fault.SiteFault.{SiteFault}
use Rattle.press_site.specs.declared.fault.SiteFault.TheVariants.{NoMemory, TooLong, TooManyOptions}
use Rattle.press_site.specs.declared.stood.Done.{Done}
use Rattle.press_site.specs.Back.{Does}
use Rattle.press_site.specs.Becomes.{MayGrow}
use Rattle.press_site.specs.Contents.{ChangesSome, MovesPost, beside, beside_move, beside_status, events_of, events_where, put_in, some_events, take_event_effect, with_events}
use Rattle.press_site.specs.ContentView.{ContentView}
use Rattle.press_site.specs.Effects.{content_of, effect_on, option_change, with_content, with_options, with_plugins, with_profile}
use Rattle.press_site.specs.Options.{SetsSome, Values, option_add_fire, option_of, put_option, set_over, option_update_fire}
use Rattle.press_site.specs.Plugins.{activate_plugin, deactivate_plugin}
use Rattle.press_site.specs.Profile.{switch_profile}
use Rattle.press_site.specs.SiteView.{SiteView}

-- ---- what changed nothing leaves what stood

abbrev pub Stays : {S : Type 0} → Result (S × Changed) SiteFault → S → Type 0
Stays (Ok after) old = after.1.did ≡ false → after.0 ≡ old
Stays (Err fault) old = Unit {0}

beside_stays : (c : post.ChangeResult) (r : Result (List Event) SiteFault) (v : ContentView) → c.goes ≡ true → Stays (beside c r) v
beside_stays c (Ok events) v g = λ d. absurd (cc)
beside_stays c (Err fault) v g = tt

unless_stays : (f : Option PostFault) (c : post.ChangeResult) (v : ContentView) → c.goes ≡ true → Stays (with_events (post.unless f c) v.events) v
unless_stays None c v g = beside_stays c (events_where c.goes c.comes c.id v.events) v g
unless_stays (Some fault) c v g = tt

edit_stays : (o : Option Post) (id : ℕ) (d : draft.Draft) (now : ℕ) (v : ContentView) → Stays (with_events (post.of_post o (λ p. post.unless (post.edit_fault d p) (post.edit_post (post.post_of id d now) p v.posts))) v.events) v
edit_stays None id d now v = tt
edit_stays (Some p) id d now v = unless_stays (post.edit_fault d p) (post.edit_post (post.post_of id d now) p v.posts) v refl

moved_stays : (r : Result (Option Status) PostFault) (id : ℕ) (p : Post) (v : ContentView) → Stays (with_events (post.move_post id r p v.posts) v.events) v
moved_stays (Ok (Some status)) id p v = beside_stays (post.set_post_status id status p v.posts) (events_where true (post.comes status p.date) id v.events) v refl
moved_stays (Ok None) id p v = λ d. refl
moved_stays (Err fault) id p v = tt

move_stays : (o : Option Post) (id : ℕ) (to : Move) (v : ContentView) → Stays (with_events (post.of_post o (λ p. post.move_post id (post.status_after_move to p) p v.posts)) v.events) v
move_stays None id to v = tt
move_stays (Some p) id to v = moved_stays (post.status_after_move to p) id p v

delete_where : (b : Bool) (id : ℕ) (v : ContentView) → Stays (with_events (if b then Ok (post.delete_post id v.posts) else Err post_fault.NotTrashed) v.events) v
delete_where true id v = beside_stays (post.delete_post id v.posts) (events_where true None id v.events) v refl
delete_where false id v = tt

delete_stays : (o : Option Post) (id : ℕ) (v : ContentView) → Stays (with_events (post.of_post o (λ p. if post.is_trash p.status then Ok (post.delete_post id v.posts) else Err post_fault.NotTrashed)) v.events) v
delete_stays None id v = tt
delete_stays (Some p) id v = delete_where (post.is_trash p.status) id v

put_in_stays : (long stood full : Bool) (e : Event) (v : ContentView)
    → Stays (put_in (if long then Err event_fault.TooLong else (if stood then Ok (v.events, false) else (if full then Err event_fault.TooManyEvents else Ok (insert_event e v.events, true)))) v) v
put_in_stays true stood full e v = tt
put_in_stays false true full e v = λ d. refl
put_in_stays false false true e v = tt
put_in_stays false false false e v = λ d. absurd (cc)

take_stays : (o : Option ℕ) (e : Event) (now : ℕ) (v : ContentView) → is_some o ≡ false → take_event_at o e now v.events ≡ v.events
take_stays None e now v d = refl
take_stays (Some i) e now v d = absurd (cc)

content_stays : (s : SiteView) (r : Result (ContentView × Changed) SiteFault) → Stays r (content_of s) → Stays (with_content s r) s
content_stays s (Ok after) h = λ d. ap (λ (v : ContentView). record s { posts = v.posts; events = v.events }) (h d)
content_stays s (Err fault) h = tt

set_over_stays : (s : SiteView) (o : Option (List ℕ)) (name value : List ℕ) → Stays (with_options s (set_over o name value s.options)) s
set_over_stays s None name value = by (nat_le 1024 (length s.options))
  where
    by : (b : Bool) → Stays (with_options s (if b then Err TooManyOptions else Ok (put_option name value s.options, Some (option_add_fire name value ∷ [])))) s
    by true = tt
    by false = λ d. absurd (cc)
set_over_stays s (Some old) name value = by (bytes_eq old value)
  where
    by : (b : Bool) → Stays (with_options s (if b then Ok (s.options, None) else Ok (put_option name value s.options, Some (option_update_fire name old value ∷ [])))) s
    by true = λ d. refl
    by false = λ d. absurd (cc)

option_stays : (s : SiteView) (b : Bool) (name value : List ℕ) → Stays (with_options s (if b then Err TooLong else set_over (option_of name s.options) name value s.options)) s
option_stays s true name value = tt
option_stays s false name value = set_over_stays s (option_of name s.options) name value

plugins_stay : (s : SiteView) (r : Result (List (List ℕ)) SiteFault) → Stays (with_plugins s r) s
plugins_stay s (Ok names) = λ d. absurd (cc)
plugins_stay s (Err fault) = tt

profile_stays : (s : SiteView) (r : Result ℕ SiteFault) → Stays (with_profile s r) s
profile_stays s (Ok profile) = λ d. absurd (cc)
profile_stays s (Err fault) = tt

pub effect_stays : (s : SiteView) (e : Effect) → Stays (effect_on s e) s
effect_stays s (Insert d) = content_stays s _ (unless_stays (post.insert_fault d s.posts) (post.insert_post (post.post_of (length s.posts + 1) d s.moment) s.posts) (content_of s) refl)
effect_stays s (Edit id d) = content_stays s _ (edit_stays (post.post_at s.posts id) id d s.moment (content_of s))
effect_stays s (MovePost id to) = content_stays s _ (move_stays (post.post_at s.posts id) id to (content_of s))
effect_stays s (Delete id) = content_stays s _ (delete_stays (post.post_at s.posts id) id (content_of s))
effect_stays s (SetOption name value) = option_stays s (nat_lt 4096 (length value)) name value
effect_stays s (Schedule event) = content_stays s _ (put_in_stays (nat_lt 256 (length event.arg)) (stands event s.events) (nat_le 4096 (length s.events)) event (content_of s))
effect_stays s (Take event) = content_stays s (Ok (take_event_effect (content_of s) event s.moment)) (λ d. ap (λ (es : List Event). let v : ContentView = record { posts = s.posts; events = es } in v) (take_stays (place_of event s.events) event s.moment (content_of s) d))
effect_stays s (Activate plugin) = plugins_stay s (activate_plugin plugin s.active)
effect_stays s (Deactivate plugin) = plugins_stay s (deactivate_plugin plugin s.active)
effect_stays s (Profile to) = profile_stays s (switch_profile to s.profile)

pub done_stays : (s : SiteView) (e : Effect) (done : Result Done SiteFault) (new : SiteView) → Does done (effect_on s e) s new → IfOk done (λ d. d.changed.did ≡ false → new ≡ s)
done_stays s e (Ok d) new does = λ f. subst (λ (r : Result (SiteView × Changed) SiteFault). Stays r s) does (effect_stays s e) f
done_stays s e (Err fault) new does = tt

-- ---- what takes memory changes something

pub grows_of : (done : Result Done SiteFault) (meant : Result (SiteView × Changed) SiteFault) (old new : SiteView) → Does done meant old new → done ≡ Err NoMemory → MayGrow meant
grows_of done meant old new does is = (subst (λ (r : Result Done SiteFault). Does r meant old new) is does).0

beside_grows : (s : SiteView) (c : post.ChangeResult) (r : Result (List Event) SiteFault) → c.goes ≡ true → MayGrow (with_content s (beside c r)) → ChangesSome (with_content s (beside c r))
beside_grows s c (Ok events) g m = g
beside_grows s c (Err fault) g m = absurd m

unless_grows : (s : SiteView) (f : Option PostFault) (c : post.ChangeResult) → c.goes ≡ true → MayGrow (with_content s (with_events (post.unless f c) s.events)) → ChangesSome (with_content s (with_events (post.unless f c) s.events))
unless_grows s None c g m = beside_grows s c (events_where c.goes c.comes c.id s.events) g m
unless_grows s (Some fault) c g m = absurd m

pub insert_grows : (s : SiteView) (d : draft.Draft) → MayGrow (effect_on s (Insert d)) → ChangesSome (effect_on s (Insert d))
insert_grows s d m = unless_grows s (post.insert_fault d s.posts) (post.insert_post (post.post_of (length s.posts + 1) d s.moment) s.posts) refl m

abbrev editing : SiteView → ℕ → draft.Draft → Option Post → Result (SiteView × Changed) SiteFault
editing s id d o = with_content s (with_events (post.of_post o (λ p. post.unless (post.edit_fault d p) (post.edit_post (post.post_of id d s.moment) p s.posts))) s.events)

pub edit_grows : (s : SiteView) (id : ℕ) (d : draft.Draft) → MayGrow (effect_on s (Edit id d)) → ChangesSome (effect_on s (Edit id d))
edit_grows s id d m = by (post.post_at s.posts id) m
  where
    by : (o : Option Post) → MayGrow (editing s id d o) → ChangesSome (editing s id d o)
    by None m = absurd m
    by (Some p) m = unless_grows s (post.edit_fault d p) (post.edit_post (post.post_of id d s.moment) p s.posts) refl m

abbrev deleting_where : SiteView → ℕ → Bool → Result (SiteView × Changed) SiteFault
deleting_where s id b = with_content s (with_events (if b then Ok (post.delete_post id s.posts) else Err post_fault.NotTrashed) s.events)

delete_at : (s : SiteView) (id : ℕ) (b : Bool) → MayGrow (deleting_where s id b) → ChangesSome (deleting_where s id b)
delete_at s id true m = beside_grows s (post.delete_post id s.posts) (events_where true None id s.events) refl m
delete_at s id false m = absurd m

abbrev deleting : SiteView → ℕ → Option Post → Result (SiteView × Changed) SiteFault
deleting s id o = with_content s (with_events (post.of_post o (λ p. if post.is_trash p.status then Ok (post.delete_post id s.posts) else Err post_fault.NotTrashed)) s.events)

pub delete_grows : (s : SiteView) (id : ℕ) → MayGrow (effect_on s (Delete id)) → ChangesSome (effect_on s (Delete id))
delete_grows s id m = by (post.post_at s.posts id) m
  where
    by : (o : Option Post) → MayGrow (deleting s id o) → ChangesSome (deleting s id o)
    by None m = absurd m
    by (Some p) m = delete_at s id (post.is_trash p.status) m

pub plugins_grow : (s : SiteView) (r : Result (List (List ℕ)) SiteFault) → MayGrow (with_plugins s r) → ChangesSome (with_plugins s r)
plugins_grow s (Ok names) m = refl
plugins_grow s (Err fault) m = absurd m

-- a change of posts and events, and one of options, put into the site

pub content_grows : (s : SiteView) (r : Result (ContentView × Changed) SiteFault) → ChangesSome r → ChangesSome (with_content s r)
content_grows s (Ok after) h = h
content_grows s (Err fault) h = absurd h

fired_some : (o : Option (List Fire)) → is_some o ≡ true → (option_change o).did ≡ true
fired_some None h = absurd (cc)
fired_some (Some fires) h = refl

pub options_grow : (s : SiteView) (r : Result (Values × Option (List Fire)) SiteFault) → SetsSome r → ChangesSome (with_options s r)
options_grow s (Ok after) h = fired_some after.1 h
options_grow s (Err fault) h = absurd h

abbrev setting_new : List ℕ → List ℕ → Values → Bool → Result (Values × Option (List Fire)) SiteFault
setting_new name value values b = if b then Err TooManyOptions else Ok (put_option name value values, Some (option_add_fire name value ∷ []))

pub none_sets : (name value : List ℕ) (values : Values) → MayGrow (set_over None name value values) → SetsSome (set_over None name value values)
none_sets name value values m = by (nat_le 1024 (length values)) m
  where
    by : (b : Bool) → MayGrow (setting_new name value values b) → SetsSome (setting_new name value values b)
    by true m = absurd m
    by false m = refl

pub other_sets : (old name value : List ℕ) (values : Values) → bytes_eq old value ≡ false → SetsSome (set_over (Some old) name value values)
other_sets old name value values e = rw e refl

-- ---- a post that is moved

moved_grows : (r : Result (List Event) SiteFault) (c : post.ChangeResult) → c.goes ≡ true → MovesPost (some_events r) → ChangesSome (beside c r)
moved_grows (Ok events) c g m = g
moved_grows (Err fault) c g m = absurd m

status_grows : (r : Result (Option Status) PostFault) (id : ℕ) (p : Post) (v : ContentView) → MovesPost (beside_status r p.date id v.events) → ChangesSome (with_events (post.move_post id r p v.posts) v.events)
status_grows (Ok (Some status)) id p v m = moved_grows (events_of (post.comes status p.date) id v.events) (post.set_post_status id status p v.posts) refl m
status_grows (Ok None) id p v m = absurd m
status_grows (Err fault) id p v m = absurd m

pub move_grows : (o : Option Post) (id : ℕ) (to : Move) (v : ContentView) → MovesPost (beside_move o to id v.events) → ChangesSome (with_events (post.of_post o (λ p. post.move_post id (post.status_after_move to p) p v.posts)) v.events)
move_grows None id to v m = absurd m
move_grows (Some p) id to v m = status_grows (post.status_after_move to p) id p v m

pub moves_where : (r : Result (Option (List Event)) SiteFault) (events : List Event) → r ≡ Ok (Some events) → MovesPost r
moves_where r events e = subst MovesPost (sym e) tt

pub some_moves : (r : Result (List Event) SiteFault) → MayGrow r → MovesPost (some_events r)
some_moves (Ok events) m = tt
some_moves (Err fault) m = absurd m

-- ---- an event that comes in

pub put_in_grows : (r : Result (List Event × Bool) EventFault) (v : ContentView) → IsPutIn r → ChangesSome (put_in r v)
put_in_grows (Ok after) v h = h
put_in_grows (Err fault) v h = absurd h
