-- A change of posts with the events beside it.
use Rattle.std.proofs.Common.{◌≡◌, refl, ◌∙◌, ap, subst, ℕ, Bool, true, List, Option, Some, None}
use Rattle.std.specs.Prelude.{Result, Ok, Err}
use Rattle.press_events.specs.declared.event.Event.{Event}
use Rattle.press_posts.specs.declared.fault.PostFault.{PostFault}
use Rattle.press_posts.specs.declared.fault.PostFault.TheVariants as fault
use Rattle.press_posts.specs.declared.post.Post.{Post}
use Rattle.press_posts.specs.PostChange as post
use Rattle.press_site.specs.declared.changed.Changed.{Changed}
use Rattle.press_site.specs.declared.fault.SiteFault.{SiteFault}
use Rattle.press_site.specs.declared.fault.SiteFault.TheVariants.{NoMemory, TooLong, NoSuchPost, NotTrashed, IsTrashed, TooManyPosts, TooManyEvents, AlreadyActive, NotActive, TooManyOptions, BadProfile}
use Rattle.press_site.specs.Becomes.{Refuses, MayGrow}
use Rattle.press_site.specs.ContentView.{ContentView}
use Rattle.press_posts.specs.declared.fire.Fire.{Fire}
use Rattle.press_posts.specs.declared.post.Move.{Move}
use Rattle.press_posts.specs.declared.status.Status.{Status}
use Rattle.press_site.specs.Contents.{beside, beside_move, beside_status, events_of, events_where, some_events, with_events}
use Rattle.press_site.specs.Faults.{of_posts}

pub joined : (meant : Result post.ChangeResult PostFault) (x : post.ChangeResult) (old es : List Event) → meant ≡ Ok x → events_where x.goes x.comes x.id old ≡ Ok es → with_events meant old ≡ Ok (record { posts = x.posts; events = es }, record { id = x.id; did = x.goes; fires = x.fires })
joined meant x old es m e = ap (λ r. with_events r old) m ∙ ap (beside x) e

pub done : {A : Type 0} (part : post.ChangeResult → A) (answer : A) (new : List (Option Post)) (meant : Result post.ChangeResult PostFault) (x : post.ChangeResult) → meant ≡ Ok x → post.GivesPart part answer new meant → (answer ≡ part x) × (new ≡ x.posts)
done part answer new meant x m d = subst (λ r. post.GivesPart part answer new r) m d

grown : (x : post.ChangeResult) (r : Result (List Event) SiteFault) → MayGrow r → MayGrow (beside x r)
grown x (Ok es) h = tt
grown x (Err f) h = absurd h

passed : (f : SiteFault) (x : post.ChangeResult) (r : Result (List Event) SiteFault) → Refuses f r → Refuses f (beside x r)
passed NoMemory x r h = grown x r h
passed TooLong x r h = ap (beside x) h
passed NoSuchPost x r h = ap (beside x) h
passed NotTrashed x r h = ap (beside x) h
passed IsTrashed x r h = ap (beside x) h
passed TooManyPosts x r h = ap (beside x) h
passed TooManyEvents x r h = ap (beside x) h
passed AlreadyActive x r h = ap (beside x) h
passed NotActive x r h = ap (beside x) h
passed TooManyOptions x r h = ap (beside x) h
passed BadProfile x r h = ap (beside x) h

-- a refusal of the events, after the posts' own
pub events_refused : (f : SiteFault) (meant : Result post.ChangeResult PostFault) (x : post.ChangeResult) (old : List Event) → meant ≡ Ok x → Refuses f (events_where x.goes x.comes x.id old) → Refuses f (with_events meant old)
events_refused f meant x old m h = rw m (passed f x (events_where x.goes x.comes x.id old) h)

-- out of memory once the events are found
pub posts_refused : (f : PostFault) (meant : Result post.ChangeResult PostFault) (x : post.ChangeResult) (old es : List Event) → meant ≡ Ok x → events_where x.goes x.comes x.id old ≡ Ok es → post.Refuses f meant → Refuses (of_posts f) (with_events meant old)
posts_refused fault.NoMemory meant x old es m e h = rw (joined meant x old es m e) tt
posts_refused fault.TooLong meant x old es m e h = ap (λ r. with_events r old) h
posts_refused fault.NoSuchPost meant x old es m e h = ap (λ r. with_events r old) h
posts_refused fault.NotTrashed meant x old es m e h = ap (λ r. with_events r old) h
posts_refused fault.IsTrashed meant x old es m e h = ap (λ r. with_events r old) h
posts_refused fault.TooManyPosts meant x old es m e h = ap (λ r. with_events r old) h

-- ---- a move that changes a status

pub record IsTurned (meant : Result post.ChangeResult PostFault) (id : ℕ) (old es : List Event) : Type 0 where
  pub x : post.ChangeResult
  pub is : meant ≡ Ok x
  pub found : events_where x.goes x.comes x.id old ≡ Ok es
  pub about : x.id ≡ id
  pub did : x.goes ≡ true

some_of : (r : Result (List Event) SiteFault) (es : List Event) → some_events r ≡ Ok (Some es) → r ≡ Ok es
some_of (Ok x) es e = cc
some_of (Err f) es e = absurd (cc)

moved : (posts : List (Option Post)) (id : ℕ) (old es : List Event) (p : Post) (r : Result (Option Status) PostFault) → beside_status r p.date id old ≡ Ok (Some es) → IsTurned (post.move_post id r p posts) id old es
moved posts id old es p (Ok (Some status)) e = record { x = post.set_post_status id status p posts; is = refl; found = some_of (events_of (post.comes status p.date) id old) es e; about = refl; did = refl }
moved posts id old es p (Ok None) e = absurd (cc)
moved posts id old es p (Err f) e = absurd (cc)

pub turned : (posts : List (Option Post)) (to : Move) (id : ℕ) (old es : List Event) (o : Option Post) → beside_move o to id old ≡ Ok (Some es) → IsTurned (post.of_post o (λ p. post.move_post id (post.status_after_move to p) p posts)) id old es
turned posts to id old es None e = absurd (cc)
turned posts to id old es (Some p) e = moved posts id old es p (post.status_after_move to p) e

-- what is answered, put together
abbrev pub answered : List (Option Post) → List Event → ℕ → Bool → List Fire → Result (ContentView × Changed) SiteFault
answered posts events id did fires = Ok (record { posts = posts; events = events }, record { id = id; did = did; fires = fires })

pub told : (posts posts' : List (Option Post)) (es : List Event) (id id' : ℕ) (did did' : Bool) (fires fires' : List Fire) → posts' ≡ posts → id ≡ id' → did ≡ did' → fires' ≡ fires → answered posts es id did fires ≡ answered posts' es id' did' fires'
told posts posts' es id id' did did' fires fires' p i d f = rw (p, i, d, f) refl
