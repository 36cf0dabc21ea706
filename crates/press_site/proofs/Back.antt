-- A change of posts and events is taken back by what it answers.
use Rattle.std.proofs.Common.{◌≡◌, ◌∙◌, refl, sym, ap, ℕ, true, List, Option, Some, None}
use Rattle.std.specs.Prelude.{Result, Ok, Err, IfOk, IfErr, OnOk}
use Rattle.press_events.specs.declared.event.Event.{Event}
use Rattle.press_events.specs.declared.shift.Shift.{Shift}
use Rattle.press_events.specs.Shifts.{MayGoBack}
use Rattle.press_posts.specs.declared.fault.PostFault.{PostFault}
use Rattle.press_posts.specs.declared.post.Post.{Post}
use Rattle.press_posts.specs.PostChange as post
use Rattle.press_posts.specs.Restored.{restore_post, changed_id, post_before, IsRestorable, IsTakenBack}
use Rattle.press_posts.specs.declared.fire.Fire.{Fire}
use Rattle.press_site.specs.declared.changed.Changed.{Changed}
use Rattle.press_site.specs.declared.fault.SiteFault.{SiteFault}
use Rattle.press_site.specs.declared.fault.SiteFault.TheVariants.{NoMemory}
use Rattle.press_site.specs.declared.stood.Done.{Done}
use Rattle.press_site.specs.Back.{ContentGoesBack, Does, MayEventBack, event_back}
use Rattle.press_site.proofs.Joined.{answered}
use Rattle.press_site.specs.ContentView.{ContentView}
use Rattle.press_site.specs.Options.{Values}
use Rattle.press_site.specs.declared.stood.Stood.TheVariants.{OfPost}
use Rattle.press_site.specs.declared.stood.Undone.{Undone}

abbrev pub TakesBack : ℕ → Option Post → List (Option Post) → List (Option Post) → Type 0
TakesBack id p new posts = IsRestorable id p new × (restore_post id p new ≡ posts)

pub taken : {A : Type 0} (part : post.ChangeResult → A) (answer : A) (new posts : List (Option Post)) (change : post.Change) (meant : Result post.ChangeResult PostFault) → IfOk meant (IsTakenBack change posts) → post.GivesPart part answer new meant → TakesBack (changed_id change posts) (post_before change posts) new posts
taken part answer new posts change (Ok c) t d = rw (d.1, sym t.id) (t.may, t.back)
taken part answer new posts change (Err f) t d = absurd d

may_shift : (shift : Option Shift) (new old : List Event) → MayGoBack shift new old → MayEventBack shift new
may_shift None new old g = tt
may_shift (Some shift) new old g = g.0

by_shift : (shift : Option Shift) (new old : List Event) → MayGoBack shift new old → event_back shift new ≡ old
by_shift None new old g = g
by_shift (Some shift) new old g = g.1

pub went : (undone : Undone) (new old : ContentView) (id : ℕ) (p : Option Post) (posts : List (Option Post)) → undone.stood ≡ Some (OfPost id p) → undone.active ≡ None → undone.profile ≡ None → new.posts ≡ posts → TakesBack id p posts old.posts → MayGoBack undone.shift new.events old.events → ContentGoesBack true undone new old
went undone new old id p posts s a f n t e = record { may = rw (s, n) (t.0, tt); same_posts = rw (s, n) t.1; may_events = may_shift undone.shift new.events old.events e; same_events = λ _. by_shift undone.shift new.events old.events e; no_options = λ (options : Values). rw s refl; no_active = a; no_profile = f }

-- ---- a post's change once its events come in, or it is taken back

module _ (result : Result Done SiteFault) (id : ℕ) (p : Option Post) (posts : List (Option Post)) (es : List Event) (fires : List Fire) (new old : ContentView) (back : TakesBack id p posts old.posts) where
  pub ended_does : (meant : Result (ContentView × Changed) SiteFault) → meant ≡ answered posts es id true fires → OnOk result (new ≡ record { posts = posts; events = es }) → IfOk result (λ d. d.changed ≡ record { id = id; did = true; fires = fires })
      → IfErr result (λ f. (f ≡ NoMemory) × (new ≡ record { posts = restore_post id p posts; events = old.events })) → Does result meant old new
  ended_does meant m n c e = by result n c e
    where
      by : (r : Result Done SiteFault) → OnOk r (new ≡ record { posts = posts; events = es }) → IfOk r (λ d. d.changed ≡ record { id = id; did = true; fires = fires })
          → IfErr r (λ f. (f ≡ NoMemory) × (new ≡ record { posts = restore_post id p posts; events = old.events })) → Does r meant old new
      by (Ok d) n c e = rw (m, n, c) refl
      by (Err f) n c e = rw (e.0, m) (tt, e.1 ∙ ap (λ (ps : List (Option Post)). record { posts = ps; events = old.events }) back.1)

  pub ended_back : OnOk result (new ≡ record { posts = posts; events = es }) → IfOk result (λ d. d.undone.stood ≡ Some (OfPost id p)) → IfOk result (λ d. d.undone.active ≡ None) → IfOk result (λ d. d.undone.profile ≡ None) → IfOk result (λ d. MayGoBack d.undone.shift new.events old.events)
      → IfOk result (λ d. ContentGoesBack true d.undone new old)
  ended_back n s a f e = by result n s a f e
    where
      by : (r : Result Done SiteFault) → OnOk r (new ≡ record { posts = posts; events = es }) → IfOk r (λ d. d.undone.stood ≡ Some (OfPost id p)) → IfOk r (λ d. d.undone.active ≡ None) → IfOk r (λ d. d.undone.profile ≡ None) → IfOk r (λ d. MayGoBack d.undone.shift new.events old.events)
          → IfOk r (λ d. ContentGoesBack true d.undone new old)
      by (Ok d) n s a f e = went d.undone new old id p posts s a f (ap (λ (v : ContentView). v.posts) n) back e
      by (Err f) n s a _ e = tt
