-- A change that is noted leaves what stood when the site was begun.
use Rattle.std.proofs.Common.{◌≡◌, refl, sym, ◌∙◌, ap, ap₂, subst, ℕ, Bool, true, false, List, [], Option, Some, None}
use Rattle.std.specs.Prelude.{Result, Ok, Err, IfOk, ◌||◌, ◌&&◌, is_none, is_some, unwrap_or}
use Rattle.press_events.specs.declared.event.Event.{Event}
use Rattle.press_events.specs.declared.shift.Shift.{Shift}
use Rattle.press_events.specs.declared.shift.Shift.TheVariants.{Came, Moved, Went, All}
use Rattle.press_posts.specs.declared.post.Post.{Post}
use Rattle.press_site.specs.Back.{Does, GoesBack, Keeps, MayEventBack, MayEventsGoBack, MayPostsGoBack, event_back, events_back, options_back, posts_back, site_back}
use Rattle.press_site.specs.Becomes.{Becomes, MayGrow}
use Rattle.press_site.specs.Log.{Log, all_of, fills, first_kept, more_shifts, note_change, stood_before, where_filled, with_stood}
use Rattle.press_site.specs.Options.{Values}
use Rattle.press_site.specs.SiteView.{SiteView}
use Rattle.press_site.specs.declared.changed.Changed.{Changed}
use Rattle.press_site.specs.declared.fault.SiteFault.{SiteFault}
use Rattle.press_site.specs.declared.fault.SiteFault.TheVariants.{NoMemory}
use Rattle.press_site.specs.declared.stood.Done.{Done}
use Rattle.press_site.specs.declared.stood.Stood.{Stood}
use Rattle.press_site.specs.declared.stood.Undone.{Undone}
use Rattle.press_site.specs.declared.token.Outcome.{Outcome}
use Rattle.press_site.specs.declared.token.Token.{Token}
use Rattle.press_site.proofs.Undoing.{events_pushed, may_push, may_shift_push, options_pushed, posts_pushed}

-- ---- part by part

posts_same : (w : Option Stood) (ws : List Stood) (ps qs : List (Option Post)) → posts_back (with_stood w []) ps ≡ qs → posts_back (with_stood w ws) ps ≡ posts_back ws qs
posts_same None ws ps qs e = ap (posts_back ws) e
posts_same (Some w) ws ps qs e = posts_pushed ws w ps ∙ ap (posts_back ws) e

options_same : (w : Option Stood) (ws : List Stood) (es fs : Values) → options_back (with_stood w []) es ≡ fs → options_back (with_stood w ws) es ≡ options_back ws fs
options_same None ws es fs e = ap (options_back ws) e
options_same (Some w) ws es fs e = options_pushed ws w es ∙ ap (options_back ws) e

may_same : (w : Option Stood) (ws : List Stood) (ps qs : List (Option Post)) → MayPostsGoBack (with_stood w []) ps → posts_back (with_stood w []) ps ≡ qs → MayPostsGoBack ws qs → MayPostsGoBack (with_stood w ws) ps
may_same None ws ps qs m e h = subst (MayPostsGoBack ws) (sym e) h
may_same (Some w) ws ps qs m e h = may_push ws w ps m.0 (subst (MayPostsGoBack ws) (sym e) h)

-- those that stand, kept beside what was, change nothing of what stood
filled_same : (kept : Option (List Event)) (b : Bool) (events : List Event) → unwrap_or (first_kept kept (where_filled b events)) events ≡ unwrap_or kept events
filled_same None true events = refl
filled_same None false events = refl
filled_same (Some stood) b events = refl

kept_same : {A : Type 0} (kept was : Option A) (b : Bool) (x y : A) → ((is_none kept || b) ≡ true → unwrap_or was x ≡ y) → unwrap_or (first_kept kept was) x ≡ unwrap_or kept y
kept_same None was b x y e = e refl
kept_same (Some k) was b x y e = refl

events_same : (kept : Option (List Event)) (ws : List Shift) (shift : Option Shift) (b : Bool) (new old : List Event) → ((is_none kept || b) ≡ true → event_back shift new ≡ old)
    → events_back (more_shifts kept shift ws) (unwrap_or (first_kept kept (all_of shift)) new) ≡ events_back ws (unwrap_or kept old)
events_same (Some stood) ws shift b new old e = refl
events_same None ws None b new old e = ap (events_back ws) (e refl)
events_same None ws (Some (Came place)) b new old e = events_pushed ws (Came place) new ∙ ap (events_back ws) (e refl)
events_same None ws (Some (Moved to from time every)) b new old e = events_pushed ws (Moved to from time every) new ∙ ap (events_back ws) (e refl)
events_same None ws (Some (Went place event room marks)) b new old e = events_pushed ws (Went place event room marks) new ∙ ap (events_back ws) (e refl)
events_same None ws (Some (All stood)) b new old e = ap (events_back ws) (e refl)

may_events : (kept : Option (List Event)) (ws : List Shift) (shift : Option Shift) (b : Bool) (new old : List Event) → MayEventBack shift new → ((is_none kept || b) ≡ true → event_back shift new ≡ old)
    → MayEventsGoBack ws (unwrap_or kept old) → MayEventsGoBack (more_shifts kept shift ws) (unwrap_or (first_kept kept (all_of shift)) new)
may_events (Some stood) ws shift b new old m e h = h
may_events None ws None b new old m e h = subst (MayEventsGoBack ws) (sym (e refl)) h
may_events None ws (Some (Came place)) b new old m e h = may_shift_push ws (Came place) new m (subst (MayEventsGoBack ws) (sym (e refl)) h)
may_events None ws (Some (Moved to from time every)) b new old m e h = may_shift_push ws (Moved to from time every) new m (subst (MayEventsGoBack ws) (sym (e refl)) h)
may_events None ws (Some (Went place event room marks)) b new old m e h = may_shift_push ws (Went place event room marks) new m (subst (MayEventsGoBack ws) (sym (e refl)) h)
may_events None ws (Some (All stood)) b new old m e h = subst (MayEventsGoBack ws) (sym (e refl)) h

same_site : (a b : SiteView) → a.moment ≡ b.moment → a.posts ≡ b.posts → a.events ≡ b.events → a.options ≡ b.options → a.active ≡ b.active → a.profile ≡ b.profile → a.outcomes ≡ b.outcomes → a ≡ b
same_site a b m p e o s f k =
    ap₂ (λ (x : ℕ) (y : List (Option Post)). let v : SiteView = record { moment = x; profile = a.profile; posts = y; events = a.events; options = a.options; active = a.active; outcomes = a.outcomes } in v) m p
    ∙ ap₂ (λ (x : List Event) (y : List (List ℕ × List ℕ)). let v : SiteView = record { moment = b.moment; profile = a.profile; posts = b.posts; events = x; options = y; active = a.active; outcomes = a.outcomes } in v) e o
    ∙ ap₂ (λ (x : List (List ℕ)) (y : ℕ). let v : SiteView = record { moment = b.moment; profile = y; posts = b.posts; events = b.events; options = b.options; active = x; outcomes = a.outcomes } in v) s f
    ∙ ap (λ (x : List (Token × Outcome)). let v : SiteView = record { moment = b.moment; profile = b.profile; posts = b.posts; events = b.events; options = b.options; active = b.active; outcomes = x } in v) k

-- ---- a change

keeps_noted : (log : Log) (undone : Undone) (before after : SiteView) → GoesBack (is_none log.events) undone after before → Keeps log before (note_change undone after.events log) after
keeps_noted log undone before after g = let filled = filled_same (first_kept log.events (all_of undone.shift)) (is_none log.events && fills undone.shift log.shifts) after.events in record {
  same =
      same_site _ _ g.same_moment
      (posts_same undone.stood log.stood after.posts before.posts g.same_posts)
      (ap (events_back (more_shifts log.events undone.shift log.shifts)) filled ∙ events_same log.events log.shifts undone.shift (is_some undone.stood) after.events before.events g.same_events)
      (options_same undone.stood log.stood after.options before.options g.same_options)
      (kept_same log.active undone.active true after.active before.active (λ _. g.same_active))
      (kept_same log.profile undone.profile true after.profile before.profile (λ _. g.same_profile)) g.same_outcomes;
  may = λ h. (
    may_same undone.stood log.stood after.posts before.posts g.may g.same_posts h.0,
    subst (MayEventsGoBack (more_shifts log.events undone.shift log.shifts)) (sym filled) (may_events log.events log.shifts undone.shift (is_some undone.stood) after.events before.events g.may_events g.same_events h.1),
  );
}

keeps_same : (log : Log) (before after : SiteView) → after ≡ before → Keeps log before log after
keeps_same log before after e = subst (λ (v : SiteView). Keeps log before log v) (sym e) (record { same = refl; may = λ m. m })

went_back : (w : Bool) (undone : Undone) (after before : SiteView) → GoesBack w undone after before → (w || is_some undone.stood) ≡ true → site_back undone after ≡ before
went_back w undone after before g e =
    same_site _ _ g.same_moment g.same_posts (g.same_events e) g.same_options g.same_active g.same_profile g.same_outcomes

-- ---- by its three ways out

module _ (meant : Result (SiteView × Changed) SiteFault) (before after : SiteView) (log : Log) where
  abbrev Ends : Result Changed SiteFault → SiteView → Log → Type 0
  Ends result site new = Becomes result meant before site × Keeps log before new site

  pub refused : (f : SiteFault) (done : Result Done SiteFault) → done ≡ Err f → Does done meant before after → Ends (Err f) after log
  refused f done e d = let h = subst (λ (r : Result Done SiteFault). Does r meant before after) e d in ((h.0, h.1), keeps_same log before after h.1)

  pub done_well : (x : Done) (new : Log) → new ≡ note_change x.undone after.events log → meant ≡ Ok (after, x.changed) → GoesBack (is_none log.events) x.undone after before → Ends (Ok x.changed) after new
  done_well x new n m g = (m, subst (λ (l : Log). Keeps log before l after) (sym n) (keeps_noted log x.undone before after g))

  grows : (x : SiteView × Changed) → meant ≡ Ok x → MayGrow meant
  grows x m = rw m tt

  pub taken_back : (x : Done) (back : SiteView) (new : Log) → new ≡ log → back ≡ site_back x.undone after → (is_none log.events || is_some x.undone.stood) ≡ true → meant ≡ Ok (after, x.changed) → GoesBack (is_none log.events) x.undone after before → Becomes (Err NoMemory) meant before back × Keeps log before new back
  taken_back x back new n b s m g =
      let same = b ∙ went_back (is_none log.events) x.undone after before g s in
      ((grows (after, x.changed) m, same), subst (λ (l : Log). Keeps log before l back) (sym n) (keeps_same log before back same))

pub may_of : (done : Result Done SiteFault) (w : Bool) (new old : SiteView) → IfOk done (λ d. GoesBack w d.undone new old) → IfOk done (λ d. MayPostsGoBack (stood_before d.undone) new.posts × MayEventBack d.undone.shift new.events)
may_of (Ok d) w new old g = (g.may, g.may_events)
may_of (Err f) w new old g = tt

-- ---- what takes no memory

pub both : {b : Bool} → b ≡ true → b ≡ false → ⊥
both t f = absurd (let e : true ≡ false = sym t ∙ f in cc)
