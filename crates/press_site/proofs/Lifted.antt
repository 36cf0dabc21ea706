-- A refusal of a part is the site's.
use Rattle.std.proofs.Common.{◌≡◌, ◌∙◌, refl, sym, ap, subst, ℕ, Bool, true, List, Option, Some, None}
use Rattle.std.specs.Prelude.{Result, Ok, Err, IfOk, ◌||◌, is_some, unwrap_or, option_map}
use Rattle.press_posts.specs.declared.fire.Fire.{Fire}
use Rattle.press_site.specs.declared.changed.Changed.{Changed}
use Rattle.press_site.specs.declared.fault.SiteFault.{SiteFault}
use Rattle.press_site.specs.declared.fault.SiteFault.TheVariants.{NoMemory, TooLong, NoSuchPost, NotTrashed, IsTrashed, TooManyPosts, TooManyEvents, AlreadyActive, NotActive, TooManyOptions, BadProfile}
use Rattle.press_site.specs.Back.{ContentGoesBack, Does, GoesBack}
use Rattle.press_site.specs.Becomes.{Refuses, MayGrow}
use Rattle.press_site.specs.ContentView.{ContentView}
use Rattle.press_site.specs.Effects.{content_of, with_content, with_options, with_plugins}
use Rattle.press_site.specs.Options.{Values}
use Rattle.press_site.specs.Sets.{set_back}
use Rattle.press_site.specs.SiteView.{SiteView}
use Rattle.press_site.specs.declared.options.SetDone.{SetDone}
use Rattle.press_site.specs.declared.stood.Done.{Done}
use Rattle.press_site.specs.declared.stood.Stood.TheVariants.{OfOption}
use Rattle.press_site.specs.declared.stood.Undone.{Undone}

-- the change of a part, put into the site
refused_by : {A B : Type 0} (h : Result A SiteFault → Result B SiteFault) → ((x : A) → MayGrow (h (Ok x))) → ((f : SiteFault) → h (Err f) ≡ Err f) → (f : SiteFault) (r : Result A SiteFault) → Refuses f r → Refuses f (h r)
refused_by h g e NoMemory (Ok x) i = g x
refused_by h g e NoMemory (Err f) i = absurd i
refused_by h g e TooLong r i = ap h i ∙ e TooLong
refused_by h g e NoSuchPost r i = ap h i ∙ e NoSuchPost
refused_by h g e NotTrashed r i = ap h i ∙ e NotTrashed
refused_by h g e IsTrashed r i = ap h i ∙ e IsTrashed
refused_by h g e TooManyPosts r i = ap h i ∙ e TooManyPosts
refused_by h g e TooManyEvents r i = ap h i ∙ e TooManyEvents
refused_by h g e AlreadyActive r i = ap h i ∙ e AlreadyActive
refused_by h g e NotActive r i = ap h i ∙ e NotActive
refused_by h g e TooManyOptions r i = ap h i ∙ e TooManyOptions
refused_by h g e BadProfile r i = ap h i ∙ e BadProfile

pub content_refused : (s : SiteView) (f : SiteFault) (r : Result (ContentView × Changed) SiteFault) → Refuses f r → Refuses f (with_content s r)
content_refused s f r i = refused_by (with_content s) (λ x. tt) (λ g. refl) f r i

pub options_refused : (s : SiteView) (f : SiteFault) (r : Result (Values × Option (List Fire)) SiteFault) → Refuses f r → Refuses f (with_options s r)
options_refused s f r i = refused_by (with_options s) (λ x. tt) (λ g. refl) f r i

pub plugins_refused : (s : SiteView) (f : SiteFault) (r : Result (List (List ℕ)) SiteFault) → Refuses f r → Refuses f (with_plugins s r)
plugins_refused s f r i = refused_by (with_plugins s) (λ x. tt) (λ g. refl) f r i

-- ---- a change of posts and events is one of the site, and so is what takes it back

abbrev pub with_new : SiteView → ContentView → SiteView
with_new s v = record s { posts = v.posts; events = v.events }

pub does_lifted : (s : SiteView) (result : Result Done SiteFault) (meant : Result (ContentView × Changed) SiteFault) (new : ContentView) → Does result meant (content_of s) new → Does result (with_content s meant) s (with_new s new)
does_lifted s (Ok d) meant new b = ap (with_content s) b
does_lifted s (Err f) meant new b = (content_refused s f meant b.0, ap (with_new s) b.1)

goes_back : (s : SiteView) (undone : Undone) (b wants : Bool) (new : ContentView) → ((wants || is_some undone.stood) ≡ true → (b || is_some undone.stood) ≡ true) → ContentGoesBack b undone new (content_of s) → GoesBack wants undone (with_new s new) s
goes_back s undone b wants new e g = record {
  may = g.may;
  same_posts = g.same_posts;
  may_events = g.may_events;
  same_events = λ h. g.same_events (e h);
  same_options = g.no_options s.options;
  same_active = ap (λ (o : Option (List (List ℕ))). unwrap_or o s.active) g.no_active;
  same_profile = ap (λ (o : Option ℕ). unwrap_or o s.profile) g.no_profile;
  same_moment = refl;
  same_outcomes = refl;
}

pub back_lifted : (s : SiteView) (done : Result Done SiteFault) (wants : Bool) (new : ContentView) → IfOk done (λ d. ContentGoesBack wants d.undone new (content_of s)) → IfOk done (λ d. GoesBack wants d.undone (with_new s new) s)
back_lifted s (Ok d) wants new g = goes_back s d.undone wants wants new (λ h. h) g
back_lifted s (Err f) wants new g = tt

pub back_of_post : (s : SiteView) (done : Result Done SiteFault) (wants : Bool) (new : ContentView) → IfOk done (λ d. ContentGoesBack true d.undone new (content_of s)) → IfOk done (λ d. GoesBack wants d.undone (with_new s new) s)
back_of_post s (Ok d) wants new g = goes_back s d.undone true wants new (λ h. refl) g
back_of_post s (Err f) wants new g = tt

-- ---- options and active plugins

pub options_back : (s : SiteView) (wants : Bool) (undone : Undone) (name : List ℕ) (done : Option SetDone) (new : Values) → undone ≡ record { stood = option_map (λ (d : SetDone). OfOption name d.stood) done; shift = None; active = None; profile = None } → set_back name done new ≡ s.options → GoesBack wants undone (record s { options = new }) s
options_back s wants undone name None new is e = subst (λ (u : Undone). GoesBack wants u (record s { options = new }) s) (sym is) (record {
  may = tt;
  same_posts = refl;
  may_events = tt;
  same_events = λ _. refl;
  same_options = e;
  same_active = refl;
  same_profile = refl;
  same_moment = refl;
  same_outcomes = refl;
})
options_back s wants undone name (Some d) new is e = subst (λ (u : Undone). GoesBack wants u (record s { options = new }) s) (sym is) (record {
  may = (tt, tt);
  same_posts = refl;
  may_events = tt;
  same_events = λ _. refl;
  same_options = e;
  same_active = refl;
  same_profile = refl;
  same_moment = refl;
  same_outcomes = refl;
})

pub active_back : (s : SiteView) (wants : Bool) (undone : Undone) (stood new : List (List ℕ)) → undone ≡ record { stood = None; shift = None; active = Some stood; profile = None } → stood ≡ s.active → GoesBack wants undone (record s { active = new }) s
active_back s wants undone stood new is e = subst (λ (u : Undone). GoesBack wants u (record s { active = new }) s) (sym is) (record {
  may = tt;
  same_posts = refl;
  may_events = tt;
  same_events = λ _. refl;
  same_options = refl;
  same_active = e;
  same_profile = refl;
  same_moment = refl;
  same_outcomes = refl;
})
