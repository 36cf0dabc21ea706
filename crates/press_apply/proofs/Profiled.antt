-- Values of which none switches the profile make the site that they made before there were profiles, and leave it in profile 1.
use Rattle.std.proofs.Common.{◌≡◌, refl, ◌∙◌, ap, subst, ℕ, List, [], ◌∷◌, if◌then◌else◌, Bool, true, false, Option, Some, None, Result, Ok, Err}
use Rattle.std.specs.Prelude.{◌≢◌, IfSome, IfOk, codes, is_some}
use Rattle.press_callbacks.specs.Kits.{KitView, Scripts, plugin_of}
use Rattle.press_posts.specs.declared.draft.Draft.{Draft}
use Rattle.press_posts.specs.declared.fire.Fire.{Fire}
use Rattle.press_posts.specs.declared.post.Move.TheVariants as move
use Rattle.press_posts.specs.PostChange.{post_at}
use Rattle.press_events.specs.declared.event.Event.{Event}
use Rattle.press_events.specs.DueEvents.{due}
use Rattle.press_site.specs.declared.changed.Changed.{Changed}
use Rattle.press_site.specs.declared.effect.Effect.{Effect}
use Rattle.press_site.specs.declared.effect.Effect.TheVariants as effect
use Rattle.press_site.specs.declared.fault.SiteFault.{SiteFault}
use Rattle.press_site.specs.declared.token.Outcome.{Outcome}
use Rattle.press_site.specs.declared.token.Token.{Token}
use Rattle.press_site.specs.Effects.{effect_on, no_site}
use Rattle.press_site.specs.Outcomes.{outcome_of}
use Rattle.press_site.specs.SiteView.{SiteView}
use Rattle.press_run.specs.declared.job.Job.{Job}
use Rattle.press_run.specs.declared.job.Job.TheVariants as job
use Rattle.press_run.specs.Boot.{boot_actions, boot_with}
use Rattle.press_run.specs.Earlier as runs
use Rattle.press_run.specs.Earlier.{IsSwitch, KeepsProfile}
use Rattle.press_run.specs.Links.{Changes, or_no_change}
use Rattle.press_run.specs.Outcome.{job_meaning, state_at_start}
use Rattle.press_run.specs.Run.{Answer, Meaning, State, apply_hook, do_fires}
use Rattle.press_apply.specs.declared.command.Command.{Command}
use Rattle.press_apply.specs.declared.command.Command.TheVariants.{Insert, Update, Trash, Untrash, Delete, SetOption, Activate, Deactivate, Tick, Profile}
use Rattle.press_apply.specs.declared.command.Stamped.{Stamped}
use Rattle.press_apply.specs.declared.fault.ApplyFault.{ApplyFault}
use Rattle.press_apply.specs.declared.fault.ApplyFault.TheVariants.{NoSuchPlugin}
use Rattle.press_apply.specs.declared.kind.CommandKind.TheVariants as kind
use Rattle.press_apply.specs.declared.value.Value.{Value}
use Rattle.press_apply.specs.declared.value.Value.TheVariants.{Noop, Cmd}
use Rattle.press_apply.specs.Apply.{◌>>=◌, or_limit, state_after, fires, filter_text, with_effect, changes, does, about, passes, wanted_fault, update_fault, move_fault, delete_fault, prepare_draft, insert_work, update_work, change_between, trash_work, untrash_work, delete_work, event_fires, takes, takes_all, no_id, tick_work, boots, site_of, callbacks_on, work_without_boot, work_of, at_moment, keep_outcome, applied_where, applied, fold_values, site_after}
use Rattle.press_apply.specs.Earlier as earlier
use Rattle.press_apply.specs.Earlier.{HasNoSwitch}
use Rattle.press_apply.specs.Kinds.{kind_of_command}

-- ---- two outcomes that are one, of which a word holds

abbrev pub Alike : {A : Type 0} → (A → Type 0) → Result A ApplyFault → Result A ApplyFault → Type 0
Alike P r r' = (r ≡ r') × IfOk r P

binds_same : {A B : Type 0} (P : A → Type 0) (Q : B → Type 0) (r : Result A ApplyFault) (f g : A → Result B ApplyFault) → IfOk r P → ((x : A) → P x → Alike Q (f x) (g x)) → Alike Q (r >>= f) (r >>= g)
binds_same P Q (Ok x) f g p e = e x p
binds_same P Q (Err fault) f g p e = (refl, tt)

binds : {A B : Type 0} (P : A → Type 0) (Q : B → Type 0) (r r' : Result A ApplyFault) (f g : A → Result B ApplyFault) → Alike P r r' → ((x : A) → P x → Alike Q (f x) (g x)) → Alike Q (r >>= f) (r' >>= g)
binds P Q r r' f g h e = subst (λ x. Alike Q (r >>= f) (x >>= g)) h.0 (binds_same P Q r f g h.1 e)

-- work behind a check
checked : {A : Type 0} (Q : A → Type 0) (o : Option SiteFault) (w w' : Result A ApplyFault) → Alike Q w w' → Alike Q (passes o >>= λ passed. w) (passes o >>= λ passed. w')
checked Q None w w' a = a
checked Q (Some fault) w w' a = (refl, tt)

-- ---- profile 1

abbrev pub First : State → Type 0
First s = s.site.profile ≡ 1

abbrev pub InFirst : Answer → Type 0
InFirst a = First a.state

-- a step's answer beside its state
abbrev pub Steps : {A : Type 0} → State × A → Type 0
Steps done = First done.0

-- the work's id beside its site
abbrev pub Works : SiteView × ℕ → Type 0
Works done = done.0.profile ≡ 1

state_first : (o : Option Answer) → IfSome o InFirst → IfOk (or_limit (state_after o)) First
state_first None p = tt
state_first (Some a) p = p

answer_first : (o : Option Answer) → IfSome o InFirst → IfOk (or_limit o) InFirst
answer_first None p = tt
answer_first (Some a) p = p

change_first : (s : State) (r : Result (SiteView × Changed) SiteFault) → (or_no_change s.site r).0.profile ≡ s.site.profile → First s → IfOk (with_effect s r) Steps
change_first s (Ok after) k first = k ∙ first
change_first s (Err fault) k first = tt

no_id_first : (r : Result State ApplyFault) → IfOk r First → IfOk (no_id r) Steps
no_id_first (Ok s) p = p
no_id_first (Err fault) p = tt

site_first : (r : Result (State × ℕ) ApplyFault) → IfOk r Steps → IfOk (site_of r) Works
site_first (Ok done) p = p
site_first (Err fault) p = tt

without_boot_first : (s : SiteView) (r : Result (SiteView × Changed) SiteFault) → (or_no_change s r).0.profile ≡ s.profile → s.profile ≡ 1 → IfOk (work_without_boot r) Works
without_boot_first s (Ok after) k first = k ∙ first
without_boot_first s (Err fault) k first = tt

known_first : (b : Bool) (r : Result (SiteView × ℕ) ApplyFault) → IfOk r Works → IfOk (if b then r else Err NoSuchPlugin) Works
known_first true r p = p
known_first false r p = tt

settled_first : (s : SiteView) (token : Token) (r : Result (SiteView × ℕ) ApplyFault) → s.profile ≡ 1 → IfOk r Works → (keep_outcome s token r).0.profile ≡ 1
settled_first s token (Ok done) first p = p
settled_first s token (Err fault) first p = first

-- ---- two meanings of callbacks, over which the runs are the same in profile 1, and leave it

abbrev pub AlikeRuns : Option Answer → Option Answer → Type 0
AlikeRuns o o' = (o ≡ o') × IfSome o InFirst

abbrev pub AlikeActions : Meaning → Meaning → Type 0
AlikeActions m m' = (fs : List Fire) (s : State) → First s → AlikeRuns (do_fires m fs s) (do_fires m' fs s)

abbrev pub AlikeFilters : Meaning → Meaning → Type 0
AlikeFilters m m' = (hook : List ℕ) (args : List (List ℕ)) (s : State) → First s → AlikeRuns (apply_hook m hook args s) (apply_hook m' hook args s)

module _ (keeps : KeepsProfile effect_on) (m m' : Meaning) (actions : AlikeActions m m') (filters : AlikeFilters m m') where
  -- ---- steps

  fires_alike : (fs : List Fire) (s : State) → First s → Alike First (fires m fs s) (fires m' fs s)
  fires_alike fs s first =
      let a : AlikeRuns (do_fires m fs s) (do_fires m' fs s) = actions fs s first in
      (ap (λ o. or_limit (state_after o)) a.0, state_first (do_fires m fs s) a.1)

  filtered_alike : (hook text : List ℕ) (s : State) → First s → Alike InFirst (filter_text m hook text s) (filter_text m' hook text s)
  filtered_alike hook text s first =
      let a : AlikeRuns (apply_hook m hook (text ∷ []) s) (apply_hook m' hook (text ∷ []) s) = filters hook (text ∷ []) s first in
      (ap (λ (o : Option Answer). or_limit o) a.0, answer_first (apply_hook m hook (text ∷ []) s) a.1)

  does_alike : (e : Effect) (s : State) → (IsSwitch e → ⊥) → First s → Alike Steps (does m e s) (does m' e s)
  unfolding does
  does_alike e s stays first =
      binds_same Steps Steps (changes e s) (λ done. fires m done.1.fires done.0 >>= λ s'. Ok (s', done.1.id)) (λ done. fires m' done.1.fires done.0 >>= λ s'. Ok (s', done.1.id)) (change_first s (effect_on s.site e) (keeps s.site e stays) first)
      (λ done f. binds First Steps (fires m done.1.fires done.0) (fires m' done.1.fires done.0) (λ s'. Ok (s', done.1.id)) (λ s'. Ok (s', done.1.id)) (fires_alike done.1.fires done.0 f) (λ s' g. (refl, g)))

  prepared_alike : (d : Draft) (s : State) → First s → Alike Steps (prepare_draft m d s) (prepare_draft m' d s)
  unfolding prepare_draft
  prepared_alike d s first =
      let ready : Answer → Answer → Result (State × Draft) ApplyFault = λ t c. Ok (c.state, record d { title = t.text; content = c.text }) in
      binds InFirst Steps (filter_text m (codes "title_save_pre") d.title s) (filter_text m' (codes "title_save_pre") d.title s) (λ t. filter_text m (codes "content_save_pre") d.content t.state >>= λ c. ready t c) (λ t. filter_text m' (codes "content_save_pre") d.content t.state >>= λ c. ready t c) (filtered_alike (codes "title_save_pre") d.title s first)
      (λ t f. binds InFirst Steps (filter_text m (codes "content_save_pre") d.content t.state) (filter_text m' (codes "content_save_pre") d.content t.state) (λ c. ready t c) (λ c. ready t c) (filtered_alike (codes "content_save_pre") d.content t.state f) (λ c g. (refl, g)))

  -- ---- the work of each command

  inserts_alike : (d : Draft) (s : State) → First s → Alike Steps (insert_work m d s) (insert_work m' d s)
  unfolding insert_work
  inserts_alike d s first =
      checked Steps (wanted_fault d.status) (prepare_draft m d s >>= λ done. does m (effect.Insert done.1) done.0) (prepare_draft m' d s >>= λ done. does m' (effect.Insert done.1) done.0)
      (binds Steps Steps (prepare_draft m d s) (prepare_draft m' d s) (λ done. does m (effect.Insert done.1) done.0) (λ done. does m' (effect.Insert done.1) done.0) (prepared_alike d s first) (λ done f. does_alike (effect.Insert done.1) done.0 (λ x. x) f))

  updates_alike : (id : ℕ) (d : Draft) (s : State) → First s → Alike Steps (update_work m id d s) (update_work m' id d s)
  unfolding update_work
  updates_alike id d s first =
      checked Steps (update_fault d.status (post_at s.site.posts id)) (prepare_draft m d s >>= λ done. does m (effect.Edit id done.1) done.0) (prepare_draft m' d s >>= λ done. does m' (effect.Edit id done.1) done.0)
      (binds Steps Steps (prepare_draft m d s) (prepare_draft m' d s) (λ done. does m (effect.Edit id done.1) done.0) (λ done. does m' (effect.Edit id done.1) done.0) (prepared_alike d s first) (λ done f. does_alike (effect.Edit id done.1) done.0 (λ x. x) f))

  between_alike : (hook : List ℕ) (e : Effect) (later : List ℕ) (id : ℕ) (s : State) → (IsSwitch e → ⊥) → First s → Alike Steps (change_between m hook e later id s) (change_between m' hook e later id s)
  unfolding change_between
  between_alike hook e later id s stays first =
      let ended : ℕ → State → Result (State × ℕ) ApplyFault = λ n s'. Ok (s', n) in
      binds First Steps (fires m (about hook id) s) (fires m' (about hook id) s) (λ begun. does m e begun >>= λ done. fires m (about later id) done.0 >>= ended done.1) (λ begun. does m' e begun >>= λ done. fires m' (about later id) done.0 >>= ended done.1) (fires_alike (about hook id) s first)
      (λ begun f. binds Steps Steps (does m e begun) (does m' e begun) (λ done. fires m (about later id) done.0 >>= ended done.1) (λ done. fires m' (about later id) done.0 >>= ended done.1) (does_alike e begun stays f)
      (λ done g. binds First Steps (fires m (about later id) done.0) (fires m' (about later id) done.0) (ended done.1) (ended done.1) (fires_alike (about later id) done.0 g) (λ s' h. (refl, h))))

  trashes_alike : (id : ℕ) (s : State) → First s → Alike Steps (trash_work m id s) (trash_work m' id s)
  unfolding trash_work
  trashes_alike id s first =
      checked Steps (move_fault move.Trash (post_at s.site.posts id)) (change_between m (codes "wp_trash_post") (effect.Move id move.Trash) (codes "trashed_post") id s) (change_between m' (codes "wp_trash_post") (effect.Move id move.Trash) (codes "trashed_post") id s)
      (between_alike (codes "wp_trash_post") (effect.Move id move.Trash) (codes "trashed_post") id s (λ x. x) first)

  untrashes_alike : (id : ℕ) (s : State) → First s → Alike Steps (untrash_work m id s) (untrash_work m' id s)
  unfolding untrash_work
  untrashes_alike id s first =
      checked Steps (move_fault move.Untrash (post_at s.site.posts id)) (change_between m (codes "untrash_post") (effect.Move id move.Untrash) (codes "untrashed_post") id s) (change_between m' (codes "untrash_post") (effect.Move id move.Untrash) (codes "untrashed_post") id s)
      (between_alike (codes "untrash_post") (effect.Move id move.Untrash) (codes "untrashed_post") id s (λ x. x) first)

  deletes_alike : (id : ℕ) (s : State) → First s → Alike Steps (delete_work m id s) (delete_work m' id s)
  unfolding delete_work
  deletes_alike id s first =
      checked Steps (delete_fault (post_at s.site.posts id)) (change_between m (codes "before_delete_post") (effect.Delete id) (codes "deleted_post") id s) (change_between m' (codes "before_delete_post") (effect.Delete id) (codes "deleted_post") id s)
      (between_alike (codes "before_delete_post") (effect.Delete id) (codes "deleted_post") id s (λ x. x) first)

  -- ---- events

  takes_alike : (e : Event) (s : State) → First s → Alike First (takes m e s) (takes m' e s)
  unfolding takes
  takes_alike e s first =
      binds_same Steps First (changes (effect.Take e) s) (λ done. fires m (event_fires done.1.did e) done.0) (λ done. fires m' (event_fires done.1.did e) done.0) (change_first s (effect_on s.site (effect.Take e)) (keeps s.site (effect.Take e) (λ x. x)) first) (λ done f. fires_alike (event_fires done.1.did e) done.0 f)

  takes_all_alike : (es : List Event) (s : State) → First s → Alike First (takes_all m es s) (takes_all m' es s)
  unfolding takes_all
  takes_all_alike [] s first = (refl, first)
  takes_all_alike (e ∷ es) s first = binds First First (takes m e s) (takes m' e s) (λ s'. takes_all m es s') (λ s'. takes_all m' es s') (takes_alike e s first) (λ s' f. takes_all_alike es s' f)

  ticks_alike : (s : State) → First s → Alike Steps (tick_work m s) (tick_work m' s)
  unfolding tick_work
  ticks_alike s first =
      let es = due s.site.moment s.site.events in
      let a : Alike First (takes_all m es s) (takes_all m' es s) = takes_all_alike es s first in
      (ap no_id a.0, no_id_first (takes_all m es s) a.1)

  -- ---- work after a boot

  booted_alike : (kit : KitView) (site : SiteView) (work work' : State → Result (State × ℕ) ApplyFault) → site.profile ≡ 1 → ((s : State) → First s → Alike Steps (work s) (work' s))
      → Alike Works (site_of (boots m kit site >>= work)) (site_of (boots m' kit site >>= work'))
  booted_alike kit site work work' first each =
      let a : Alike Steps (boots m kit site >>= work) (boots m' kit site >>= work') = binds First Steps (boots m kit site) (boots m' kit site) work work' (fires_alike boot_actions (state_at_start (boot_with kit.plugins site.active) site) first) each in
      (ap site_of a.0, site_first (boots m kit site >>= work) a.1)

-- ---- the laws of runs

abbrev pub SameRuns : Type 0
SameRuns = (changes : Changes) (scripts : Scripts) (job : Job) (s : State) → KeepsProfile changes → s.site.profile ≡ 1 → job_meaning changes scripts job s ≡ runs.job_meaning changes scripts job s

abbrev pub KeepingRuns : Type 0
KeepingRuns = (changes : Changes) (scripts : Scripts) (job : Job) (s : State) → KeepsProfile changes → s.site.profile ≡ 1 → IfSome (job_meaning changes scripts job s) (λ a. a.state.site.profile ≡ 1)

module _ (keeps : KeepsProfile effect_on) (same : SameRuns) (keeping : KeepingRuns) (kit : KitView) where
  actions_alike : AlikeActions (callbacks_on kit) (earlier.callbacks_on kit)
  actions_alike fs s first = (same effect_on kit.scripts (job.Fires fs) s keeps first, keeping effect_on kit.scripts (job.Fires fs) s keeps first)

  filters_alike : AlikeFilters (callbacks_on kit) (earlier.callbacks_on kit)
  filters_alike hook args s first = (same effect_on kit.scripts (job.Apply hook args) s keeps first, keeping effect_on kit.scripts (job.Apply hook args) s keeps first)

  -- work by the callbacks of the kit
  by_kit_alike : (site : SiteView) (work : Meaning → State → Result (State × ℕ) ApplyFault) → site.profile ≡ 1 → ((s : State) → First s → Alike Steps (work (callbacks_on kit) s) (work (earlier.callbacks_on kit) s))
      → Alike Works (site_of (boots (callbacks_on kit) kit site >>= work (callbacks_on kit))) (earlier.work_after_boot kit site (work (earlier.callbacks_on kit)))
  by_kit_alike site work first each = booted_alike keeps (callbacks_on kit) (earlier.callbacks_on kit) actions_alike filters_alike kit site (work (callbacks_on kit)) (work (earlier.callbacks_on kit)) first each

  work_alike : (s : SiteView) (c : Command) → kind_of_command c ≢ kind.Profile → s.profile ≡ 1 → Alike Works (work_of kit s c) (earlier.work_of kit s c)
  work_alike s (Insert draft) stays first = by_kit_alike s (λ m. insert_work m draft) first (inserts_alike keeps (callbacks_on kit) (earlier.callbacks_on kit) actions_alike filters_alike draft)
  work_alike s (Update id draft) stays first = by_kit_alike s (λ m. update_work m id draft) first (updates_alike keeps (callbacks_on kit) (earlier.callbacks_on kit) actions_alike filters_alike id draft)
  work_alike s (Trash id) stays first = by_kit_alike s (λ m. trash_work m id) first (trashes_alike keeps (callbacks_on kit) (earlier.callbacks_on kit) actions_alike filters_alike id)
  work_alike s (Untrash id) stays first = by_kit_alike s (λ m. untrash_work m id) first (untrashes_alike keeps (callbacks_on kit) (earlier.callbacks_on kit) actions_alike filters_alike id)
  work_alike s (Delete id) stays first = by_kit_alike s (λ m. delete_work m id) first (deletes_alike keeps (callbacks_on kit) (earlier.callbacks_on kit) actions_alike filters_alike id)
  work_alike s (SetOption name value) stays first =
      by_kit_alike s (λ m. does m (effect.SetOption name value)) first (λ s' f. does_alike keeps (callbacks_on kit) (earlier.callbacks_on kit) actions_alike filters_alike (effect.SetOption name value) s' (λ x. x) f)
  work_alike s (Activate plugin) stays first =
      let after = effect_on s (effect.Activate plugin) in
      (refl, known_first (is_some (plugin_of plugin kit.plugins)) (work_without_boot after) (without_boot_first s after (keeps s (effect.Activate plugin) (λ x. x)) first))
  work_alike s (Deactivate plugin) stays first = (refl, without_boot_first s (effect_on s (effect.Deactivate plugin)) (keeps s (effect.Deactivate plugin) (λ x. x)) first)
  work_alike s Tick stays first = by_kit_alike s (λ m. tick_work m) first (ticks_alike keeps (callbacks_on kit) (earlier.callbacks_on kit) actions_alike filters_alike)
  work_alike s (Profile to) stays first = absurd (stays refl)

  -- ---- values

  where_alike : (s : SiteView) (c : Stamped) (o : Option Outcome) → kind_of_command c.command ≢ kind.Profile → s.profile ≡ 1 → (applied_where kit s c o ≡ earlier.applied_where kit s c o) × ((applied_where kit s c o).0.profile ≡ 1)
  where_alike s c (Some outcome) stays first = (refl, first)
  where_alike s c None stays first =
      let a : Alike Works (work_of kit s c.command) (earlier.work_of kit s c.command) = work_alike s c.command stays first in
      (ap (keep_outcome s c.token) a.0, settled_first s c.token (work_of kit s c.command) first a.1)

  applied_alike : (s : SiteView) (v : Value) → (earlier.IsSwitch v → ⊥) → s.profile ≡ 1 → (applied kit s v ≡ earlier.applied kit s v) × ((applied kit s v).0.profile ≡ 1)
  applied_alike s (Noop at) stays first = (refl, first)
  applied_alike s (Cmd c) stays first = where_alike (at_moment c.at s) c (outcome_of c.token s.outcomes) stays first

  folded_alike : (s : SiteView) (vs : List Value) → HasNoSwitch vs → s.profile ≡ 1 → (fold_values kit s vs ≡ earlier.fold_values kit s vs) × ((fold_values kit s vs).profile ≡ 1)
  folded_alike s [] none first = (refl, first)
  folded_alike s (v ∷ vs) none first =
      let a : (applied kit s v ≡ earlier.applied kit s v) × ((applied kit s v).0.profile ≡ 1) = applied_alike s v none.0 first in
      let b : (fold_values kit (applied kit s v).0 vs ≡ earlier.fold_values kit (applied kit s v).0 vs) × ((fold_values kit (applied kit s v).0 vs).profile ≡ 1) = folded_alike (applied kit s v).0 vs none.1 a.1 in
      (b.0 ∙ ap (λ (x : SiteView × Outcome). earlier.fold_values kit x.0 vs) a.0, b.1)

  pub folds_alike : (values : List Value) → HasNoSwitch values → (site_after kit values ≡ earlier.site_after kit values) × ((site_after kit values).profile ≡ 1)
  folds_alike values none = folded_alike no_site values none refl
