-- Values of which none names a plugin of the new kit alone make the same site over both kits, in which each active plugin is the same in both.
use Rattle.std.proofs.Common.{◌≡◌, refl, ◌∙◌, ap, subst, ℕ, List, [], ◌∷◌, ◌++◌, if◌then◌else◌, Bool, true, false, not, bytes_eq, filter, insert, codes, Option, Some, None, Result, Ok, Err}
use Rattle.std.specs.Prelude.{◌||◌, IfSome, IfOk, is_some}
use Rattle.std.specs.List.{AllByRecursion}
use Rattle.press_callbacks.specs.Kits.{KitView, plugin_of}
use Rattle.press_posts.specs.declared.draft.Draft.{Draft}
use Rattle.press_posts.specs.declared.fire.Fire.{Fire}
use Rattle.press_posts.specs.declared.post.Move.TheVariants as move
use Rattle.press_posts.specs.PostChange.{post_at}
use Rattle.press_events.specs.declared.event.Event.{Event}
use Rattle.press_events.specs.DueEvents.{due}
use Rattle.press_site.specs.declared.changed.Changed.{Changed}
use Rattle.press_site.specs.declared.effect.Effect.{Effect}
use Rattle.press_site.specs.declared.effect.Effect.TheVariants as effect
use Rattle.press_site.specs.declared.fault.SiteFault.{SiteFault}
use Rattle.press_site.specs.declared.fault.SiteFault.TheVariants.{AlreadyActive, NotActive}
use Rattle.press_site.specs.declared.token.Outcome.{Outcome}
use Rattle.press_site.specs.declared.token.Token.{Token}
use Rattle.press_site.specs.ContentView.{ContentView}
use Rattle.press_site.specs.Contents.{take_event_effect}
use Rattle.press_site.specs.Effects.{content_of, effect_on, no_site, with_content, with_options, with_plugins, with_profile}
use Rattle.press_site.specs.Options.{Values}
use Rattle.press_site.specs.Outcomes.{outcome_of}
use Rattle.press_site.specs.Plugins.{is_active, place_in}
use Rattle.press_site.specs.SiteView.{SiteView}
use Rattle.press_run.specs.Boot.{LoadedTables, boot_actions, boot_with}
use Rattle.press_run.specs.Links.{or_no_change}
use Rattle.press_run.specs.Outcome.{state_at_start}
use Rattle.press_run.specs.Run.{Answer, Meaning, State, apply_hook, do_fires}
use Rattle.press_apply.specs.declared.command.Command.{Command}
use Rattle.press_apply.specs.declared.command.Command.TheVariants.{Insert, Update, Trash, Untrash, Delete, SetOption, Activate, Deactivate, Tick, Profile}
use Rattle.press_apply.specs.declared.command.Stamped.{Stamped}
use Rattle.press_apply.specs.declared.fault.ApplyFault.{ApplyFault}
use Rattle.press_apply.specs.declared.fault.ApplyFault.TheVariants.{NoSuchPlugin}
use Rattle.press_apply.specs.declared.value.Value.{Value}
use Rattle.press_apply.specs.declared.value.Value.TheVariants.{Noop, Cmd}
use Rattle.press_apply.specs.Apply.{◌>>=◌, or_limit, state_after, fires, filter_text, with_effect, changes, does, about, passes, wanted_fault, update_fault, move_fault, delete_fault, prepare_draft, insert_work, update_work, change_between, trash_work, untrash_work, delete_work, event_fires, takes, takes_all, no_id, tick_work, boots, site_of, callbacks_on, work_without_boot, work_of, at_moment, keep_outcome, applied_where, applied, fold_values, site_after}
use Rattle.press_upgrade.specs.Extends.{Extends, IsWhole, Knows, asks_new, ask_new, names_new}
use Rattle.press_upgrade.proofs.Known.{HasSame, TablesAre, boot_is, boots_same, has_same, same_scripts}
use Rattle.press_upgrade.proofs.Runs.{Fine, IsPluginSwitch, Keeps, actions_alike, filters_alike}
use Rattle.press_upgrade.proofs.Tables.{each_filtered, each_inserted}

-- ---- two outcomes that are one, of which a word holds

abbrev pub Alike : {A : Type 0} → (A → Type 0) → Result A ApplyFault → Result A ApplyFault → Type 0
Alike P r r' = (r ≡ r') × IfOk r P

binds_same : {A B : Type 0} (P : A → Type 0) (Q : B → Type 0) (r : Result A ApplyFault) (f g : A → Result B ApplyFault) → IfOk r P → ((x : A) → P x → Alike Q (f x) (g x)) → Alike Q (r >>= f) (r >>= g)
binds_same P Q (Ok x) f g p e = e x p
binds_same P Q (Err fault) f g p e = (refl, tt)

binds : {A B : Type 0} (P : A → Type 0) (Q : B → Type 0) (r r' : Result A ApplyFault) (f g : A → Result B ApplyFault) → Alike P r r' → ((x : A) → P x → Alike Q (f x) (g x)) → Alike Q (r >>= f) (r' >>= g)
binds P Q r r' f g h e = subst (λ x. Alike Q (r >>= f) (x >>= g)) h.0 (binds_same P Q r f g h.1 e)

-- work behind a check
checked : {A : Type 0} (Q : A → Type 0) (o : Option SiteFault) (w w' : Result A ApplyFault) → Alike Q w w' → Alike Q (passes o >>= λ passed. w) (passes o >>= λ passed. w')
checked Q None w w' a = a
checked Q (Some fault) w w' a = (refl, tt)

parted : (a b : Bool) → (a || b) ≡ false → (a ≡ false) × (b ≡ false)
parted true b e = cc
parted false b e = (refl, e)

neither : (a b : Bool) → a ≡ false → b ≡ false → (a || b) ≡ false
neither true b e f = cc
neither false b e f = f

-- ---- sites whose active plugins are of one kind, over tables of callbacks of one kind

module _ (A : List ℕ → Type 0) where
  abbrev pub ActiveAre : SiteView → Type 0
  ActiveAre site = AllByRecursion A site.active

  content_keeps : (s : SiteView) (r : Result (ContentView × Changed) SiteFault) → ActiveAre s → ActiveAre (or_no_change s (with_content s r)).0
  content_keeps s (Ok after) a = a
  content_keeps s (Err fault) a = a

  options_keep : (s : SiteView) (r : Result (Values × Option (List Fire)) SiteFault) → ActiveAre s → ActiveAre (or_no_change s (with_options s r)).0
  options_keep s (Ok after) a = a
  options_keep s (Err fault) a = a

  profile_keeps : (s : SiteView) (r : Result ℕ SiteFault) → ActiveAre s → ActiveAre (or_no_change s (with_profile s r)).0
  profile_keeps s (Ok after) a = a
  profile_keeps s (Err fault) a = a

  pub effects_keep : Keeps ActiveAre effect_on
  effects_keep s (effect.Insert draft) stays a = content_keeps s _ a
  effects_keep s (effect.Edit id draft) stays a = content_keeps s _ a
  effects_keep s (effect.Move id to) stays a = content_keeps s _ a
  effects_keep s (effect.Delete id) stays a = content_keeps s _ a
  effects_keep s (effect.SetOption name value) stays a = options_keep s _ a
  effects_keep s (effect.Schedule event) stays a = content_keeps s _ a
  effects_keep s (effect.Take event) stays a = content_keeps s (Ok (take_event_effect (content_of s) event s.moment)) a
  effects_keep s (effect.Activate plugin) stays a = absurd (stays tt)
  effects_keep s (effect.Deactivate plugin) stays a = absurd (stays tt)
  effects_keep s (effect.Profile to) stays a = profile_keeps s _ a

  -- the work's id beside its site
  abbrev pub Works : SiteView × ℕ → Type 0
  Works done = ActiveAre done.0

  without_boot : (s : SiteView) (r : Result (SiteView × Changed) SiteFault) → ActiveAre (or_no_change s r).0 → IfOk (work_without_boot r) Works
  without_boot s (Ok after) a = a
  without_boot s (Err fault) a = tt

  activates : (s : SiteView) (plugin : List ℕ) → A plugin → ActiveAre s → ActiveAre (or_no_change s (effect_on s (effect.Activate plugin))).0
  activates s plugin one a = go (is_active plugin s.active)
    where
      go : (b : Bool) → ActiveAre (or_no_change s (with_plugins s (if b then Err AlreadyActive else Ok (insert s.active (place_in plugin s.active) plugin)))).0
      go true = a
      go false = each_inserted A plugin s.active (place_in plugin s.active) one a

  deactivates : (s : SiteView) (plugin : List ℕ) → ActiveAre s → ActiveAre (or_no_change s (effect_on s (effect.Deactivate plugin))).0
  deactivates s plugin a = go (is_active plugin s.active)
    where
      go : (b : Bool) → ActiveAre (or_no_change s (with_plugins s (if b then Ok (filter (λ n. not (bytes_eq n plugin)) s.active) else Err NotActive))).0
      go true = each_filtered A (λ n. not (bytes_eq n plugin)) s.active a
      go false = a

  known_works : (b : Bool) (r : Result (SiteView × ℕ) ApplyFault) → IfOk r Works → IfOk (if b then r else Err NoSuchPlugin) Works
  known_works true r p = p
  known_works false r p = tt

  settled : (s : SiteView) (token : Token) (r : Result (SiteView × ℕ) ApplyFault) → ActiveAre s → IfOk r Works → ActiveAre (keep_outcome s token r).0
  settled s token (Ok done) a p = p
  settled s token (Err fault) a p = a

module _ (P A : List ℕ → Type 0) where
  abbrev Good : State → Type 0
  Good s = Fine P (ActiveAre A) s

  abbrev GoodAnswer : Answer → Type 0
  GoodAnswer a = Good a.state

  -- a step's answer beside its state
  abbrev Steps : {X : Type 0} → State × X → Type 0
  Steps done = Good done.0

  state_good : (o : Option Answer) → IfSome o GoodAnswer → IfOk (or_limit (state_after o)) Good
  state_good None p = tt
  state_good (Some a) p = p

  answer_good : (o : Option Answer) → IfSome o GoodAnswer → IfOk (or_limit o) GoodAnswer
  answer_good None p = tt
  answer_good (Some a) p = p

  change_good : (s : State) (r : Result (SiteView × Changed) SiteFault) → ActiveAre A (or_no_change s.site r).0 → Good s → IfOk (with_effect s r) Steps
  change_good s (Ok after) k good = (good.0, good.1, k)
  change_good s (Err fault) k good = tt

  no_id_good : (r : Result State ApplyFault) → IfOk r Good → IfOk (no_id r) Steps
  no_id_good (Ok s) p = p
  no_id_good (Err fault) p = tt

  site_good : (r : Result (State × ℕ) ApplyFault) → IfOk r Steps → IfOk (site_of r) (Works A)
  site_good (Ok done) p = p.2
  site_good (Err fault) p = tt

  abbrev AlikeRuns : Option Answer → Option Answer → Type 0
  AlikeRuns o o' = (o ≡ o') × IfSome o GoodAnswer

  abbrev AlikeActions : Meaning → Meaning → Type 0
  AlikeActions m m' = (fs : List Fire) (s : State) → Good s → AlikeRuns (do_fires m fs s) (do_fires m' fs s)

  abbrev AlikeFilters : Meaning → Meaning → Type 0
  AlikeFilters m m' = (hook : List ℕ) (args : List (List ℕ)) (s : State) → Good s → AlikeRuns (apply_hook m hook args s) (apply_hook m' hook args s)

module _ (P A : List ℕ → Type 0) (m m' : Meaning) (actions : AlikeActions P A m m') (filters : AlikeFilters P A m m') where
  -- ---- steps

  fires_alike : (fs : List Fire) (s : State) → Good P A s → Alike (Good P A) (fires m fs s) (fires m' fs s)
  fires_alike fs s good =
      let a : AlikeRuns P A (do_fires m fs s) (do_fires m' fs s) = actions fs s good in
      (ap (λ o. or_limit (state_after o)) a.0, state_good P A (do_fires m fs s) a.1)

  filtered_alike : (hook text : List ℕ) (s : State) → Good P A s → Alike (GoodAnswer P A) (filter_text m hook text s) (filter_text m' hook text s)
  filtered_alike hook text s good =
      let a : AlikeRuns P A (apply_hook m hook (text ∷ []) s) (apply_hook m' hook (text ∷ []) s) = filters hook (text ∷ []) s good in
      (ap (λ (o : Option Answer). or_limit o) a.0, answer_good P A (apply_hook m hook (text ∷ []) s) a.1)

  does_alike : (e : Effect) (s : State) → (IsPluginSwitch e → ⊥) → Good P A s → Alike (Steps P A) (does m e s) (does m' e s)
  unfolding does
  does_alike e s stays good =
      binds_same (Steps P A) (Steps P A) (changes e s) (λ done. fires m done.1.fires done.0 >>= λ s'. Ok (s', done.1.id)) (λ done. fires m' done.1.fires done.0 >>= λ s'. Ok (s', done.1.id)) (change_good P A s (effect_on s.site e) (effects_keep A s.site e stays good.2) good)
      (λ done f. binds (Good P A) (Steps P A) (fires m done.1.fires done.0) (fires m' done.1.fires done.0) (λ s'. Ok (s', done.1.id)) (λ s'. Ok (s', done.1.id)) (fires_alike done.1.fires done.0 f) (λ s' g. (refl, g)))

  prepared_alike : (d : Draft) (s : State) → Good P A s → Alike (Steps P A) (prepare_draft m d s) (prepare_draft m' d s)
  unfolding prepare_draft
  prepared_alike d s good =
      let ready : Answer → Answer → Result (State × Draft) ApplyFault = λ t c. Ok (c.state, record d { title = t.text; content = c.text }) in
      binds (GoodAnswer P A) (Steps P A) (filter_text m (codes "title_save_pre") d.title s) (filter_text m' (codes "title_save_pre") d.title s) (λ t. filter_text m (codes "content_save_pre") d.content t.state >>= λ c. ready t c) (λ t. filter_text m' (codes "content_save_pre") d.content t.state >>= λ c. ready t c) (filtered_alike (codes "title_save_pre") d.title s good)
      (λ t f. binds (GoodAnswer P A) (Steps P A) (filter_text m (codes "content_save_pre") d.content t.state) (filter_text m' (codes "content_save_pre") d.content t.state) (λ c. ready t c) (λ c. ready t c) (filtered_alike (codes "content_save_pre") d.content t.state f) (λ c g. (refl, g)))

  -- ---- commands

  inserts_alike : (d : Draft) (s : State) → Good P A s → Alike (Steps P A) (insert_work m d s) (insert_work m' d s)
  unfolding insert_work
  inserts_alike d s good =
      checked (Steps P A) (wanted_fault d.status) (prepare_draft m d s >>= λ done. does m (effect.Insert done.1) done.0) (prepare_draft m' d s >>= λ done. does m' (effect.Insert done.1) done.0)
      (binds (Steps P A) (Steps P A) (prepare_draft m d s) (prepare_draft m' d s) (λ done. does m (effect.Insert done.1) done.0) (λ done. does m' (effect.Insert done.1) done.0) (prepared_alike d s good) (λ done f. does_alike (effect.Insert done.1) done.0 (λ x. x) f))

  updates_alike : (id : ℕ) (d : Draft) (s : State) → Good P A s → Alike (Steps P A) (update_work m id d s) (update_work m' id d s)
  unfolding update_work
  updates_alike id d s good =
      checked (Steps P A) (update_fault d.status (post_at s.site.posts id)) (prepare_draft m d s >>= λ done. does m (effect.Edit id done.1) done.0) (prepare_draft m' d s >>= λ done. does m' (effect.Edit id done.1) done.0)
      (binds (Steps P A) (Steps P A) (prepare_draft m d s) (prepare_draft m' d s) (λ done. does m (effect.Edit id done.1) done.0) (λ done. does m' (effect.Edit id done.1) done.0) (prepared_alike d s good) (λ done f. does_alike (effect.Edit id done.1) done.0 (λ x. x) f))

  between_alike : (hook : List ℕ) (e : Effect) (later : List ℕ) (id : ℕ) (s : State) → (IsPluginSwitch e → ⊥) → Good P A s → Alike (Steps P A) (change_between m hook e later id s) (change_between m' hook e later id s)
  unfolding change_between
  between_alike hook e later id s stays good =
      let ended : ℕ → State → Result (State × ℕ) ApplyFault = λ n s'. Ok (s', n) in
      binds (Good P A) (Steps P A) (fires m (about hook id) s) (fires m' (about hook id) s) (λ begun. does m e begun >>= λ done. fires m (about later id) done.0 >>= ended done.1) (λ begun. does m' e begun >>= λ done. fires m' (about later id) done.0 >>= ended done.1) (fires_alike (about hook id) s good)
      (λ begun f. binds (Steps P A) (Steps P A) (does m e begun) (does m' e begun) (λ done. fires m (about later id) done.0 >>= ended done.1) (λ done. fires m' (about later id) done.0 >>= ended done.1) (does_alike e begun stays f)
      (λ done g. binds (Good P A) (Steps P A) (fires m (about later id) done.0) (fires m' (about later id) done.0) (ended done.1) (ended done.1) (fires_alike (about later id) done.0 g) (λ s' h. (refl, h))))

  trashes_alike : (id : ℕ) (s : State) → Good P A s → Alike (Steps P A) (trash_work m id s) (trash_work m' id s)
  unfolding trash_work
  trashes_alike id s good =
      checked (Steps P A) (move_fault move.Trash (post_at s.site.posts id)) (change_between m (codes "wp_trash_post") (effect.Move id move.Trash) (codes "trashed_post") id s) (change_between m' (codes "wp_trash_post") (effect.Move id move.Trash) (codes "trashed_post") id s)
      (between_alike (codes "wp_trash_post") (effect.Move id move.Trash) (codes "trashed_post") id s (λ x. x) good)

  untrashes_alike : (id : ℕ) (s : State) → Good P A s → Alike (Steps P A) (untrash_work m id s) (untrash_work m' id s)
  unfolding untrash_work
  untrashes_alike id s good =
      checked (Steps P A) (move_fault move.Untrash (post_at s.site.posts id)) (change_between m (codes "untrash_post") (effect.Move id move.Untrash) (codes "untrashed_post") id s) (change_between m' (codes "untrash_post") (effect.Move id move.Untrash) (codes "untrashed_post") id s)
      (between_alike (codes "untrash_post") (effect.Move id move.Untrash) (codes "untrashed_post") id s (λ x. x) good)

  deletes_alike : (id : ℕ) (s : State) → Good P A s → Alike (Steps P A) (delete_work m id s) (delete_work m' id s)
  unfolding delete_work
  deletes_alike id s good =
      checked (Steps P A) (delete_fault (post_at s.site.posts id)) (change_between m (codes "before_delete_post") (effect.Delete id) (codes "deleted_post") id s) (change_between m' (codes "before_delete_post") (effect.Delete id) (codes "deleted_post") id s)
      (between_alike (codes "before_delete_post") (effect.Delete id) (codes "deleted_post") id s (λ x. x) good)

  -- ---- events

  takes_alike : (e : Event) (s : State) → Good P A s → Alike (Good P A) (takes m e s) (takes m' e s)
  unfolding takes
  takes_alike e s good =
      binds_same (Steps P A) (Good P A) (changes (effect.Take e) s) (λ done. fires m (event_fires done.1.did e) done.0) (λ done. fires m' (event_fires done.1.did e) done.0) (change_good P A s (effect_on s.site (effect.Take e)) (effects_keep A s.site (effect.Take e) (λ x. x) good.2) good) (λ done f. fires_alike (event_fires done.1.did e) done.0 f)

  takes_all_alike : (es : List Event) (s : State) → Good P A s → Alike (Good P A) (takes_all m es s) (takes_all m' es s)
  unfolding takes_all
  takes_all_alike [] s good = (refl, good)
  takes_all_alike (e ∷ es) s good = binds (Good P A) (Good P A) (takes m e s) (takes m' e s) (λ s'. takes_all m es s') (λ s'. takes_all m' es s') (takes_alike e s good) (λ s' f. takes_all_alike es s' f)

  ticks_alike : (s : State) → Good P A s → Alike (Steps P A) (tick_work m s) (tick_work m' s)
  unfolding tick_work
  ticks_alike s good =
      let es = due s.site.moment s.site.events in
      let a : Alike (Good P A) (takes_all m es s) (takes_all m' es s) = takes_all_alike es s good in
      (ap no_id a.0, no_id_good P A (takes_all m es s) a.1)

  -- ---- work after a boot, whose tables are the same

  booted_alike : (old new : KitView) (site : SiteView) (work work' : State → Result (State × ℕ) ApplyFault) → boot_with old.plugins site.active ≡ boot_with new.plugins site.active → TablesAre P (boot_with old.plugins site.active) → ActiveAre A site
      → ((s : State) → Good P A s → Alike (Steps P A) (work s) (work' s)) → Alike (Works A) (site_of (boots m old site >>= work)) (site_of (boots m' new site >>= work'))
  booted_alike old new site work work' same tables active each =
      let start : LoadedTables → State = λ t. state_at_start t site in
      let begun : Alike (Good P A) (boots m old site) (boots m' old site) = fires_alike boot_actions (start (boot_with old.plugins site.active)) (tables.0, tables.1, active) in
      let both : Alike (Good P A) (boots m old site) (boots m' new site) = subst (λ t. Alike (Good P A) (boots m old site) (fires m' boot_actions (start t))) same begun in
      let a : Alike (Steps P A) (boots m old site >>= work) (boots m' new site >>= work') = binds (Good P A) (Steps P A) (boots m old site) (boots m' new site) work work' both each in
      (ap site_of a.0, site_good P A (boots m old site >>= work) a.1)

-- ---- two kits

module _ (old new : KitView) (whole : IsWhole old) (extends : Extends old new) where
  abbrev pub Same : List ℕ → Type 0
  Same name = HasSame old new name

  on_actions : AlikeActions (Knows old) Same (callbacks_on old) (callbacks_on new)
  on_actions fs s good = actions_alike (Knows old) (ActiveAre Same) effect_on (effects_keep Same) old.scripts new.scripts (same_scripts old new whole extends) fs s good

  on_filters : AlikeFilters (Knows old) Same (callbacks_on old) (callbacks_on new)
  on_filters hook args s good = filters_alike (Knows old) (ActiveAre Same) effect_on (effects_keep Same) old.scripts new.scripts (same_scripts old new whole extends) hook args s good

  by_kit_alike : (site : SiteView) (work : Meaning → State → Result (State × ℕ) ApplyFault) → ActiveAre Same site → ((s : State) → Good (Knows old) Same s → Alike (Steps (Knows old) Same) (work (callbacks_on old) s) (work (callbacks_on new) s))
      → Alike (Works Same) (site_of (boots (callbacks_on old) old site >>= work (callbacks_on old))) (site_of (boots (callbacks_on new) new site >>= work (callbacks_on new)))
  by_kit_alike site work active each =
      booted_alike (Knows old) Same (callbacks_on old) (callbacks_on new) on_actions on_filters old new site (work (callbacks_on old)) (work (callbacks_on new)) (boots_same old new site.active active) (boot_is old whole site.active) active each

  work_alike : (s : SiteView) (c : Command) → names_new old new c ≡ false → ActiveAre Same s → Alike (Works Same) (work_of old s c) (work_of new s c)
  work_alike s (Insert draft) e active = by_kit_alike s (λ m. insert_work m draft) active (inserts_alike (Knows old) Same (callbacks_on old) (callbacks_on new) on_actions on_filters draft)
  work_alike s (Update id draft) e active = by_kit_alike s (λ m. update_work m id draft) active (updates_alike (Knows old) Same (callbacks_on old) (callbacks_on new) on_actions on_filters id draft)
  work_alike s (Trash id) e active = by_kit_alike s (λ m. trash_work m id) active (trashes_alike (Knows old) Same (callbacks_on old) (callbacks_on new) on_actions on_filters id)
  work_alike s (Untrash id) e active = by_kit_alike s (λ m. untrash_work m id) active (untrashes_alike (Knows old) Same (callbacks_on old) (callbacks_on new) on_actions on_filters id)
  work_alike s (Delete id) e active = by_kit_alike s (λ m. delete_work m id) active (deletes_alike (Knows old) Same (callbacks_on old) (callbacks_on new) on_actions on_filters id)
  work_alike s (SetOption name value) e active =
      by_kit_alike s (λ m. does m (effect.SetOption name value)) active (λ s' f. does_alike (Knows old) Same (callbacks_on old) (callbacks_on new) on_actions on_filters (effect.SetOption name value) s' (λ x. x) f)
  work_alike s (Activate plugin) e active =
      let after = effect_on s (effect.Activate plugin) in
      let one : Same plugin = has_same old new extends plugin e in (
        ap (λ o. if is_some o then work_without_boot after else Err NoSuchPlugin) one,
        known_works Same (is_some (plugin_of plugin old.plugins)) (work_without_boot after) (without_boot Same s after (activates Same s plugin one active)),
      )
  work_alike s (Deactivate plugin) e active = (refl, without_boot Same s (effect_on s (effect.Deactivate plugin)) (deactivates Same s plugin active))
  work_alike s Tick e active = by_kit_alike s (λ m. tick_work m) active (ticks_alike (Knows old) Same (callbacks_on old) (callbacks_on new) on_actions on_filters)
  work_alike s (Profile to) e active = (refl, without_boot Same s (effect_on s (effect.Profile to)) (effects_keep Same s (effect.Profile to) (λ x. x) active))

  -- ---- values

  where_alike : (s : SiteView) (c : Stamped) (o : Option Outcome) → names_new old new c.command ≡ false → ActiveAre Same s → (applied_where old s c o ≡ applied_where new s c o) × ActiveAre Same (applied_where old s c o).0
  where_alike s c (Some outcome) e active = (refl, active)
  where_alike s c None e active =
      let a : Alike (Works Same) (work_of old s c.command) (work_of new s c.command) = work_alike s c.command e active in
      (ap (keep_outcome s c.token) a.0, settled Same s c.token (work_of old s c.command) active a.1)

  pub applied_alike : (s : SiteView) (v : Value) → asks_new old new v ≡ false → ActiveAre Same s → (applied old s v ≡ applied new s v) × ActiveAre Same (applied old s v).0
  applied_alike s (Noop at) e active = (refl, active)
  applied_alike s (Cmd c) e active = where_alike (at_moment c.at s) c (outcome_of c.token s.outcomes) e active

  folded_alike : (s : SiteView) (vs : List Value) → ask_new old new vs ≡ false → ActiveAre Same s → (fold_values old s vs ≡ fold_values new s vs) × ActiveAre Same (fold_values old s vs)
  folded_alike s [] e active = (refl, active)
  folded_alike s (v ∷ vs) e active =
      let p = parted (asks_new old new v) (ask_new old new vs) e in
      let a : (applied old s v ≡ applied new s v) × ActiveAre Same (applied old s v).0 = applied_alike s v p.0 active in
      let b : (fold_values old (applied old s v).0 vs ≡ fold_values new (applied old s v).0 vs) × ActiveAre Same (fold_values old (applied old s v).0 vs) = folded_alike (applied old s v).0 vs p.1 a.1 in
      (b.0 ∙ ap (λ (x : SiteView × Outcome). fold_values new x.0 vs) a.0, b.1)

  pub sites_alike : (values : List Value) → ask_new old new values ≡ false → (site_after old values ≡ site_after new values) × ActiveAre Same (site_after old values)
  sites_alike values e = folded_alike no_site values e tt

-- ---- values and one more

module _ (old new : KitView) where
  pub front : (values : List Value) (v : Value) → ask_new old new (values ++ v ∷ []) ≡ false → ask_new old new values ≡ false
  front [] v e = refl
  front (w ∷ ws) v e =
      let p = parted (asks_new old new w) (ask_new old new (ws ++ v ∷ [])) e in
      neither (asks_new old new w) (ask_new old new ws) p.0 (front ws v p.1)

  pub last_one : (values : List Value) (v : Value) → ask_new old new (values ++ v ∷ []) ≡ false → asks_new old new v ≡ false
  last_one [] v e = (parted (asks_new old new v) false e).0
  last_one (w ∷ ws) v e = last_one ws v (parted (asks_new old new w) (ask_new old new (ws ++ v ∷ [])) e).1
