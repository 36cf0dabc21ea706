-- Over two kits whose callbacks of one kind have the same scripts, which name callbacks of that kind alone, runs come to the same, and leave tables of that kind.
use Rattle.std.proofs.Common.{◌≡◌, refl, subst, ℕ, zero, suc, ◌+◌, ◌++◌, List, [], ◌∷◌, take, length, Bool, true, false, Option, Some, None}
use Rattle.std.specs.Prelude.{IfSome, option_map, slice_get, slice_range, bytes_eq, ltb}
use Rattle.std.specs.List.{AllByRecursion}
use Rattle.press_text.specs.Decimals.{decimal_in}
use Rattle.press_text.specs.Moments.{moment_of}
use Rattle.press_text.specs.declared.every.Every.{Every}
use Rattle.press_hooks.specs.declared.entry.Entry.{Entry}
use Rattle.press_hooks.specs.declared.open_run.OpenRun.{OpenRun}
use Rattle.press_hooks.specs.HookRows.{has_rows}
use Rattle.press_hooks.specs.NextEntry.{next_entry, next_run, new_run}
use Rattle.press_posts.specs.declared.fire.Fire.{Fire}
use Rattle.press_posts.specs.declared.post.Move.TheVariants.{PublishDue}
use Rattle.press_scan.specs.declared.shortcode.Shortcode.{Shortcode}
use Rattle.press_scan.specs.Shortcodes.{cut}
use Rattle.press_scan.specs.FirstShortcode.{shortcode_from}
use Rattle.press_scan.specs.Scans.{before, behind}
use Rattle.press_scan.specs.Tags.{names_of, callback_of}
use Rattle.press_callbacks.specs.declared.script.CallIn.{CallIn}
use Rattle.press_callbacks.specs.declared.script.Op.{Op}
use Rattle.press_callbacks.specs.declared.script.Op.TheVariants as op
use Rattle.press_callbacks.specs.declared.script.Turn.{Turn}
use Rattle.press_callbacks.specs.declared.script.Turn.TheVariants.{Go, AddHook, RemoveHook, RemoveAll, AddTag, RemoveTag, Skip, Apply, Do, Shortcodes, Ask, SetOption, Schedule, Publish, Echo, Return}
use Rattle.press_callbacks.specs.Turns.{turn_at, turn_of, turn_of_op}
use Rattle.press_callbacks.specs.Kits.{Scripts, callback_named, script_of}
use Rattle.press_callbacks.specs.BuiltIns.{do_shortcode, is_built_in}
use Rattle.press_site.specs.declared.changed.Changed.{Changed}
use Rattle.press_site.specs.declared.effect.Effect.{Effect}
use Rattle.press_site.specs.declared.effect.Effect.TheVariants as effect
use Rattle.press_site.specs.SiteView.{SiteView}
use Rattle.press_run.specs.declared.job.Job.{Job}
use Rattle.press_run.specs.declared.job.Job.TheVariants as job
use Rattle.press_run.specs.declared.step.Kind.{Kind}
use Rattle.press_run.specs.declared.step.Kind.TheVariants.{Filter, Action}
use Rattle.press_run.specs.Links.{Changes, or_no_change, publishes, schedules}
use Rattle.press_run.specs.Outcome.{job_meaning}
use Rattle.press_run.specs.Run.{◌>>=◌, Answer, answer, State, Meaning, TurnResult, within, only_if, one_turn, fits, fuel, first_text, next_args, hook_call, or_empty, or_one_empty, tag_answer, shortcode_call, shortcode_answer, filter_answer_where, filters_answers, do_shortcode_tag, is_escape, answers, after_step, call_entry, run_entries, run_where, run_hook, apply_hook, do_hook, do_fires, change_site, publish, one_if, most_turns, most_open, shortcode_result, scan_rest, scan_from, scan, turn_step, counted_step, play, built_in_where, built_in, callback_where, at_depth, goes}
use Rattle.press_run.specs.Run.TurnResult.{Goes, Ends}
use Rattle.press_run.proofs.Profiled.{Alike, Any, any, binds, binds_same}
use Rattle.press_upgrade.proofs.Tables.{RowsAre, TagsAre, RunIs, callback_is, each_at, entry_is, row_removed, rows_added, rows_removed, run_goes_on, tag_removed, tags_added}

only : {A : Type 0} (P : A → Type 0) (b : Bool) (x : A) → P x → IfSome (only_if b x) P
only P true x p = p
only P false x p = tt

-- ---- what a callback may ask of a site: never a change of its active plugins

abbrev pub IsPluginSwitch : Effect → Type 0
IsPluginSwitch (effect.Insert draft) = ⊥
IsPluginSwitch (effect.Edit id draft) = ⊥
IsPluginSwitch (effect.Move id to) = ⊥
IsPluginSwitch (effect.Delete id) = ⊥
IsPluginSwitch (effect.SetOption name value) = ⊥
IsPluginSwitch (effect.Schedule event) = ⊥
IsPluginSwitch (effect.Take event) = ⊥
IsPluginSwitch (effect.Activate plugin) = Unit {0}
IsPluginSwitch (effect.Deactivate plugin) = Unit {0}
IsPluginSwitch (effect.Profile to) = ⊥

-- a word of a site that each other change of it leaves true
abbrev pub Keeps : (SiteView → Type 0) → Changes → Type 0
Keeps Q changes = (site : SiteView) (e : Effect) → (IsPluginSwitch e → ⊥) → Q site → Q (or_no_change site (changes site e)).0

abbrev AsksNoSwitch : Option Effect → Type 0
AsksNoSwitch o = IfSome o (λ e. IsPluginSwitch e → ⊥)

publishing : (now : ℕ) (o : Option ℕ) → AsksNoSwitch (option_map (λ n. effect.Move n (PublishDue now)) o)
publishing now None = tt
publishing now (Some n) = λ x. x

scheduling : (every : Every) (hook arg : List ℕ) (o : Option ℕ) → AsksNoSwitch (option_map (λ time. effect.Schedule (record { time = time; hook = hook; arg = arg; every = every })) o)
scheduling every hook arg None = tt
scheduling every hook arg (Some time) = λ x. x

-- ---- scripts that name callbacks of one kind

module _ (P : List ℕ → Type 0) where
  abbrev pub OpIs : Op → Type 0
  OpIs o = IfSome (callback_named o) P

  abbrev pub ScriptIs : List Op → Type 0
  ScriptIs script = AllByRecursion OpIs script

  -- a turn that puts a callback somewhere puts one of that kind
  abbrev pub TurnIs : Turn → Type 0
  TurnIs (Go t) = Unit {0}
  TurnIs (AddHook hook c p n) = P c
  TurnIs (RemoveHook hook c p) = Unit {0}
  TurnIs (RemoveAll hook p) = Unit {0}
  TurnIs (AddTag t c) = P c
  TurnIs (RemoveTag t) = Unit {0}
  TurnIs (Skip n) = Unit {0}
  TurnIs (Apply hook ts) = Unit {0}
  TurnIs (Do hook ts) = Unit {0}
  TurnIs (Shortcodes t) = Unit {0}
  TurnIs (Ask q) = Unit {0}
  TurnIs (SetOption n t) = Unit {0}
  TurnIs (Schedule after every hook t) = Unit {0}
  TurnIs (Publish t) = Unit {0}
  TurnIs (Echo t) = Unit {0}
  TurnIs (Return t) = Unit {0}

  op_turn_is : (call : CallIn) (o : Op) → OpIs o → TurnIs (turn_of_op call o)
  op_turn_is call (op.Set ps) p = tt
  op_turn_is call (op.AddHook h c p a) q = q
  op_turn_is call (op.RemoveHook h c p) q = tt
  op_turn_is call (op.RemoveAll h p) q = tt
  op_turn_is call (op.AddTag t c) q = q
  op_turn_is call (op.RemoveTag t) q = tt
  op_turn_is call (op.SkipIf l r n) q = tt
  op_turn_is call (op.Apply h v more) q = tt
  op_turn_is call (op.Do h args) q = tt
  op_turn_is call (op.Shortcodes ps) q = tt
  op_turn_is call (op.Ask a) q = tt
  op_turn_is call (op.SetOption n v) q = tt
  op_turn_is call (op.Schedule after every h arg) q = tt
  op_turn_is call (op.Publish ps) q = tt
  op_turn_is call (op.Echo ps) q = tt
  op_turn_is call (op.Return ps) q = tt

  turn_at_is : (call : CallIn) (o : Option Op) → IfSome o OpIs → TurnIs (turn_at call o)
  turn_at_is call None p = tt
  turn_at_is call (Some o) p = op_turn_is call o p

  turn_is : (script : List Op) (call : CallIn) → ScriptIs script → TurnIs (turn_of script call)
  turn_is script call p = turn_at_is call (slice_get script call.turn) (each_at OpIs script call.turn p)

-- ---- states whose tables are of that kind, over a site of which a word holds

module _ (P : List ℕ → Type 0) (Q : SiteView → Type 0) where
  abbrev pub Fine : State → Type 0
  Fine s = RowsAre P s.rows × TagsAre P s.tags × Q s.site

  abbrev pub FineAnswer : Answer → Type 0
  FineAnswer a = Fine a.state

  abbrev pub FineStep : TurnResult → Type 0
  FineStep (Goes call s) = Fine s
  FineStep (Ends text s) = Fine s

  abbrev pub AlikeCallbacks : Meaning → Meaning → Type 0
  AlikeCallbacks m m' = (id : List ℕ) (call : CallIn) (s : State) → P id → Fine s → Alike FineAnswer (m id call s) (m' id call s)

module _ (P : List ℕ → Type 0) (Q : SiteView → Type 0) (changes : Changes) (keeps : Keeps Q changes) (m m' : Meaning) (h : AlikeCallbacks P Q m m') where
  -- ---- hooks

  entry_alike : (rest rest' : List ℕ → State → Option Answer) (args : List (List ℕ)) (s : State) (o : Option Entry) → IfSome o (λ e. P e.callback) → Fine P Q s → ((t : List ℕ) (s' : State) → Fine P Q s' → Alike (FineAnswer P Q) (rest t s') (rest' t s')) → Alike (FineAnswer P Q) (call_entry m rest args s o) (call_entry m' rest' args s o)
  entry_alike rest rest' args s None named fine again = (refl, fine)
  entry_alike rest rest' args s (Some e) named fine again =
      binds (FineAnswer P Q) (FineAnswer P Q) (m e.callback (hook_call (take e.accepted args)) s) (m' e.callback (hook_call (take e.accepted args)) s) (λ a. rest a.text a.state) (λ a. rest' a.text a.state) (h e.callback (hook_call (take e.accepted args)) s named fine) (λ a f. again a.text a.state f)

  entries_alike : (kind : Kind) (n : ℕ) (args : List (List ℕ)) (run : OpenRun) (s : State) → RunIs P run → Fine P Q s → Alike (FineAnswer P Q) (run_entries m kind n args run s) (run_entries m' kind n args run s)
  unfolding run_entries
  entries_alike kind zero args run s is fine = (refl, tt)
  entries_alike kind (suc n) args run s is fine =
      entry_alike (λ t s'. run_entries m kind n (next_args kind t args) (next_run s.rows run) s') (λ t s'. run_entries m' kind n (next_args kind t args) (next_run s.rows run) s') args s (next_entry s.rows run) (entry_is P s.rows run fine.0 is) fine
      (λ t s' f. entries_alike kind n (next_args kind t args) (next_run s.rows run) s' (run_goes_on P s.rows run fine.0 is) f)

  where_alike : (kind : Kind) (hook : List ℕ) (args : List (List ℕ)) (s : State) (b : Bool) → Fine P Q s → Alike (FineAnswer P Q) (run_where m kind hook args s b) (run_where m' kind hook args s b)
  where_alike kind hook args s false fine = (refl, fine)
  where_alike kind hook args s true fine =
      let running : State = record s { doing = s.doing ++ hook ∷ [] } in
      binds (FineAnswer P Q) (FineAnswer P Q) (run_entries m kind fuel args (new_run hook) running) (run_entries m' kind fuel args (new_run hook) running) (λ a. answer a.text (record (a.state) { doing = s.doing })) (λ a. answer a.text (record (a.state) { doing = s.doing })) (entries_alike kind fuel args (new_run hook) running tt fine) (λ a f. (refl, f))

  hook_alike : (kind : Kind) (hook : List ℕ) (args : List (List ℕ)) (s : State) → Fine P Q s → Alike (FineAnswer P Q) (run_hook m kind hook args s) (run_hook m' kind hook args s)
  hook_alike kind hook args s fine = where_alike kind hook args s (has_rows hook s.rows) fine

  pub apply_alike : (hook : List ℕ) (args : List (List ℕ)) (s : State) → Fine P Q s → Alike (FineAnswer P Q) (apply_hook m hook args s) (apply_hook m' hook args s)
  apply_alike hook args s fine = hook_alike Filter hook args s fine

  do_alike : (hook : List ℕ) (args : List (List ℕ)) (s : State) → Fine P Q s → Alike (FineAnswer P Q) (do_hook m hook args s) (do_hook m' hook args s)
  do_alike hook args s fine =
      let counted : State = record s { did = s.did ++ hook ∷ [] } in
      binds (FineAnswer P Q) (FineAnswer P Q) (run_hook m Action hook (or_one_empty args) counted) (run_hook m' Action hook (or_one_empty args) counted) (λ a. answer [] a.state) (λ a. answer [] a.state) (hook_alike Action hook (or_one_empty args) counted fine) (λ a f. (refl, f))

  pub fires_alike : (fires : List Fire) (s : State) → Fine P Q s → Alike (FineAnswer P Q) (do_fires m fires s) (do_fires m' fires s)
  unfolding do_fires
  fires_alike [] s fine = (refl, fine)
  fires_alike (f ∷ fs) s fine =
      binds (FineAnswer P Q) (FineAnswer P Q) (do_hook m f.hook f.args s) (do_hook m' f.hook f.args s) (λ a. do_fires m fs a.state) (λ a. do_fires m' fs a.state) (do_alike f.hook f.args s fine) (λ a g. fires_alike fs a.state g)

  -- ---- changes of the site

  change_alike : (s : State) (o : Option Effect) → AsksNoSwitch o → Fine P Q s → Alike (FineAnswer P Q) (change_site changes m s o) (change_site changes m' s o)
  change_alike s None plain fine = (refl, fine)
  change_alike s (Some e) plain fine =
      let after : SiteView × Changed = or_no_change s.site (changes s.site e) in
      let changed : State = record s { site = after.0 } in
      binds (FineAnswer P Q) (FineAnswer P Q) (do_fires m after.1.fires changed) (do_fires m' after.1.fires changed) (λ a. answer (one_if after.1.did) a.state) (λ a. answer (one_if after.1.did) a.state) (fires_alike after.1.fires changed (fine.0, fine.1, keeps s.site e plain fine.2)) (λ a f. (refl, f))

  publishes_none : (id : List ℕ) (now : ℕ) → AsksNoSwitch (publishes id now)
  publishes_none id now = publishing now (decimal_in id)

  schedules_none : (after : ℕ) (every : Every) (hook arg : List ℕ) (now : ℕ) → AsksNoSwitch (schedules after every hook arg now)
  schedules_none after every hook arg now = scheduling every hook arg (moment_of (now + after))

  publish_alike : (id : List ℕ) (s : State) → Fine P Q s → Alike (FineAnswer P Q) (publish changes m id s) (publish changes m' id s)
  publish_alike id s fine =
      let e = publishes id s.site.moment in
      binds (FineAnswer P Q) (FineAnswer P Q) (change_site changes m s e) (change_site changes m' s e) (λ a. answer id a.state) (λ a. answer id a.state) (change_alike s e (publishes_none id s.site.moment) fine) (λ a f. (refl, f))

  -- ---- shortcodes

  tag_alike : (o : Option (List ℕ)) (call : CallIn) (s : State) → IfSome o P → Fine P Q s → Alike (FineAnswer P Q) (tag_answer m o call s) (tag_answer m' o call s)
  tag_alike None call s named fine = (refl, fine)
  tag_alike (Some id) call s named fine = h id call s named fine

  filtered_alike : (tag : List ℕ) (a : Answer) (b : Bool) → FineAnswer P Q a → Alike (FineAnswer P Q) (filter_answer_where m tag a b) (filter_answer_where m' tag a b)
  filtered_alike tag a false fine = (refl, fine)
  filtered_alike tag a true fine = apply_alike do_shortcode_tag (a.text ∷ tag ∷ []) a.state fine

  shortcode_alike : (text : List ℕ) (c : Shortcode) (s : State) → Fine P Q s → Alike (FineAnswer P Q) (shortcode_answer m text c s) (shortcode_answer m' text c s)
  shortcode_alike text c s fine =
      let id = callback_of (cut text c.tag) s.tags in
      binds (FineAnswer P Q) (FineAnswer P Q) (tag_answer m id (shortcode_call text c) s) (tag_answer m' id (shortcode_call text c) s) (λ a. filter_answer_where m (cut text c.tag) a (filters_answers s.site)) (λ a. filter_answer_where m' (cut text c.tag) a (filters_answers s.site))
      (tag_alike id (shortcode_call text c) s (callback_is P (cut text c.tag) s.tags fine.1) fine) (λ a f. filtered_alike (cut text c.tag) a (filters_answers s.site) f)

  result_alike : (text : List ℕ) (c : Shortcode) (s : State) (b : Bool) → Fine P Q s → Alike (FineAnswer P Q) (shortcode_result m text c s b) (shortcode_result m' text c s b)
  result_alike text c s true fine = (refl, fine)
  result_alike text c s false fine =
      binds (FineAnswer P Q) (FineAnswer P Q) (shortcode_answer m text c s) (shortcode_answer m' text c s) (λ a. answer (before c ++ (a.text ++ behind c)) a.state) (λ a. answer (before c ++ (a.text ++ behind c)) a.state) (shortcode_alike text c s fine) (λ a f. (refl, f))

  rest_alike : (rest rest' : ℕ → List ℕ → State → Option Answer) (text : List ℕ) (at : ℕ) (output : List ℕ) (s : State) (o : Option Shortcode) → Fine P Q s → ((at' : ℕ) (output' : List ℕ) (s' : State) → Fine P Q s' → Alike (FineAnswer P Q) (rest at' output' s') (rest' at' output' s'))
      → Alike (FineAnswer P Q) (scan_rest m rest text at output s o) (scan_rest m' rest' text at output s o)
  rest_alike rest rest' text at output s None fine again =
      binds_same Any (FineAnswer P Q) (within (output ++ slice_range text at (length text))) (λ whole. answer whole s) (λ whole. answer whole s) (any (within (output ++ slice_range text at (length text)))) (λ whole u. (refl, fine))
  rest_alike rest rest' text at output s (Some c) fine again =
      binds_same Any (FineAnswer P Q) (within (output ++ slice_range text at c.start)) (λ front. shortcode_result m text c s (is_escape c) >>= λ a. within (front ++ a.text) >>= λ longer. rest c.end longer a.state) (λ front. shortcode_result m' text c s (is_escape c) >>= λ a. within (front ++ a.text) >>= λ longer. rest' c.end longer a.state) (any (within (output ++ slice_range text at c.start)))
      (λ front u. binds (FineAnswer P Q) (FineAnswer P Q) (shortcode_result m text c s (is_escape c)) (shortcode_result m' text c s (is_escape c)) (λ a. within (front ++ a.text) >>= λ longer. rest c.end longer a.state) (λ a. within (front ++ a.text) >>= λ longer. rest' c.end longer a.state) (result_alike text c s (is_escape c) fine)
      (λ a f. binds_same Any (FineAnswer P Q) (within (front ++ a.text)) (λ longer. rest c.end longer a.state) (λ longer. rest' c.end longer a.state) (any (within (front ++ a.text))) (λ longer v. again c.end longer a.state f)))

  from_alike : (n : ℕ) (text : List ℕ) (at : ℕ) (output : List ℕ) (s : State) → Fine P Q s → Alike (FineAnswer P Q) (scan_from m n text at output s) (scan_from m' n text at output s)
  unfolding scan_from
  from_alike zero text at output s fine = (refl, tt)
  from_alike (suc n) text at output s fine =
      rest_alike (λ at' output' s'. scan_from m n text at' output' s') (λ at' output' s'. scan_from m' n text at' output' s') text at output s (shortcode_from text (names_of s.tags) at) fine (λ at' output' s' f. from_alike n text at' output' s' f)

  scan_alike : (text : List ℕ) (s : State) → Fine P Q s → Alike (FineAnswer P Q) (scan m text s) (scan m' text s)
  scan_alike text s fine =
      binds_same Any (FineAnswer P Q) (within text) (λ whole. scan_from m (suc (length whole)) whole 0 [] s) (λ whole. scan_from m' (suc (length whole)) whole 0 [] s) (any (within text)) (λ whole u. from_alike (suc (length whole)) whole 0 [] s fine)

  -- ---- turns

  answers_alike : (call : CallIn) (o o' : Option Answer) → Alike (FineAnswer P Q) o o' → Alike (FineStep P Q) (o >>= λ a. answers call a.text a.state) (o' >>= λ a. answers call a.text a.state)
  answers_alike call o o' p = binds (FineAnswer P Q) (FineStep P Q) o o' (λ a. answers call a.text a.state) (λ a. answers call a.text a.state) p (λ a f. (refl, f))

  step_alike : (call : CallIn) (s : State) (turn : Turn) → TurnIs P turn → Fine P Q s → Alike (FineStep P Q) (turn_step changes m call s turn) (turn_step changes m' call s turn)
  step_alike call s (Go t) is fine = (refl, fine)
  step_alike call s (AddHook hook c p n) is fine = (refl, (rows_added P hook c p n s.rows is fine.0, fine.1, fine.2))
  step_alike call s (RemoveHook hook c p) is fine = (refl, (row_removed P hook c p s.rows fine.0, fine.1, fine.2))
  step_alike call s (RemoveAll hook p) is fine = (refl, (rows_removed P hook p s.rows fine.0, fine.1, fine.2))
  step_alike call s (AddTag t c) is fine = (refl, (fine.0, tags_added P t c s.tags is fine.1, fine.2))
  step_alike call s (RemoveTag t) is fine = (refl, (fine.0, tag_removed P t s.tags fine.1, fine.2))
  step_alike call s (Skip n) is fine = (refl, fine)
  step_alike call s (Apply hook ts) is fine = answers_alike call (apply_hook m hook ts s) (apply_hook m' hook ts s) (apply_alike hook ts s fine)
  step_alike call s (Do hook ts) is fine = binds (FineAnswer P Q) (FineStep P Q) (do_hook m hook ts s) (do_hook m' hook ts s) (λ a. answers call [] a.state) (λ a. answers call [] a.state) (do_alike hook ts s fine) (λ a f. (refl, f))
  step_alike call s (Shortcodes t) is fine = answers_alike call (scan m t s) (scan m' t s) (scan_alike t s fine)
  step_alike call s (Ask q) is fine = (refl, fine)
  step_alike call s (Echo t) is fine =
      let next : List ℕ → Option TurnResult = λ output. goes (record call { turn = call.turn + (1 + 0) }) (record s { output = output }) in
      binds_same Any (FineStep P Q) (within (s.output ++ t)) next next (any (within (s.output ++ t))) (λ output u. (refl, fine))
  step_alike call s (SetOption n t) is fine = answers_alike call (change_site changes m s (Some (effect.SetOption n t))) (change_site changes m' s (Some (effect.SetOption n t))) (change_alike s (Some (effect.SetOption n t)) (λ x. x) fine)
  step_alike call s (Schedule after every hook t) is fine = answers_alike call (change_site changes m s (schedules after every hook t s.site.moment)) (change_site changes m' s (schedules after every hook t s.site.moment)) (change_alike s (schedules after every hook t s.site.moment) (schedules_none after every hook t s.site.moment) fine)
  step_alike call s (Publish t) is fine = answers_alike call (change_site changes m s (publishes t s.site.moment)) (change_site changes m' s (publishes t s.site.moment)) (change_alike s (publishes t s.site.moment) (publishes_none t s.site.moment) fine)
  step_alike call s (Return t) is fine = (refl, fine)

  counted_alike : (call : CallIn) (turn : Turn) (s : State) → TurnIs P turn → Fine P Q s → Alike (FineStep P Q) (counted_step changes m call turn s) (counted_step changes m' call turn s)
  counted_alike call turn s is fine =
      binds_same (Fine P Q) (FineStep P Q) (one_turn s) (λ s'. only_if (fits turn) turn >>= λ turn'. turn_step changes m call s' turn') (λ s'. only_if (fits turn) turn >>= λ turn'. turn_step changes m' call s' turn') (only (Fine P Q) (ltb s.turns most_turns) (record s { turns = s.turns + 1 }) fine)
      (λ s' f. binds_same (TurnIs P) (FineStep P Q) (only_if (fits turn) turn) (λ turn'. turn_step changes m call s' turn') (λ turn'. turn_step changes m' call s' turn') (only (TurnIs P) (fits turn) turn is) (λ turn' i. step_alike call s' turn' i f))

  after_alike : (rest rest' : CallIn → State → Option Answer) (x : TurnResult) → FineStep P Q x → ((call : CallIn) (s : State) → Fine P Q s → Alike (FineAnswer P Q) (rest call s) (rest' call s)) → Alike (FineAnswer P Q) (after_step rest x) (after_step rest' x)
  after_alike rest rest' (Goes call s) fine again = again call s fine
  after_alike rest rest' (Ends text s) fine again = (refl, fine)

  plays_alike : (script : List Op) (n : ℕ) (call : CallIn) (s : State) → ScriptIs P script → Fine P Q s → Alike (FineAnswer P Q) (play changes m script n call s) (play changes m' script n call s)
  unfolding play
  plays_alike script zero call s is fine = (refl, tt)
  plays_alike script (suc n) call s is fine =
      binds (FineStep P Q) (FineAnswer P Q) (counted_step changes m call (turn_of script call) s) (counted_step changes m' call (turn_of script call) s) (after_step (λ call' s'. play changes m script n call' s')) (after_step (λ call' s'. play changes m' script n call' s')) (counted_alike call (turn_of script call) s (turn_is P script call is) fine)
      (λ x p. after_alike (λ call' s'. play changes m script n call' s') (λ call' s'. play changes m' script n call' s') x p (λ call' s' f. plays_alike script n call' s' is f))

  -- ---- callbacks

  built_in_where_alike : (argument : List ℕ) (s : State) (b : Bool) → Fine P Q s → Alike (FineAnswer P Q) (built_in_where changes m argument s b) (built_in_where changes m' argument s b)
  built_in_where_alike argument s true fine = scan_alike argument s fine
  built_in_where_alike argument s false fine = publish_alike argument s fine

  built_in_alike : (id : List ℕ) (call : CallIn) (s : State) → Fine P Q s → Alike (FineAnswer P Q) (built_in changes m id call s) (built_in changes m' id call s)
  built_in_alike id call s fine =
      binds_same (Fine P Q) (FineAnswer P Q) (one_turn s) (λ s'. built_in_where changes m (first_text call.args) s' (bytes_eq id do_shortcode)) (λ s'. built_in_where changes m' (first_text call.args) s' (bytes_eq id do_shortcode)) (only (Fine P Q) (ltb s.turns most_turns) (record s { turns = s.turns + 1 }) fine) (λ s' f. built_in_where_alike (first_text call.args) s' (bytes_eq id do_shortcode) f)

  callback_alike : (id : List ℕ) (script script' : Option (List Op)) (call : CallIn) (s : State) (b : Bool) → (b ≡ false → (script ≡ script') × ScriptIs P (or_empty script)) → Fine P Q s → Alike (FineAnswer P Q) (callback_where changes m id script call s b) (callback_where changes m' id script' call s b)
  callback_alike id script script' call s true same fine = built_in_alike id call s fine
  callback_alike id script script' call s false same fine =
      subst (λ x. Alike (FineAnswer P Q) (play changes m (or_empty script) fuel call s) (play changes m' (or_empty x) fuel call s)) (same refl).0 (plays_alike (or_empty script) fuel call s (same refl).1 fine)

-- ---- two kits: of each callback of that kind the same script, which names callbacks of that kind

abbrev pub SameScripts : (List ℕ → Type 0) → Scripts → Scripts → Type 0
SameScripts P old new = (id : List ℕ) → P id → is_built_in id ≡ false → (script_of id old ≡ script_of id new) × ScriptIs P (or_empty (script_of id old))

module _ (P : List ℕ → Type 0) (Q : SiteView → Type 0) (changes : Changes) (keeps : Keeps Q changes) (old new : Scripts) (same : SameScripts P old new) where
  depth_alike : (depth : ℕ) → AlikeCallbacks P Q (at_depth changes depth old) (at_depth changes depth new)
  unfolding at_depth
  depth_alike zero id call s known fine = (refl, tt)
  depth_alike (suc depth) id call s known fine =
      callback_alike P Q changes keeps (at_depth changes depth old) (at_depth changes depth new) (depth_alike depth) id (script_of id old) (script_of id new) call s (is_built_in id) (same id known) fine

  pub actions_alike : (fires : List Fire) (s : State) → Fine P Q s → Alike (FineAnswer P Q) (do_fires (at_depth changes most_open old) fires s) (do_fires (at_depth changes most_open new) fires s)
  actions_alike fires s fine = fires_alike P Q changes keeps (at_depth changes most_open old) (at_depth changes most_open new) (depth_alike most_open) fires s fine

  pub filters_alike : (hook : List ℕ) (args : List (List ℕ)) (s : State) → Fine P Q s → Alike (FineAnswer P Q) (apply_hook (at_depth changes most_open old) hook args s) (apply_hook (at_depth changes most_open new) hook args s)
  filters_alike hook args s fine = apply_alike P Q changes keeps (at_depth changes most_open old) (at_depth changes most_open new) (depth_alike most_open) hook args s fine

  pub job_alike : (j : Job) (s : State) → Fine P Q s → Alike (FineAnswer P Q) (job_meaning changes old j s) (job_meaning changes new j s)
  job_alike (job.Fires fires) s fine = actions_alike fires s fine
  job_alike (job.Apply hook args) s fine = filters_alike hook args s fine
