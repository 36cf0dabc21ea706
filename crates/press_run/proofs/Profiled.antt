-- In profile 1 a run comes to what it came to before there were profiles, and leaves the profile as it is.
use Rattle.std.proofs.Common.{◌≡◌, refl, sym, ◌∙◌, ap, subst, ℕ, zero, suc, ◌+◌, ◌-◌, ◌++◌, List, [], ◌∷◌, take, length, Bool, true, false, Option, Some, None, Result, Ok, Err}
use Rattle.std.specs.Prelude.{IfSome, option_map, slice_range, bytes_eq, nat_eq, ltb}
use Rattle.press_text.specs.Decimals.{decimal_in}
use Rattle.press_text.specs.Moments.{moment_of}
use Rattle.press_text.specs.declared.every.Every.{Every}
use Rattle.press_hooks.specs.declared.entry.Entry.{Entry}
use Rattle.press_hooks.specs.declared.open_run.OpenRun.{OpenRun}
use Rattle.press_hooks.specs.HookRows.{has_rows}
use Rattle.press_hooks.specs.NextEntry.{next_entry, next_run, new_run}
use Rattle.press_posts.specs.declared.fire.Fire.{Fire}
use Rattle.press_posts.specs.declared.post.Move.TheVariants.{PublishDue}
use Rattle.press_scan.specs.declared.shortcode.Shortcode.{Shortcode}
use Rattle.press_scan.specs.Shortcodes.{cut}
use Rattle.press_scan.specs.FirstShortcode.{shortcode_from}
use Rattle.press_scan.specs.Scans.{before, behind}
use Rattle.press_scan.specs.Tags.{names_of, callback_of}
use Rattle.press_callbacks.specs.declared.script.CallIn.{CallIn}
use Rattle.press_callbacks.specs.declared.script.Op.{Op}
use Rattle.press_callbacks.specs.declared.script.Turn.{Turn}
use Rattle.press_callbacks.specs.declared.script.Turn.TheVariants.{Go, AddHook, RemoveHook, RemoveAll, AddTag, RemoveTag, Skip, Apply, Do, Shortcodes, Ask, SetOption, Schedule, Publish, Echo, Return}
use Rattle.press_callbacks.specs.Turns.{turn_of}
use Rattle.press_callbacks.specs.Kits.{Scripts, script_of}
use Rattle.press_callbacks.specs.BuiltIns.{do_shortcode, is_built_in}
use Rattle.press_site.specs.declared.changed.Changed.{Changed}
use Rattle.press_site.specs.declared.effect.Effect.{Effect}
use Rattle.press_site.specs.declared.effect.Effect.TheVariants as effect
use Rattle.press_site.specs.declared.fault.SiteFault.{SiteFault}
use Rattle.press_site.specs.ContentView.{ContentView}
use Rattle.press_site.specs.Contents.{take_event_effect}
use Rattle.press_site.specs.Effects.{content_of, effect_on, with_content, with_options, with_plugins}
use Rattle.press_site.specs.Options.{Values}
use Rattle.press_site.specs.SiteView.{SiteView}
use Rattle.press_run.specs.declared.job.Job.{Job}
use Rattle.press_run.specs.declared.job.Job.TheVariants as job
use Rattle.press_run.specs.declared.step.Kind.{Kind}
use Rattle.press_run.specs.declared.step.Kind.TheVariants.{Filter, Action}
use Rattle.press_run.specs.Links.{Changes, or_no_change, publishes, read_only, schedules}
use Rattle.press_run.specs.Outcome.{job_meaning}
use Rattle.press_run.specs.Run.{◌>>=◌, Answer, answer, State, Meaning, TurnResult, within, only_if, one_turn, fits, fuel, first_text, next_args, hook_call, or_empty, or_one_empty, tag_answer, shortcode_call, shortcode_answer, filter_answer_where, is_escape, answers, after_step, call_entry, run_entries, run_where, run_hook, apply_hook, do_hook, do_fires, change_site, publish, one_if, most_turns, most_open, shortcode_result, scan_rest, scan_from, scan, turn_step, counted_step, play, built_in_where, built_in, callback_where, at_depth, goes}
use Rattle.press_run.specs.Run.TurnResult.{Goes, Ends}
use Rattle.press_run.specs.Earlier as earlier
use Rattle.press_run.specs.Earlier.{IsSwitch, KeepsProfile}

-- ---- two outcomes that are one, of which a word holds

abbrev pub Alike : {A : Type 0} → (A → Type 0) → Option A → Option A → Type 0
Alike P o o' = (o ≡ o') × IfSome o P

pub binds_same : {A B : Type 0} (P : A → Type 0) (Q : B → Type 0) (o : Option A) (f g : A → Option B) → IfSome o P → ((x : A) → P x → Alike Q (f x) (g x)) → Alike Q (o >>= f) (o >>= g)
binds_same P Q None f g p e = (refl, tt)
binds_same P Q (Some x) f g p e = e x p

pub binds : {A B : Type 0} (P : A → Type 0) (Q : B → Type 0) (o o' : Option A) (f g : A → Option B) → Alike P o o' → ((x : A) → P x → Alike Q (f x) (g x)) → Alike Q (o >>= f) (o' >>= g)
binds P Q o o' f g h e = subst (λ x. Alike Q (o >>= f) (x >>= g)) h.0 (binds_same P Q o f g h.1 e)

abbrev pub Any : {A : Type 0} → A → Type 0
Any x = Unit {0}

pub any : {A : Type 0} (o : Option A) → IfSome o Any
any None = tt
any (Some x) = tt

only : {A : Type 0} (P : A → Type 0) (b : Bool) (x : A) → P x → IfSome (only_if b x) P
only P true x p = p
only P false x p = tt

some_again : {A : Type 0} (o : Option A) → (o >>= λ a. Some a) ≡ o
some_again None = refl
some_again (Some a) = refl

-- ---- the first profile

abbrev pub First : State → Type 0
First s = s.site.profile ≡ 1

abbrev pub InFirst : Answer → Type 0
InFirst a = First a.state

abbrev pub StepsInFirst : TurnResult → Type 0
StepsInFirst (Goes call s) = First s
StepsInFirst (Ends text s) = First s

abbrev pub AlikeCallbacks : Meaning → Meaning → Type 0
AlikeCallbacks m m' = (id : List ℕ) (call : CallIn) (s : State) → First s → Alike InFirst (m id call s) (m' id call s)

-- an answer with the same text and state
same_answer : (text : List ℕ) (s : State) → First s → Alike InFirst (answer text s) (answer text s)
same_answer text s first = (refl, first)

same_step : (x : TurnResult) → StepsInFirst x → Alike StepsInFirst (Some x) (Some x)
same_step x p = (refl, p)

-- ---- what asks for plain switch of profile

abbrev pub AsksNoSwitch : Option Effect → Type 0
AsksNoSwitch o = IfSome o (λ e. IsSwitch e → ⊥)

publishing : (now : ℕ) (o : Option ℕ) → AsksNoSwitch (option_map (λ n. effect.Move n (PublishDue now)) o)
publishing now None = tt
publishing now (Some n) = λ x. x

scheduling : (every : Every) (hook arg : List ℕ) (o : Option ℕ) → AsksNoSwitch (option_map (λ time. effect.Schedule (record { time = time; hook = hook; arg = arg; every = every })) o)
scheduling every hook arg None = tt
scheduling every hook arg (Some time) = λ x. x

module _ (changes : Changes) (keeps : KeepsProfile changes) (m m' : Meaning) (h : AlikeCallbacks m m') where
  -- ---- hooks

  entry_alike : (rest rest' : List ℕ → State → Option Answer) (args : List (List ℕ)) (s : State) (o : Option Entry) → First s → ((t : List ℕ) (s' : State) → First s' → Alike InFirst (rest t s') (rest' t s')) → Alike InFirst (call_entry m rest args s o) (call_entry m' rest' args s o)
  entry_alike rest rest' args s None first again = same_answer (first_text args) s first
  entry_alike rest rest' args s (Some e) first again =
      binds InFirst InFirst (m e.callback (hook_call (take e.accepted args)) s) (m' e.callback (hook_call (take e.accepted args)) s) (λ a. rest a.text a.state) (λ a. rest' a.text a.state) (h e.callback (hook_call (take e.accepted args)) s first) (λ a f. again a.text a.state f)

  entries_alike : (kind : Kind) (n : ℕ) (args : List (List ℕ)) (run : OpenRun) (s : State) → First s → Alike InFirst (run_entries m kind n args run s) (run_entries m' kind n args run s)
  unfolding run_entries
  entries_alike kind zero args run s first = (refl, tt)
  entries_alike kind (suc n) args run s first =
      entry_alike (λ t s'. run_entries m kind n (next_args kind t args) (next_run s.rows run) s') (λ t s'. run_entries m' kind n (next_args kind t args) (next_run s.rows run) s') args s (next_entry s.rows run) first (λ t s' f. entries_alike kind n (next_args kind t args) (next_run s.rows run) s' f)

  where_alike : (kind : Kind) (hook : List ℕ) (args : List (List ℕ)) (s : State) (b : Bool) → First s → Alike InFirst (run_where m kind hook args s b) (run_where m' kind hook args s b)
  where_alike kind hook args s false first = same_answer (first_text args) s first
  where_alike kind hook args s true first =
      let running : State = record s { doing = s.doing ++ hook ∷ [] } in
      binds InFirst InFirst (run_entries m kind fuel args (new_run hook) running) (run_entries m' kind fuel args (new_run hook) running) (λ a. answer a.text (record (a.state) { doing = s.doing })) (λ a. answer a.text (record (a.state) { doing = s.doing })) (entries_alike kind fuel args (new_run hook) running first) (λ a f. (refl, f))

  hook_alike : (kind : Kind) (hook : List ℕ) (args : List (List ℕ)) (s : State) → First s → Alike InFirst (run_hook m kind hook args s) (run_hook m' kind hook args s)
  hook_alike kind hook args s first = where_alike kind hook args s (has_rows hook s.rows) first

  pub apply_alike : (hook : List ℕ) (args : List (List ℕ)) (s : State) → First s → Alike InFirst (apply_hook m hook args s) (apply_hook m' hook args s)
  apply_alike hook args s first = hook_alike Filter hook args s first

  do_alike : (hook : List ℕ) (args : List (List ℕ)) (s : State) → First s → Alike InFirst (do_hook m hook args s) (do_hook m' hook args s)
  do_alike hook args s first =
      let counted : State = record s { did = s.did ++ hook ∷ [] } in
      binds InFirst InFirst (run_hook m Action hook (or_one_empty args) counted) (run_hook m' Action hook (or_one_empty args) counted) (λ a. answer [] a.state) (λ a. answer [] a.state) (hook_alike Action hook (or_one_empty args) counted first) (λ a f. (refl, f))

  pub fires_alike : (fires : List Fire) (s : State) → First s → Alike InFirst (do_fires m fires s) (do_fires m' fires s)
  unfolding do_fires
  fires_alike [] s first = same_answer [] s first
  fires_alike (f ∷ fs) s first =
      binds InFirst InFirst (do_hook m f.hook f.args s) (do_hook m' f.hook f.args s) (λ a. do_fires m fs a.state) (λ a. do_fires m' fs a.state) (do_alike f.hook f.args s first) (λ a g. fires_alike fs a.state g)

  -- ---- changes of the site

  change_alike : (s : State) (o : Option Effect) → AsksNoSwitch o → First s → Alike InFirst (change_site changes m s o) (change_site changes m' s o)
  change_alike s None plain first = same_answer [] s first
  change_alike s (Some e) plain first =
      let after : SiteView × Changed = or_no_change s.site (changes s.site e) in
      let changed : State = record s { site = after.0 } in
      binds InFirst InFirst (do_fires m after.1.fires changed) (do_fires m' after.1.fires changed) (λ a. answer (one_if after.1.did) a.state) (λ a. answer (one_if after.1.did) a.state) (fires_alike after.1.fires changed (keeps s.site e plain ∙ first)) (λ a f. (refl, f))

  publishes_none : (id : List ℕ) (now : ℕ) → AsksNoSwitch (publishes id now)
  publishes_none id now = publishing now (decimal_in id)

  schedules_none : (after : ℕ) (every : Every) (hook arg : List ℕ) (now : ℕ) → AsksNoSwitch (schedules after every hook arg now)
  schedules_none after every hook arg now = scheduling every hook arg (moment_of (now + after))

  publish_alike : (id : List ℕ) (s : State) → First s → Alike InFirst (publish changes m id s) (publish changes m' id s)
  publish_alike id s first =
      let e = publishes id s.site.moment in
      binds InFirst InFirst (change_site changes m s e) (change_site changes m' s e) (λ a. answer id a.state) (λ a. answer id a.state) (change_alike s e (publishes_none id s.site.moment) first) (λ a f. (refl, f))

  -- ---- shortcodes: in the first profile an answer is put in its place as it is

  tag_alike : (o : Option (List ℕ)) (call : CallIn) (s : State) → First s → Alike InFirst (tag_answer m o call s) (tag_answer m' o call s)
  tag_alike None call s first = same_answer [] s first
  tag_alike (Some id) call s first = h id call s first

  as_it_is : (text : List ℕ) (c : Shortcode) (s : State) → First s → shortcode_answer m text c s ≡ tag_answer m (callback_of (cut text c.tag) s.tags) (shortcode_call text c) s
  as_it_is text c s first =
      let o = tag_answer m (callback_of (cut text c.tag) s.tags) (shortcode_call text c) s in
      ap (λ n. o >>= λ a. filter_answer_where m (cut text c.tag) a (nat_eq n 2)) first ∙ some_again o

  result_alike : (text : List ℕ) (c : Shortcode) (s : State) (b : Bool) → First s → Alike InFirst (shortcode_result m text c s b) (earlier.shortcode_result m' text c s b)
  result_alike text c s true first = same_answer (slice_range text (c.start + 1) (c.end - 1)) s first
  result_alike text c s false first =
      let id = callback_of (cut text c.tag) s.tags in
      let o' = tag_answer m' id (shortcode_call text c) s in
      let t = tag_alike id (shortcode_call text c) s first in
      let e = sym (as_it_is text c s first) in
      binds InFirst InFirst (shortcode_answer m text c s) o' (λ a. answer (before c ++ (a.text ++ behind c)) a.state) (λ a. answer (before c ++ (a.text ++ behind c)) a.state) (subst (λ x. Alike InFirst x o') e t) (λ a f. (refl, f))

  rest_alike : (rest rest' : ℕ → List ℕ → State → Option Answer) (text : List ℕ) (at : ℕ) (output : List ℕ) (s : State) (o : Option Shortcode) → First s → ((at' : ℕ) (output' : List ℕ) (s' : State) → First s' → Alike InFirst (rest at' output' s') (rest' at' output' s'))
      → Alike InFirst (scan_rest m rest text at output s o) (earlier.scan_rest m' rest' text at output s o)
  rest_alike rest rest' text at output s None first again =
      binds_same Any InFirst (within (output ++ slice_range text at (length text))) (λ whole. answer whole s) (λ whole. answer whole s) (any (within (output ++ slice_range text at (length text)))) (λ whole u. (refl, first))
  rest_alike rest rest' text at output s (Some c) first again =
      binds_same Any InFirst (within (output ++ slice_range text at c.start)) (λ front. shortcode_result m text c s (is_escape c) >>= λ a. within (front ++ a.text) >>= λ longer. rest c.end longer a.state) (λ front. earlier.shortcode_result m' text c s (is_escape c) >>= λ a. within (front ++ a.text) >>= λ longer. rest' c.end longer a.state) (any (within (output ++ slice_range text at c.start)))
      (λ front u. binds InFirst InFirst (shortcode_result m text c s (is_escape c)) (earlier.shortcode_result m' text c s (is_escape c)) (λ a. within (front ++ a.text) >>= λ longer. rest c.end longer a.state) (λ a. within (front ++ a.text) >>= λ longer. rest' c.end longer a.state) (result_alike text c s (is_escape c) first)
      (λ a f. binds_same Any InFirst (within (front ++ a.text)) (λ longer. rest c.end longer a.state) (λ longer. rest' c.end longer a.state) (any (within (front ++ a.text))) (λ longer v. again c.end longer a.state f)))

  from_alike : (n : ℕ) (text : List ℕ) (at : ℕ) (output : List ℕ) (s : State) → First s → Alike InFirst (scan_from m n text at output s) (earlier.scan_from m' n text at output s)
  unfolding scan_from earlier.scan_from
  from_alike zero text at output s first = (refl, tt)
  from_alike (suc n) text at output s first =
      rest_alike (λ at' output' s'. scan_from m n text at' output' s') (λ at' output' s'. earlier.scan_from m' n text at' output' s') text at output s (shortcode_from text (names_of s.tags) at) first (λ at' output' s' f. from_alike n text at' output' s' f)

  scan_alike : (text : List ℕ) (s : State) → First s → Alike InFirst (scan m text s) (earlier.scan m' text s)
  scan_alike text s first =
      binds_same Any InFirst (within text) (λ whole. scan_from m (suc (length whole)) whole 0 [] s) (λ whole. earlier.scan_from m' (suc (length whole)) whole 0 [] s) (any (within text)) (λ whole u. from_alike (suc (length whole)) whole 0 [] s first)

  -- ---- turns

  answers_alike : (call : CallIn) (o o' : Option Answer) → Alike InFirst o o' → Alike StepsInFirst (o >>= λ a. answers call a.text a.state) (o' >>= λ a. answers call a.text a.state)
  answers_alike call o o' p = binds InFirst StepsInFirst o o' (λ a. answers call a.text a.state) (λ a. answers call a.text a.state) p (λ a f. (refl, f))

  step_alike : (call : CallIn) (s : State) (turn : Turn) → First s → Alike StepsInFirst (turn_step changes m call s turn) (earlier.turn_step changes m' call s turn)
  step_alike call s (Go t) first = (refl, first)
  step_alike call s (AddHook hook c p n) first = (refl, first)
  step_alike call s (RemoveHook hook c p) first = (refl, first)
  step_alike call s (RemoveAll hook p) first = (refl, first)
  step_alike call s (AddTag t c) first = (refl, first)
  step_alike call s (RemoveTag t) first = (refl, first)
  step_alike call s (Skip n) first = (refl, first)
  step_alike call s (Apply hook ts) first = answers_alike call (apply_hook m hook ts s) (apply_hook m' hook ts s) (apply_alike hook ts s first)
  step_alike call s (Do hook ts) first = binds InFirst StepsInFirst (do_hook m hook ts s) (do_hook m' hook ts s) (λ a. answers call [] a.state) (λ a. answers call [] a.state) (do_alike hook ts s first) (λ a f. (refl, f))
  step_alike call s (Shortcodes t) first = answers_alike call (scan m t s) (earlier.scan m' t s) (scan_alike t s first)
  step_alike call s (Ask q) first = (refl, first)
  step_alike call s (Echo t) first =
      let next : List ℕ → Option TurnResult = λ output. goes (record call { turn = call.turn + (1 + 0) }) (record s { output = output }) in
      binds_same Any StepsInFirst (within (s.output ++ t)) next next (any (within (s.output ++ t))) (λ output u. (refl, first))
  step_alike call s (SetOption n t) first = answers_alike call (change_site changes m s (Some (effect.SetOption n t))) (change_site changes m' s (Some (effect.SetOption n t))) (change_alike s (Some (effect.SetOption n t)) (λ x. x) first)
  step_alike call s (Schedule after every hook t) first = answers_alike call (change_site changes m s (schedules after every hook t s.site.moment)) (change_site changes m' s (schedules after every hook t s.site.moment)) (change_alike s (schedules after every hook t s.site.moment) (schedules_none after every hook t s.site.moment) first)
  step_alike call s (Publish t) first = answers_alike call (change_site changes m s (publishes t s.site.moment)) (change_site changes m' s (publishes t s.site.moment)) (change_alike s (publishes t s.site.moment) (publishes_none t s.site.moment) first)
  step_alike call s (Return t) first = (refl, first)

  counted_alike : (call : CallIn) (turn : Turn) (s : State) → First s → Alike StepsInFirst (counted_step changes m call turn s) (earlier.counted_step changes m' call turn s)
  counted_alike call turn s first =
      binds_same First StepsInFirst (one_turn s) (λ s'. only_if (fits turn) turn >>= λ turn'. turn_step changes m call s' turn') (λ s'. only_if (fits turn) turn >>= λ turn'. earlier.turn_step changes m' call s' turn') (only First (ltb s.turns most_turns) (record s { turns = s.turns + 1 }) first)
      (λ s' f. binds_same Any StepsInFirst (only_if (fits turn) turn) (λ turn'. turn_step changes m call s' turn') (λ turn'. earlier.turn_step changes m' call s' turn') (any (only_if (fits turn) turn)) (λ turn' u. step_alike call s' turn' f))

  after_alike : (rest rest' : CallIn → State → Option Answer) (x : TurnResult) → StepsInFirst x → ((call : CallIn) (s : State) → First s → Alike InFirst (rest call s) (rest' call s)) → Alike InFirst (after_step rest x) (after_step rest' x)
  after_alike rest rest' (Goes call s) first again = again call s first
  after_alike rest rest' (Ends text s) first again = same_answer text s first

  plays_alike : (script : List Op) (n : ℕ) (call : CallIn) (s : State) → First s → Alike InFirst (play changes m script n call s) (earlier.play changes m' script n call s)
  unfolding play earlier.play
  plays_alike script zero call s first = (refl, tt)
  plays_alike script (suc n) call s first =
      binds StepsInFirst InFirst (counted_step changes m call (turn_of script call) s) (earlier.counted_step changes m' call (turn_of script call) s) (after_step (λ call' s'. play changes m script n call' s')) (after_step (λ call' s'. earlier.play changes m' script n call' s')) (counted_alike call (turn_of script call) s first)
      (λ x p. after_alike (λ call' s'. play changes m script n call' s') (λ call' s'. earlier.play changes m' script n call' s') x p (λ call' s' f. plays_alike script n call' s' f))

  -- ---- callbacks

  built_in_where_alike : (argument : List ℕ) (s : State) (b : Bool) → First s → Alike InFirst (built_in_where changes m argument s b) (earlier.built_in_where changes m' argument s b)
  built_in_where_alike argument s true first = scan_alike argument s first
  built_in_where_alike argument s false first = publish_alike argument s first

  built_in_alike : (id : List ℕ) (call : CallIn) (s : State) → First s → Alike InFirst (built_in changes m id call s) (earlier.built_in changes m' id call s)
  built_in_alike id call s first =
      binds_same First InFirst (one_turn s) (λ s'. built_in_where changes m (first_text call.args) s' (bytes_eq id do_shortcode)) (λ s'. earlier.built_in_where changes m' (first_text call.args) s' (bytes_eq id do_shortcode)) (only First (ltb s.turns most_turns) (record s { turns = s.turns + 1 }) first) (λ s' f. built_in_where_alike (first_text call.args) s' (bytes_eq id do_shortcode) f)

  callback_alike : (id : List ℕ) (script : Option (List Op)) (call : CallIn) (s : State) (b : Bool) → First s → Alike InFirst (callback_where changes m id script call s b) (earlier.callback_where changes m' id script call s b)
  callback_alike id script call s true first = built_in_alike id call s first
  callback_alike id script call s false first = plays_alike (or_empty script) fuel call s first

depth_alike : (changes : Changes) (keeps : KeepsProfile changes) (scripts : Scripts) (depth : ℕ) → AlikeCallbacks (at_depth changes depth scripts) (earlier.at_depth changes depth scripts)
unfolding at_depth earlier.at_depth
depth_alike changes keeps scripts zero id call s first = (refl, tt)
depth_alike changes keeps scripts (suc depth) id call s first =
    callback_alike changes keeps (at_depth changes depth scripts) (earlier.at_depth changes depth scripts) (depth_alike changes keeps scripts depth) id (script_of id scripts) call s (is_built_in id) first

pub job_alike : (changes : Changes) (keeps : KeepsProfile changes) (scripts : Scripts) (j : Job) (s : State) → First s → Alike InFirst (job_meaning changes scripts j s) (earlier.job_meaning changes scripts j s)
job_alike changes keeps scripts (job.Fires fires) s first = fires_alike changes keeps (at_depth changes most_open scripts) (earlier.at_depth changes most_open scripts) (depth_alike changes keeps scripts most_open) fires s first
job_alike changes keeps scripts (job.Apply hook args) s first = apply_alike changes keeps (at_depth changes most_open scripts) (earlier.at_depth changes most_open scripts) (depth_alike changes keeps scripts most_open) hook args s first

-- ---- the changes that there are

content_keeps : (s : SiteView) (r : Result (ContentView × Changed) SiteFault) → (or_no_change s (with_content s r)).0.profile ≡ s.profile
content_keeps s (Ok after) = refl
content_keeps s (Err fault) = refl

options_keep : (s : SiteView) (r : Result (Values × Option (List Fire)) SiteFault) → (or_no_change s (with_options s r)).0.profile ≡ s.profile
options_keep s (Ok after) = refl
options_keep s (Err fault) = refl

plugins_keep : (s : SiteView) (r : Result (List (List ℕ)) SiteFault) → (or_no_change s (with_plugins s r)).0.profile ≡ s.profile
plugins_keep s (Ok after) = refl
plugins_keep s (Err fault) = refl

pub effects_keep : KeepsProfile effect_on
effects_keep s (effect.Insert draft) plain = content_keeps s _
effects_keep s (effect.Edit id draft) plain = content_keeps s _
effects_keep s (effect.Move id to) plain = content_keeps s _
effects_keep s (effect.Delete id) plain = content_keeps s _
effects_keep s (effect.SetOption name value) plain = options_keep s _
effects_keep s (effect.Schedule event) plain = content_keeps s _
effects_keep s (effect.Take event) plain = content_keeps s (Ok (take_event_effect (content_of s) event s.moment))
effects_keep s (effect.Activate plugin) plain = plugins_keep s _
effects_keep s (effect.Deactivate plugin) plain = plugins_keep s _
effects_keep s (effect.Profile to) plain = absurd (plain tt)

pub reads_keep : KeepsProfile read_only
reads_keep s e plain = refl
