-- One step of each recursion of the meaning, as the machine takes it.
use Rattle.std.proofs.Common.{◌≡◌, refl, ◌∙◌, ap, ℕ, zero, suc, ◌+◌, ◌-◌, ◌<◌, ◌≤◌, ltb, Bool, true, false, List, [], ◌∷◌, ◌++◌, take, drop, get_or, length, Option, add-one, drop-cons, None, arith}
use Rattle.std.proofs.Math.ListN.{drop_of_length-le}
use Rattle.std.proofs.Math.Seq.{take-append_seam}
use Rattle.std.proofs.lemmas.List.{length-append}
use Rattle.press_hooks.specs.declared.entry.Entry.{Entry}
use Rattle.press_hooks.specs.declared.row.Row.{Row}
use Rattle.press_hooks.specs.declared.open_run.OpenRun.{OpenRun}
use Rattle.press_hooks.specs.NextEntry.{Table, is_innermost, without_innermost, entry_next, next_entry, next_run, runs_next, run_advanced}
use Rattle.press_callbacks.specs.declared.script.CallIn.{CallIn}
use Rattle.press_callbacks.specs.declared.script.Op.{Op}
use Rattle.press_callbacks.specs.declared.script.Turn.{Turn}
use Rattle.press_callbacks.specs.Turns.{turn_of}
use Rattle.press_callbacks.specs.Kits.{Scripts, script_of}
use Rattle.press_callbacks.specs.BuiltIns.{is_built_in}
use Rattle.press_run.specs.declared.step.Kind.{Kind}
use Rattle.press_posts.specs.declared.fire.Fire.{Fire}
use Rattle.press_run.specs.Links.{Changes}
use Rattle.press_run.specs.Run.{◌>>=◌, State, Answer, answer, Meaning, TurnResult, run_entries, do_hook, do_fires, play, at_depth, call_entry, after_step, counted_step, next_args, fuel, or_empty, without_last, built_in, callback_where, fits, most_turns, only_if, turn_step}
use Rattle.press_run.specs.Outcome.{Machine, innermost, state_of}

pub no_depth : (changes : Changes) (scripts : Scripts) (id : List ℕ) (call : CallIn) (s : State) → at_depth changes 0 scripts id call s ≡ None
unfolding at_depth
no_depth changes scripts id call s = refl

pub some_depth : (changes : Changes) (d : ℕ) (scripts : Scripts) (id : List ℕ) (call : CallIn) (s : State) → is_built_in id ≡ false → at_depth changes (suc d) scripts id call s ≡ play changes (at_depth changes d scripts) (or_empty (script_of id scripts)) fuel call s
unfolding at_depth
some_depth changes d scripts id call s own = ap (λ b. callback_where changes (at_depth changes d scripts) id (script_of id scripts) call s b) own

pub built_in_depth : (changes : Changes) (d : ℕ) (scripts : Scripts) (id : List ℕ) (call : CallIn) (s : State) → is_built_in id ≡ true → at_depth changes (suc d) scripts id call s ≡ built_in changes (at_depth changes d scripts) id call s
unfolding at_depth
built_in_depth changes d scripts id call s own = ap (λ b. callback_where changes (at_depth changes d scripts) id (script_of id scripts) call s b) own

pub no_entries : (m : Meaning) (kind : Kind) (args : List (List ℕ)) (run : OpenRun) (s : State) → run_entries m kind 0 args run s ≡ None
unfolding run_entries
no_entries m kind args run s = refl

pub more_entries : (m : Meaning) (kind : Kind) (n : ℕ) (args : List (List ℕ)) (run : OpenRun) (s : State) → run_entries m kind (suc n) args run s ≡ call_entry m (λ t s'. run_entries m kind n (next_args kind t args) (next_run s.rows run) s') args s (next_entry s.rows run)
unfolding run_entries
more_entries m kind n args run s = refl

pub no_turns : (changes : Changes) (m : Meaning) (script : List Op) (call : CallIn) (s : State) → play changes m script 0 call s ≡ None
unfolding play
no_turns changes m script call s = refl

abbrev pub played_on : Changes → Meaning → List Op → ℕ → TurnResult → Option Answer
played_on changes m script n step = after_step (λ call' s'. play changes m script n call' s') step

pub more_turns : (changes : Changes) (m : Meaning) (script : List Op) (n : ℕ) (call : CallIn) (s : State) → play changes m script (suc n) call s ≡ (counted_step changes m call (turn_of script call) s >>= played_on changes m script n)
unfolding play
more_turns changes m script n call s = refl

-- past the turns nothing comes of a script
pub late_turns : (changes : Changes) (m : Meaning) (script : List Op) (n : ℕ) (call : CallIn) (s : State) → ltb s.turns most_turns ≡ false → play changes m script n call s ≡ None
late_turns changes m script zero call s late = no_turns changes m script call s
late_turns changes m script (suc n) call s late =
    more_turns changes m script n call s
    ∙ ap (λ b. ((only_if b (record s { turns = s.turns + 1 }) >>= λ s'. only_if (fits (turn_of script call)) (turn_of script call) >>= λ turn'. turn_step changes m call s' turn') >>= played_on changes m script n)) late

step_long : (changes : Changes) (m : Meaning) (call : CallIn) (turn : Turn) (s : State) (b : Bool) → fits turn ≡ false
    → (only_if b s >>= λ s'. only_if (fits turn) turn >>= λ turn'. turn_step changes m call s' turn') ≡ None
step_long changes m call turn s true long = ap (λ b. only_if b turn >>= λ turn'. turn_step changes m call s turn') long
step_long changes m call turn s false long = refl

-- past the bytes of a text neither
pub long_turns : (changes : Changes) (m : Meaning) (script : List Op) (n : ℕ) (call : CallIn) (s : State) → fits (turn_of script call) ≡ false → play changes m script n call s ≡ None
long_turns changes m script zero call s long = no_turns changes m script call s
long_turns changes m script (suc n) call s long =
    more_turns changes m script n call s
    ∙ ap (λ o. o >>= played_on changes m script n) (step_long changes m call (turn_of script call) (record s { turns = s.turns + 1 }) (ltb s.turns most_turns) long)

pub no_fires : (m : Meaning) (s : State) → do_fires m [] s ≡ answer [] s
unfolding do_fires
no_fires m s = refl

pub more_fires : (m : Meaning) (f : Fire) (fs : List Fire) (s : State) → do_fires m (f ∷ fs) s ≡ (do_hook m f.hook f.args s >>= λ a. do_fires m fs a.state)
unfolding do_fires
more_fires m f fs s = refl

-- ---- the innermost run of an advanced table

innermost_advanced : (rows : List Row) (runs : List OpenRun) (id : ℕ) → is_innermost id runs ≡ true → innermost (runs_next rows runs) ≡ next_run rows (innermost runs)
innermost_advanced rows [] id h = cc
innermost_advanced rows (r ∷ rs) id h = refl

still_innermost : (rows : List Row) (runs : List OpenRun) (id : ℕ) → is_innermost id runs ≡ true → is_innermost id (runs_next rows runs) ≡ true
still_innermost rows [] id h = h
still_innermost rows (r ∷ rs) id h = h

still_around : (rows : List Row) (runs : List OpenRun) → without_innermost (runs_next rows runs) ≡ without_innermost runs
still_around rows [] = refl
still_around rows (r ∷ rs) = refl

innermost_entry : (rows : List Row) (runs : List OpenRun) (id : ℕ) → is_innermost id runs ≡ true → entry_next rows runs ≡ next_entry rows (innermost runs)
innermost_entry rows [] id h = cc
innermost_entry rows (r ∷ rs) id h = refl

abbrev pub with_table : Table → Machine → Machine
with_table t w = record w { hooks = t }

-- ---- the next entry of a run

module _ (m : Meaning) (kind : Kind) (args : List (List ℕ)) (id : ℕ) (w : Machine) (t : Table) (k n : ℕ) (long : k ≡ suc n) (open_run : is_innermost id w.hooks.open_runs ≡ true) (on : t ≡ run_advanced w.hooks) where
  pub entries_step : (o : Option Entry) → o ≡ entry_next w.hooks.rows w.hooks.open_runs → run_entries m kind k args (innermost w.hooks.open_runs) (state_of w) ≡ call_entry m (λ text s'. run_entries m kind n (next_args kind text args) (innermost t.open_runs) s') args (state_of (with_table t w)) o
  entries_step o e =
      let inner : innermost t.open_runs ≡ next_run w.hooks.rows (innermost w.hooks.open_runs) = ap (λ (x : Table). innermost x.open_runs) on ∙ innermost_advanced w.hooks.rows w.hooks.open_runs id open_run in
      let state : state_of (with_table t w) ≡ state_of w = ap (λ (x : Table). state_of (with_table x w)) on in
      let next : o ≡ next_entry w.hooks.rows (innermost w.hooks.open_runs) = e ∙ innermost_entry w.hooks.rows w.hooks.open_runs id open_run in
      rw (long, inner, state, next) (more_entries m kind n args (innermost w.hooks.open_runs) (state_of w))

  pub around_kept : without_innermost t.open_runs ≡ without_innermost w.hooks.open_runs
  around_kept = ap (λ (x : Table). without_innermost x.open_runs) on ∙ still_around w.hooks.rows w.hooks.open_runs

  pub open_kept : is_innermost id t.open_runs ≡ true
  open_kept = ap (λ (x : Table). is_innermost id x.open_runs) on ∙ still_innermost w.hooks.rows w.hooks.open_runs id open_run

-- a stack with one more, without its last
pub without-last : (stack : List (List ℕ)) (hook : List ℕ) → without_last (stack ++ hook ∷ []) ≡ stack
without-last stack hook =
    let n : length (stack ++ hook ∷ []) - 1 ≡ length stack = omega (arith, length-append stack (hook ∷ [])) in
    ap (λ k. take k (stack ++ hook ∷ [])) n ∙ take-append_seam stack (hook ∷ [])

-- ---- fires, one after the other

pub one_fire : (m : Meaning) (fires : List Fire) (i : ℕ) (f : Fire) (s : State) → i < length fires → f ≡ get_or fires i f → do_fires m (drop i fires) s ≡ (do_hook m f.hook f.args s >>= λ a. do_fires m (drop (i + 1) fires) a.state)
one_fire m fires i f s lt at =
    let cut : drop i fires ≡ f ∷ drop (i + 1) fires = rw (add-one, drop-cons fires i f lt, ← at) refl in
    rw cut (more_fires m f (drop (i + 1) fires) s)

pub fires_end : (m : Meaning) (fires : List Fire) (i : ℕ) (s : State) → length fires ≤ i → do_fires m (drop i fires) s ≡ answer [] s
fires_end m fires i s le = rw (drop_of_length-le fires le) (no_fires m s)
