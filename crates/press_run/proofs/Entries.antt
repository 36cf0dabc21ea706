-- A step of a run of a hook, and of actions.
use Rattle.std.proofs.Common.{◌≡◌, refl, sym, ◌∙◌, ap, subst, ℕ, suc, ◌+◌, ◌-◌, ◌<◌, ◌≤◌, true, List, take, drop, get_or, length, Option, Some, None, ◌⊎◌, inl, inr, arith}
use Rattle.std.specs.Prelude.{slice_get}
use Rattle.std.proofs.lemmas.Option.{get_or_from_slice_get, slice_get_cases, slice_get_within}
use Rattle.press_hooks.specs.declared.entry.Entry.{Entry}
use Rattle.press_hooks.specs.NextEntry.{Table, is_innermost, entry_next, run_advanced}
use Rattle.press_posts.specs.declared.fire.Fire.{Fire}
use Rattle.press_callbacks.specs.declared.script.CallIn.{CallIn}
use Rattle.press_callbacks.specs.Kits.{Scripts}
use Rattle.press_run.specs.declared.run_fault.RunFault.{RunFault}
use Rattle.press_run.specs.declared.step.Begun.{Begun}
use Rattle.press_run.specs.declared.step.Opened.{Opened}
use Rattle.press_run.specs.declared.step.Opened.TheVariants as called
use Rattle.press_run.specs.declared.step.Step.TheVariants as step
use Rattle.press_run.specs.declared.step.Moved.{Moved}
use Rattle.press_run.specs.declared.step.Moved.TheVariants as moves
use Rattle.press_run.specs.declared.frame.OpenCallback.{OpenCallback}
use Rattle.press_run.specs.declared.frame.OpenHook.{OpenHook}
use Rattle.press_run.specs.declared.frame.OpenFires.{OpenFires}
use Rattle.press_run.specs.declared.frame.Frame.{Frame}
use Rattle.press_run.specs.declared.frame.Frame.TheVariants as frame
use Rattle.press_run.specs.Links.{Changes}
use Rattle.press_run.specs.Run.{◌>>=◌, Answer, answer, Meaning, at_depth, do_fires, do_hook, run_entries, first_text, hook_call, next_args, without_last}
use Rattle.press_run.specs.Outcome.{Machine, Around, around, state_of, innermost, Refuses}
use Rattle.press_run.specs.Frames.{frame_meaning, frame_with_answer, round, hook_answer, turns_left, weight, Goes, Takes, Gives, Leaves, Begins, Calls, Moves, Ends, Enters, begun_as_step, end_run, opened_as_moved}
use Rattle.press_run.proofs.Begins.{more_goes, more_gives}
use Rattle.press_run.proofs.Resumed.{awaits, awaits_called, awaits_none}
use Rattle.press_run.proofs.Steps.{no_entries, with_table, entries_step, around_kept, open_kept, one_fire, fires_end}

bind_assoc : (o : Option Answer) (f g : Answer → Option Answer) → ((o >>= f) >>= g) ≡ (o >>= λ x. f x >>= g)
bind_assoc None f g = refl
bind_assoc (Some x) f g = refl

-- ---- the entries of a hook

module _ (changes : Changes) (scripts : Scripts) (h : OpenHook) (w : Machine) where
  abbrev pub m : Meaning
  m = at_depth changes h.room scripts

  abbrev pub one_less : OpenHook
  one_less = record h { left = h.left - 1 }

  -- what a run's answer is to the hook
  abbrev pub run_answer : Answer → Option Answer
  run_answer x = answer (hook_answer h.kind x.text) (record (x.state) { doing = without_last w.counts.doing })

  abbrev pub whole : Option Answer
  whole = frame_meaning changes scripts (frame.Hook h) (around w) (state_of w)

  abbrev pub beside : Around
  beside = round (frame.Hook h) (around w)

  abbrev pub bound : ℕ
  bound = turns_left w.counts.turns + weight (frame.Hook h)

  pub entries_out : h.left ≡ 0 → whole ≡ None
  entries_out none =
      ap (λ k. run_entries m h.kind k h.args (innermost w.hooks.open_runs) (state_of w) >>= run_answer) none
      ∙ ap (λ o. o >>= run_answer) (no_entries m h.kind h.args (innermost w.hooks.open_runs) (state_of w))

  module _ (t : Table) (more : 0 < h.left) (stands : is_innermost h.run w.hooks.open_runs ≡ true) (on : t ≡ run_advanced w.hooks) where
    left_more : h.left ≡ suc (h.left - 1)
    left_more = omega arith

    beside_kept : round (frame.Hook one_less) (around (with_table t w)) ≡ beside
    beside_kept = ap (λ runs. record (around w) { open_runs = runs; doing = without_last w.counts.doing }) (around_kept m h.kind h.args h.run w t h.left (h.left - 1) left_more stands on)

    pub entry_ends : None ≡ entry_next w.hooks.rows w.hooks.open_runs → Ends changes scripts whole beside bound one_less (with_table t w)
    entry_ends none =
        let n = left_more in
        record {
          same = sym (ap (λ o. o >>= run_answer) (entries_step m h.kind h.args h.run w t h.left (h.left - 1) n stands on None none));
          stands = beside_kept;
          ready = open_kept m h.kind h.args h.run w t h.left (h.left - 1) n stands on;
          less = omega arith;
        }

    module _ (e : Entry) (call : CallIn) (some : Some e ≡ entry_next w.hooks.rows w.hooks.open_runs) (is : call ≡ hook_call (take e.accepted h.args)) where
      abbrev pub asked : Option Answer
      asked = m e.callback call (state_of (with_table t w))

      abbrev pub goes_on : Answer → Option Answer
      goes_on x = run_entries m h.kind (h.left - 1) (next_args h.kind x.text h.args) (innermost t.open_runs) x.state

      entry_comes : (asked >>= λ x. frame_meaning changes scripts (frame_with_answer (frame.Hook one_less) x.text) (around (with_table t w)) x.state) ≡ whole
      entry_comes =
          sym (bind_assoc asked goes_on run_answer)
          ∙ ap (λ (x : CallIn). (m e.callback x (state_of (with_table t w)) >>= goes_on) >>= run_answer) is
          ∙ sym (ap (λ o. o >>= run_answer) (entries_step m h.kind h.args h.run w t h.left (h.left - 1) left_more stands on (Some e) some))

      pub entry_calls : (new : Machine) (callback : OpenCallback) (b : Opened) → Calls changes scripts asked (around (with_table t w)) (turns_left w.counts.turns + 1) callback new b → Moves changes scripts whole beside bound (frame.Hook one_less) new (opened_as_moved callback b)
      entry_calls new callback b g =
          awaits_called changes scripts asked whole beside 1 bound (frame.Hook one_less) (with_table t w) new callback b entry_comes beside_kept (open_kept m h.kind h.args h.run w t h.left (h.left - 1) left_more stands on) (omega arith) g

      pub entry_stops : (fault : RunFault) → Refuses fault asked → Refuses fault whole
      entry_stops fault refused = awaits_none changes scripts asked whole (frame.Hook one_less) (with_table t w) fault entry_comes refused

-- ---- one entry after the other

-- what has more to do before it than the bound says
more_moves : (changes : Changes) (scripts : Scripts) (o : Option Answer) (a : Around) (n k : ℕ) (f : Frame) (w : Machine) (m : Moved) → n ≤ k → Moves changes scripts o a n f w m → Moves changes scripts o a k f w m
more_moves changes scripts o a n k f w (moves.By step.Goes) le g = more_goes changes scripts o a n k f w le g
more_moves changes scripts o a n k f w (moves.By (step.Opens inner)) le g = record { same = g.same; stands = g.stands; waits = g.waits; ready = g.ready; less = omega (arith, g.less, le) }
more_moves changes scripts o a n k f w (moves.By (step.Takes text)) le g = record { same = g.same; stands = g.stands; waits = g.waits; less = omega (arith, g.less, le) }
more_moves changes scripts o a n k f w (moves.By (step.Gives text)) le g = more_gives changes scripts o a n k text w le g
more_moves changes scripts o a n k f w (moves.Calls callback inner) le g = record { same = g.same; stands = g.stands; waits = g.waits; within = g.within; ready = g.ready; less = omega (arith, g.less, le) }

more_enters : (changes : Changes) (scripts : Scripts) (o : Option Answer) (a : Around) (n k : ℕ) (h : OpenHook) (callback : OpenCallback) (w : Machine) (e : Option Opened) → n ≤ k → Enters changes scripts o a n h callback w e → Enters changes scripts o a k h callback w e
more_enters changes scripts o a n k h callback w None le g = record { same = g.same; stands = g.stands; ready = g.ready; less = omega (arith, g.less, le) }
more_enters changes scripts o a n k h callback w (Some b) le g = more_moves changes scripts o a n k (frame.Hook h) w (opened_as_moved callback b) le g

-- the run is closed, and has answered
pub run_ends : (changes : Changes) (scripts : Scripts) (o : Option Answer) (a : Around) (n : ℕ) (h : OpenHook) (w new : Machine) (text : List ℕ) → text ≡ hook_answer h.kind (first_text h.args) → new ≡ end_run w → Ends changes scripts o a n h w → Gives changes scripts o a n new text
run_ends changes scripts o a n h w new text given is e = rw (given, is) (record { same = e.same; stands = e.stands; less = e.less })

-- what a run comes to after some entries is what it came to before them
module _ (changes : Changes) (scripts : Scripts) (h : OpenHook) (w : Machine) where
  abbrev pub at_first : Option Answer
  at_first = frame_meaning changes scripts (frame.Hook h) (around w) (state_of w)

  abbrev pub IsOn : OpenHook → Machine → Type 0
  IsOn x m = Goes changes scripts at_first (round (frame.Hook h) (around w)) (turns_left w.counts.turns + 3) (frame.Hook x) m

  module _ (now : OpenHook) (old : Machine) (goes : IsOn now old) where
    pub entry_on : (after : OpenHook) (callback : OpenCallback) (new : Machine) (e : Option Opened)
        → Enters changes scripts (frame_meaning changes scripts (frame.Hook now) (around old) (state_of old)) (round (frame.Hook now) (around old)) (turns_left old.counts.turns + 2) after callback new e
        → Enters changes scripts at_first (round (frame.Hook h) (around w)) (turns_left w.counts.turns + 2) after callback new e
    entry_on after callback new e g =
        let n = turns_left old.counts.turns + 2 in
        more_enters changes scripts at_first (round (frame.Hook h) (around w)) n (turns_left w.counts.turns + 2) after callback new e (omega (arith, goes.less))
        (subst (λ (a : Around). Enters changes scripts at_first a n after callback new e) goes.stands
        (subst (λ (o : Option Answer). Enters changes scripts o (round (frame.Hook now) (around old)) n after callback new e) goes.same g))

    pub entry_refused : (fault : RunFault) → Refuses fault (frame_meaning changes scripts (frame.Hook now) (around old) (state_of old)) → Refuses fault at_first
    entry_refused fault r = subst (Refuses fault) goes.same r

-- an answer that came at once is taken, and the run goes on
taken_on : (changes : Changes) (scripts : Scripts) (o : Option Answer) (a : Around) (n k : ℕ) (h next : OpenHook) (w : Machine) (text : List ℕ) → n < k → next ≡ record h { args = next_args h.kind text h.args }
    → Takes changes scripts o a n (frame.Hook h) w text → Goes changes scripts o a k (frame.Hook next) w
taken_on changes scripts o a n k h next w text lt is t =
    subst (λ (x : OpenHook). Goes changes scripts o a k (frame.Hook x) w) (sym is) (record { same = t.same; stands = t.stands; ready = t.waits; less = omega (arith, t.less, lt) })

pub entry_taken : (changes : Changes) (scripts : Scripts) (h : OpenHook) (w : Machine) (now : OpenHook) (old : Machine) → IsOn changes scripts h w now old
    → (after next : OpenHook) (callback : OpenCallback) (new : Machine) (text : List ℕ)
    → Enters changes scripts (frame_meaning changes scripts (frame.Hook now) (around old) (state_of old)) (round (frame.Hook now) (around old)) (turns_left old.counts.turns + 2) after callback new (Some (called.Gives text)) → next ≡ record after { args = next_args after.kind text after.args }
    → IsOn changes scripts h w next new
entry_taken changes scripts h w now old goes after next callback new text g is =
    taken_on changes scripts (at_first changes scripts h w) (round (frame.Hook h) (around w)) (turns_left w.counts.turns + 2) (turns_left w.counts.turns + 3) after next new text (omega arith) is
    (entry_on changes scripts h w now old goes after callback new (Some (called.Gives text)) g)

-- ---- actions

past : (fires : List Fire) (i : ℕ) → None ≡ slice_get fires i → length fires ≤ i
past fires i none = by (slice_get_cases fires i).1 where
  by : ((x : Fire) × (i < length fires) × (slice_get fires i ≡ Some x) × (get_or fires i x ≡ x)) ⊎ ((length fires ≤ i) × (slice_get fires i ≡ None)) → length fires ≤ i
  by (inl s) = (let clash = none ∙ s.2 in cc)
  by (inr p) = p.0

module _ (changes : Changes) (scripts : Scripts) (f : OpenFires) (w : Machine) where
  abbrev pub fired : Option Answer
  fired = frame_meaning changes scripts (frame.Fires f) (around w) (state_of w)

  pub fires_end_with : None ≡ slice_get f.fires f.done → Gives changes scripts fired (around w) (turns_left w.counts.turns + weight (frame.Fires f)) w f.gives
  fires_end_with none = let le = past f.fires f.done none in record {
    same = sym (ap (λ o. o >>= λ x. answer f.gives x.state) (fires_end (at_depth changes f.room scripts) f.fires f.done (state_of w) le));
    stands = refl;
    less = omega arith;
  }

  module _ (fire : Fire) (args : List (List ℕ)) (some : Some fire ≡ slice_get f.fires f.done) (same : args ≡ fire.args) where
    lt : f.done < length f.fires
    lt = slice_get_within f.fires f.done fire (sym some)

    at : fire ≡ get_or f.fires f.done fire
    at = sym (get_or_from_slice_get f.fires f.done fire fire (sym some))

    abbrev pub started : Option Answer
    started = do_hook (at_depth changes f.room scripts) fire.hook args (state_of w)

    abbrev pub next : OpenFires
    next = record f { done = f.done + 1 }

    fire_comes : (started >>= λ x. frame_meaning changes scripts (frame_with_answer (frame.Fires next) x.text) (around w) x.state) ≡ fired
    fire_comes =
        let c = at_depth changes f.room scripts in
        sym (bind_assoc started (λ x. do_fires c (drop (f.done + 1) f.fires) x.state) (λ x. answer f.gives x.state))
        ∙ ap (λ a. (do_hook c fire.hook a (state_of w) >>= λ x. do_fires c (drop (f.done + 1) f.fires) x.state) >>= λ x. answer f.gives x.state) same
        ∙ sym (ap (λ o. o >>= λ x. answer f.gives x.state) (one_fire c f.fires f.done fire (state_of w) lt at))

    pub fire_starts : (new : Machine) (b : Begun) → Begins changes scripts started (around w) (turns_left w.counts.turns + 3) new b → Leaves changes scripts fired (around w) (turns_left w.counts.turns + weight (frame.Fires f)) (frame.Fires next) new (begun_as_step b)
    fire_starts new b g = awaits changes scripts started fired (around w) 3 (turns_left w.counts.turns + weight (frame.Fires f)) (frame.Fires next) w new b fire_comes refl tt (omega (arith, lt)) g

    pub fire_stops : (fault : RunFault) → Refuses fault started → Refuses fault fired
    fire_stops fault refused = awaits_none changes scripts started fired (frame.Fires next) w fault fire_comes refused
