-- What begins, and the turns of a callback that counts them.
use Rattle.std.proofs.Common.{◌≡◌, refl, sym, ◌∙◌, ap, subst, ℕ, suc, ◌+◌, ◌-◌, ◌<◌, ◌≤◌, ◌^◌, Bool, true, false, ltb, List, [], ◌∷◌, ◌++◌, length, Option, Some, None, Ok, Err, Result, arith}
use Rattle.std.specs.Prelude.{bytes_eq, MatchResult}
use Rattle.std.proofs.lemmas.Bool.Decides.{nat_tests}
use Rattle.press_posts.specs.declared.fire.Fire.{Fire}
use Rattle.press_callbacks.specs.declared.script.CallIn.{CallIn}
use Rattle.press_callbacks.specs.declared.script.Op.{Op}
use Rattle.press_callbacks.specs.declared.script.Turn.{Turn}
use Rattle.press_callbacks.specs.declared.script.Turn.TheVariants.{Apply, Do, Shortcodes, SetOption, Schedule, Publish}
use Rattle.press_callbacks.specs.BuiltIns.{do_shortcode, is_built_in}
use Rattle.press_callbacks.specs.Kits.{Scripts, script_of, script_at}
use Rattle.press_callbacks.specs.Turns.{turn_of}
use Rattle.press_site.specs.SiteView.{SiteView}
use Rattle.press_site.specs.declared.changed.Changed.{Changed}
use Rattle.press_site.specs.declared.effect.Effect.{Effect}
use Rattle.press_site.specs.declared.effect.Effect.TheVariants as effect
use Rattle.press_text.specs.declared.every.Every.{Every}
use Rattle.press_run.specs.declared.run_fault.RunFault.{RunFault}
use Rattle.press_run.specs.declared.step.Kind.TheVariants.{Filter, Action}
use Rattle.press_run.specs.declared.frame.OpenCallback.{OpenCallback}
use Rattle.press_run.specs.declared.frame.Frame.{Frame}
use Rattle.press_run.specs.declared.frame.Frame.TheVariants as frame
use Rattle.press_run.specs.declared.step.Begun.{Begun}
use Rattle.press_run.specs.declared.step.Begun.TheVariants as begun
use Rattle.press_run.specs.declared.step.Step.{Step}
use Rattle.press_run.specs.Links.{Changes, or_no_change, publishes, schedules}
use Rattle.press_run.specs.Counts.{Counts}
use Rattle.press_run.specs.Run.{◌>>=◌, only_if, Answer, answer, State, Meaning, most_turns, first_text, do_fires, run_hook, do_hook, scan, change_site, fire_change, one_if, publish, play, fuel, or_empty, at_depth, built_in, built_in_where, turn_step, answers, fits, or_one_empty}
use Rattle.press_run.specs.Outcome.{Machine, Around, around, state_of, CountsTurn, Refuses}
use Rattle.press_run.specs.Frames.{frame_meaning, frame_with_answer, IsFew, turns_left, Goes, Gives, Leaves, Begins, Calls, begun_as_step, begun_as_opened, BeginsAs, Steps, CountsAs, Turns, play_counted_turn, play_turn, play_after_step, run_to_answer}
use Rattle.press_run.proofs.Resumed.{awaits, awaits_none}
use Rattle.press_run.proofs.Steps.{some_depth, built_in_depth, more_turns, no_fires, more_fires}

-- a turn pays for any frame
turn_pays : (turns : ℕ) → turns < most_turns → turns_left (turns + 1) + 2 ^ 70 ≡ turns_left turns
unfolding turns_left
turn_pays turns lt = omega arith

turn_counted : (old new : Counts) → CountsTurn old new true → turns_left new.turns + 2 ^ 70 ≡ turns_left old.turns
turn_counted old new c =
    let lt : old.turns < most_turns = (let t = c.0 in grind (arith, nat_tests)) in
    ap (λ (x : Counts). turns_left x.turns + 2 ^ 70) c.1 ∙ turn_pays old.turns lt

abbrev pub with_counts : Counts → Machine → Machine
with_counts counts w = record w { counts = counts }

same_around : (w : Machine) (new : Counts) → CountsTurn w.counts new true → around (with_counts new w) ≡ around w
same_around w new c = ap (λ x. around (with_counts x w)) c.1

-- ---- what begins as something else

pub more_goes : (changes : Changes) (scripts : Scripts) (whole : Option Answer) (beside : Around) (n k : ℕ) (f : Frame) (w : Machine) → n ≤ k → Goes changes scripts whole beside n f w → Goes changes scripts whole beside k f w
more_goes changes scripts whole beside n k f w le g = record { same = g.same; stands = g.stands; ready = g.ready; less = omega (arith, g.less, le) }

pub more_gives : (changes : Changes) (scripts : Scripts) (whole : Option Answer) (beside : Around) (n k : ℕ) (text : List ℕ) (w : Machine) → n ≤ k → Gives changes scripts whole beside n w text → Gives changes scripts whole beside k w text
more_gives changes scripts whole beside n k text w le g = record { same = g.same; stands = g.stands; less = omega (arith, g.less, le) }

more_begins : (changes : Changes) (scripts : Scripts) (whole : Option Answer) (beside : Around) (n k : ℕ) (w : Machine) (result : Result Begun RunFault) → n ≤ k
    → MatchResult result (λ b. Begins changes scripts whole beside n w b) (λ fault. Refuses fault whole)
    → MatchResult result (λ b. Begins changes scripts whole beside k w b) (λ fault. Refuses fault whole)
more_begins changes scripts whole beside n k w (Ok (begun.Opens f)) le g = more_goes changes scripts whole beside n k f w le g
more_begins changes scripts whole beside n k w (Ok (begun.Gives text)) le g = more_gives changes scripts whole beside n k text w le g
more_begins changes scripts whole beside n k w (Err fault) le h = h

pub begins_as : (changes : Changes) (scripts : Scripts) (whole whole' : Option Answer) (weighs bound : ℕ) (old old' new : Machine) (result : Result Begun RunFault) → whole' ≡ whole → around old' ≡ around old → turns_left old'.counts.turns + weighs ≤ turns_left old.counts.turns + bound
    → BeginsAs changes scripts whole' weighs old' new result → BeginsAs changes scripts whole bound old new result
begins_as changes scripts whole whole' weighs bound old old' new result e a le h =
    let N = turns_left old'.counts.turns + weighs in
    more_begins changes scripts whole (around old) N (turns_left old.counts.turns + bound) new result le
    (subst (λ (r : Around). MatchResult result (λ b. Begins changes scripts whole r N new b) (λ fault. Refuses fault whole)) a
    (subst (λ (o : Option Answer). MatchResult result (λ b. Begins changes scripts o (around old') N new b) (λ fault. Refuses fault o)) e h))

-- ---- actions are begun

then_empty : (m : Meaning) (fs : List Fire) → ((s : State) → (do_fires m fs s >>= λ x. answer [] x.state) ≡ do_fires m fs s) → (o : Option Answer) → ((o >>= λ a. do_fires m fs a.state) >>= λ x. answer [] x.state) ≡ (o >>= λ a. do_fires m fs a.state)
then_empty m fs again None = refl
then_empty m fs again (Some a) = again a.state

-- they answer the empty text
pub fires_answer : (m : Meaning) (fires : List Fire) (s : State) → (do_fires m fires s >>= λ x. answer [] x.state) ≡ do_fires m fires s
fires_answer m [] s = rw (no_fires m s) refl
fires_answer m (f ∷ fs) s = rw (more_fires m f fs s) (then_empty m fs (λ s'. fires_answer m fs s') (do_hook m f.hook f.args s))

pub fires_begin : (changes : Changes) (scripts : Scripts) (room : ℕ) (fires : List Fire) (gives : List ℕ) (whole : Option Answer) (w : Machine) → (do_fires (at_depth changes room scripts) fires (state_of w) >>= λ x. answer gives x.state) ≡ whole → length fires < 2 ^ 64
    → Goes changes scripts whole (around w) (turns_left w.counts.turns + 2 ^ 66) (frame.Fires (record { room = room; done = 0; fires = fires; gives = gives })) w
fires_begin changes scripts room fires gives whole w e few = record { same = e; stands = refl; ready = tt; less = omega (arith, few) }

-- a change that fires nothing is done
pub change_done : (changes : Changes) (m : Meaning) (w : Machine) (e : Effect) (site : SiteView) (changed : Changed) → (site, changed) ≡ or_no_change w.site (changes w.site e) → changed.fires ≡ []
    → answer (one_if changed.did) (record (state_of w) { site = site }) ≡ change_site changes m (state_of w) (Some e)
change_done changes m w e site changed h none =
    sym (ap (λ fs. do_fires m fs (record (state_of w) { site = site }) >>= λ a. answer (one_if changed.did) a.state) none
    ∙ ap (λ (o : Option Answer). o >>= λ a. answer (one_if changed.did) a.state) (no_fires m (record (state_of w) { site = site })))
    ∙ ap (fire_change m (state_of w)) h

id_answer : (id : List ℕ) (o : Option Answer) (text : List ℕ) (s : State) → answer text s ≡ o → answer id s ≡ (o >>= λ a. answer id a.state)
id_answer id o text s h = ap (λ (x : Option Answer). x >>= λ a. answer id a.state) h

-- and so is what publishes nothing that is fired
pub publish_done : (changes : Changes) (m : Meaning) (w : Machine) (id : List ℕ) (e : Effect) (site : SiteView) (changed : Changed) → publishes id w.site.moment ≡ Some e → (site, changed) ≡ or_no_change w.site (changes w.site e) → changed.fires ≡ []
    → answer id (record (state_of w) { site = site }) ≡ publish changes m id (state_of w)
publish_done changes m w id e site changed is h none =
    id_answer id (change_site changes m (state_of w) (Some e)) (one_if changed.did) (record (state_of w) { site = site }) (change_done changes m w e site changed h none)
    ∙ ap (λ (x : Option Effect). change_site changes m (state_of w) x >>= λ a. answer id a.state) (sym is)

pub answer_again : (o : Option Answer) → (o >>= λ x. answer x.text x.state) ≡ o
answer_again None = refl
answer_again (Some x) = refl

-- ---- a callback is opened

built_in_counted : (changes : Changes) (callback : Meaning) (id : List ℕ) (call : CallIn) (s : State) (b : Bool) → ltb s.turns most_turns ≡ true → bytes_eq id do_shortcode ≡ b → built_in changes callback id call s ≡ built_in_where changes callback (first_text call.args) (record s { turns = s.turns + 1 }) b
built_in_counted changes callback id call s b lt is =
    ap (λ x. only_if x (record s { turns = s.turns + 1 }) >>= λ s'. built_in_where changes callback (first_text call.args) s' (bytes_eq id do_shortcode)) lt
    ∙ ap (λ x. built_in_where changes callback (first_text call.args) (record s { turns = s.turns + 1 }) x) is

pub built_in_late : (changes : Changes) (callback : Meaning) (id : List ℕ) (call : CallIn) (s : State) → ltb s.turns most_turns ≡ false → built_in changes callback id call s ≡ None
built_in_late changes callback id call s lt = ap (λ x. only_if x (record s { turns = s.turns + 1 }) >>= λ s'. built_in_where changes callback (first_text call.args) s' (bytes_eq id do_shortcode)) lt

module _ (changes : Changes) (scripts : Scripts) where
  pub built_in_begins : (room : ℕ) (id : List ℕ) (call : CallIn) (b : Bool) (argument : List ℕ) (weighs : ℕ) (old new : Machine) (counts : Counts) (result : Result Begun RunFault) → CountsTurn old.counts counts true → argument ≡ first_text call.args → bytes_eq id do_shortcode ≡ b → weighs ≤ 2 ^ 70
      → BeginsAs changes scripts (built_in_where changes (at_depth changes room scripts) argument (state_of (with_counts counts old)) b) weighs (with_counts counts old) new result
      → BeginsAs changes scripts (built_in changes (at_depth changes room scripts) id call (state_of old)) 1 old new result
  built_in_begins room id call b argument weighs old new counts result is_counted first is le h =
      let m = at_depth changes room scripts in
      let pays : turns_left counts.turns + 2 ^ 70 ≡ turns_left old.counts.turns = turn_counted old.counts counts is_counted in
      begins_as changes scripts (built_in changes m id call (state_of old)) (built_in_where changes m argument (state_of (with_counts counts old)) b) weighs 1 old (with_counts counts old) new result
      (ap (λ x. built_in_where changes m x (state_of (with_counts counts old)) b) first
      ∙ ap (λ (x : Counts). built_in_where changes m (first_text call.args) (state_of (with_counts x old)) b) is_counted.1
      ∙ sym (built_in_counted changes m id call (state_of old) b is_counted.0 is))
      (same_around old counts is_counted) (omega (arith, pays, le)) h

  is_opened : (whole : Option Answer) (a : Around) (n : ℕ) (callback : OpenCallback) (w : Machine) (b : Begun) → Begins changes scripts whole a n w b → Calls changes scripts whole a n callback w (begun_as_opened b)
  is_opened whole a n callback w (begun.Opens f) g = g
  is_opened whole a n callback w (begun.Gives text) g = g

  module _ (room : ℕ) (id : List ℕ) (call : CallIn) (old new : Machine) (lt : 0 < room) (own : is_built_in id ≡ true) where
    as_built_in : built_in changes (at_depth changes (room - 1) scripts) id call (state_of old) ≡ at_depth changes room scripts id call (state_of old)
    as_built_in =
        let d : room ≡ suc (room - 1) = omega arith in
        sym (ap (λ n. at_depth changes n scripts id call (state_of old)) d ∙ built_in_depth changes (room - 1) scripts id call (state_of old) own)

    pub opens_built_in : (callback : OpenCallback) (b : Begun) → Begins changes scripts (built_in changes (at_depth changes (room - 1) scripts) id call (state_of old)) (around old) (turns_left old.counts.turns + 1) new b
        → Calls changes scripts (at_depth changes room scripts id call (state_of old)) (around old) (turns_left old.counts.turns + 1) callback new (begun_as_opened b)
    opens_built_in callback b h =
        subst (λ (o : Option Answer). Calls changes scripts o (around old) (turns_left old.counts.turns + 1) callback new (begun_as_opened b)) as_built_in
        (is_opened (built_in changes (at_depth changes (room - 1) scripts) id call (state_of old)) (around old) (turns_left old.counts.turns + 1) callback new b h)

    pub built_in_stops : (fault : RunFault) → Refuses fault (built_in changes (at_depth changes (room - 1) scripts) id call (state_of old)) → Refuses fault (at_depth changes room scripts id call (state_of old))
    built_in_stops fault h = subst (Refuses fault) as_built_in h

  pub opens_callback : (room : ℕ) (id : List ℕ) (place : Option ℕ) (call : CallIn) (w : Machine) → 0 < room → is_built_in id ≡ false → script_at place scripts ≡ script_of id scripts → call.turn ≡ 0
      → Goes changes scripts (at_depth changes room scripts id call (state_of w)) (around w) (turns_left w.counts.turns + 1) (frame.Callback (record { room = room - 1; left = 10001; place = place; call = call })) w
  opens_callback room id place call w lt own at first =
      let d : room ≡ suc (room - 1) = omega arith in
      record {
        same = ap (λ (o : Option (List Op)). play changes (at_depth changes (room - 1) scripts) (or_empty o) fuel call (state_of w)) at
            ∙ sym (ap (λ n. at_depth changes n scripts id call (state_of w)) d ∙ some_depth changes (room - 1) scripts id call (state_of w) own);
        stands = refl;
        ready = omega (arith, first);
        less = omega arith;
      }

  -- ---- a callback takes a turn

  after_counting : (c : OpenCallback) (turn : Turn) (s : State) (b d : Bool) → ltb s.turns most_turns ≡ b → fits turn ≡ d
      → play_counted_turn changes scripts c turn s ≡ ((only_if b (record s { turns = s.turns + 1 }) >>= λ s'. only_if d turn >>= λ turn'. turn_step changes (at_depth changes c.room scripts) c.call s' turn') >>= play_after_step changes scripts c)
  after_counting c turn s b d l f = rw (l, f) refl

  -- the rest of a turn that is counted
  pub turn_counts : (c c' : OpenCallback) (turn : Turn) (old new : Machine) (counts : Counts) (result : Result Step RunFault) → CountsTurn old.counts counts true → fits turn ≡ true
      → Turns changes scripts c turn c' (with_counts counts old) new result → CountsAs changes scripts c turn c' old new result
  turn_counts c c' turn old new counts result is_counted fit h =
      let before = play_counted_turn changes scripts c turn (state_of old) in
      let P : Option Answer → Around → ℕ → Type 0 = λ o a n. MatchResult result (λ s. Leaves changes scripts o a n (frame.Callback c') new s) (λ fault. Refuses fault o) in
      let meaning : play_turn changes scripts c turn (state_of (with_counts counts old)) ≡ before
      = ap (λ (x : Counts). play_turn changes scripts c turn (state_of (with_counts x old))) is_counted.1 ∙ sym (after_counting c turn (state_of old) true true is_counted.0 fit) in
      let pays : turns_left counts.turns + 2 ^ 70 ≡ turns_left old.counts.turns + 0 = (let p = turn_counted old.counts counts is_counted in omega (arith, p)) in
      subst (λ n. P before (around old) n) pays (subst (λ a. P before a (turns_left counts.turns + 2 ^ 70)) (same_around old counts is_counted) (subst (λ o. P o (around (with_counts counts old)) (turns_left counts.turns + 2 ^ 70)) meaning h))

  -- the turn of a callback is that of its script
  pub turn_steps : (c c' : OpenCallback) (turn : Turn) (old new : Machine) (result : Result Step RunFault) → 0 < c.left → turn ≡ turn_of (or_empty (script_at c.place scripts)) c.call
      → CountsAs changes scripts (record c { left = c.left - 1 }) turn c' old new result → Steps changes scripts (frame.Callback c) (frame.Callback c') old new result
  turn_steps c c' turn old new result more is h =
      let n : c.left ≡ suc (c.left - 1) = omega arith in
      let one_less : OpenCallback = record c { left = c.left - 1 } in
      let meaning : play_counted_turn changes scripts one_less turn (state_of old) ≡ frame_meaning changes scripts (frame.Callback c) (around old) (state_of old)
      = ap (λ (t : Turn). play_counted_turn changes scripts one_less t (state_of old)) is
      ∙ sym (more_turns changes (at_depth changes c.room scripts) (or_empty (script_at c.place scripts)) (c.left - 1) c.call (state_of old))
      ∙ sym (ap (λ k. play changes (at_depth changes c.room scripts) (or_empty (script_at c.place scripts)) k c.call (state_of old)) n) in
      subst (λ o. MatchResult result (λ s. Leaves changes scripts o (around old) (turns_left old.counts.turns + 0) (frame.Callback c') new s) (λ fault. Refuses fault o)) meaning h

  -- ---- what a turn waits for

  module _ (c : OpenCallback) (turn : Turn) (s : State) (a : Around) where
    abbrev pub waits_for : Option Answer → Option Answer
    waits_for o = o >>= λ x. frame_meaning changes scripts (frame_with_answer (frame.Callback c) x.text) a x.state

    filter_answer : (o : Option Answer) → waits_for (o >>= λ x. answer x.text x.state) ≡ ((o >>= λ x. answers c.call x.text x.state) >>= play_after_step changes scripts c)
    filter_answer None = refl
    filter_answer (Some x) = refl

    action_answer : (o : Option Answer) → waits_for (o >>= λ x. answer [] x.state) ≡ (((o >>= λ x. answer [] x.state) >>= λ x. answers c.call [] x.state) >>= play_after_step changes scripts c)
    action_answer None = refl
    action_answer (Some x) = refl

    its_answer : (o : Option Answer) → waits_for o ≡ ((o >>= λ x. answers c.call x.text x.state) >>= play_after_step changes scripts c)
    its_answer None = refl
    its_answer (Some x) = refl

  module _ (c : OpenCallback) (old : Machine) where
    abbrev pub m : Meaning
    m = at_depth changes c.room scripts

    abbrev pub ComesTo : Turn → Option Answer → Type 0
    ComesTo turn o = (o >>= λ x. frame_meaning changes scripts (frame_with_answer (frame.Callback c) x.text) (around old) x.state) ≡ play_turn changes scripts c turn (state_of old)

    pub apply_comes : (turn : Turn) (hook : List ℕ) (texts : List (List ℕ)) → turn ≡ Apply hook texts → ComesTo turn (run_to_answer m Filter hook texts (state_of old))
    apply_comes turn hook texts is = rw is (filter_answer c turn (state_of old) (around old) (run_hook m Filter hook texts (state_of old)))

    pub do_comes : (turn : Turn) (hook : List ℕ) (texts : List (List ℕ)) → turn ≡ Do hook texts → ComesTo turn (do_hook m hook texts (state_of old))
    do_comes turn hook texts is = rw is (action_answer c turn (state_of old) (around old) (run_hook m Action hook (or_one_empty texts) (record (state_of old) { did = (state_of old).did ++ hook ∷ [] })))

    pub scan_comes : (turn : Turn) (text : List ℕ) → turn ≡ Shortcodes text → ComesTo turn (scan m text (state_of old))
    scan_comes turn text is = rw is (its_answer c turn (state_of old) (around old) (scan m text (state_of old)))

    pub option_comes : (turn : Turn) (name value : List ℕ) (e : Option Effect) → turn ≡ SetOption name value → e ≡ Some (effect.SetOption name value) → ComesTo turn (change_site changes m (state_of old) e)
    option_comes turn name value e is f = rw (is, f) (its_answer c turn (state_of old) (around old) (change_site changes m (state_of old) (Some (effect.SetOption name value))))

    pub schedule_comes : (turn : Turn) (after : ℕ) (every : Every) (hook text : List ℕ) (e : Option Effect) → turn ≡ Schedule after every hook text → e ≡ schedules after every hook text (state_of old).site.moment → ComesTo turn (change_site changes m (state_of old) e)
    schedule_comes turn after every hook text e is f = rw (is, f) (its_answer c turn (state_of old) (around old) (change_site changes m (state_of old) (schedules after every hook text (state_of old).site.moment)))

    pub publish_comes : (turn : Turn) (id : List ℕ) (e : Option Effect) → turn ≡ Publish id → e ≡ publishes id (state_of old).site.moment → ComesTo turn (change_site changes m (state_of old) e)
    publish_comes turn id e is f = rw (is, f) (its_answer c turn (state_of old) (around old) (change_site changes m (state_of old) (publishes id (state_of old).site.moment)))

    -- the callback waits for what its turn begins
    pub asks : (turn : Turn) (o : Option Answer) (weighs : ℕ) (new : Machine) (b : Begun) → ComesTo turn o → weighs ≤ 2 ^ 70 → IsFew 1 c → Begins changes scripts o (around old) (turns_left old.counts.turns + weighs) new b
        → Leaves changes scripts (play_turn changes scripts c turn (state_of old)) (around old) (turns_left old.counts.turns + 2 ^ 70) (frame.Callback c) new (begun_as_step b)
    asks turn o weighs new b comes le few h = awaits changes scripts o (play_turn changes scripts c turn (state_of old)) (around old) weighs (turns_left old.counts.turns + 2 ^ 70) (frame.Callback c) old new b comes refl few (omega (arith, le)) h

    pub asks_none : (turn : Turn) (o : Option Answer) (fault : RunFault) → ComesTo turn o → Refuses fault o → Refuses fault (play_turn changes scripts c turn (state_of old))
    asks_none turn o fault comes h = awaits_none changes scripts o (play_turn changes scripts c turn (state_of old)) (frame.Callback c) old fault comes h
