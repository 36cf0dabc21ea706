-- From one step of the innermost frame to what is left of the whole run.
use Rattle.std.proofs.Common.{◌≡◌, refl, sym, ◌∙◌, ap, subst, ℕ, ◌+◌, ◌-◌, ◌<◌, ◌≤◌, List, [], ◌∷◌, length, Option, None, IsSome, Result, arith}
use Rattle.press_callbacks.specs.Kits.{Scripts}
use Rattle.press_run.specs.declared.run_fault.RunFault.{RunFault}
use Rattle.press_run.specs.declared.run_fault.RunFault.TheVariants.{Limit, NoMemory}
use Rattle.press_scan.specs.Scans.{Progress}
use Rattle.press_run.specs.declared.frame.OpenCallback.{OpenCallback}
use Rattle.press_run.specs.declared.frame.OpenScan.{OpenScan}
use Rattle.press_run.specs.declared.frame.Filtering.{Filtering}
use Rattle.press_run.specs.declared.frame.Filtering.TheVariants as filtering
use Rattle.press_run.specs.declared.frame.Frame.{Frame}
use Rattle.press_run.specs.declared.frame.Frame.TheVariants as frame
use Rattle.press_run.specs.declared.step.Begun.{Begun}
use Rattle.press_run.specs.declared.step.Begun.TheVariants as begun
use Rattle.press_run.specs.declared.step.Opened.{Opened}
use Rattle.press_run.specs.declared.step.Opened.TheVariants as called
use Rattle.press_run.specs.declared.step.Step.{Step}
use Rattle.press_run.specs.declared.step.Step.TheVariants as step
use Rattle.press_run.specs.Links.{Changes}
use Rattle.press_run.specs.Run.{◌>>=◌, Answer, answer}
use Rattle.press_run.specs.Outcome.{Machine, Around, around, state_of, GivesText, Refuses}
use Rattle.press_run.specs.Frames.{frame_meaning, frame_with_answer, round, resume_frames, Ready, Waits, TakesAnswer, Stand, turns_left, weight, weight_waiting, scan_with_answer, scan_weight, scan_weight_waiting, ScanReady, ScanWaits, all_wait, Goes, Opens, Nests, Takes, Gives, Leaves, Begins, Calls, Moves, begun_as_step, opened_as_moved}

-- ---- what is awaited comes to what it began as

module _ (changes : Changes) (scripts : Scripts) where
  module _ (o whole : Option Answer) (beside : Around) (weighs bound : ℕ) (f : Frame) (old new : Machine) where
    abbrev pub Comes : Type 0
    Comes = (o >>= λ x. frame_meaning changes scripts (frame_with_answer f x.text) (around old) x.state) ≡ whole

    opens_awaited : (inner : Frame) → Comes → round f (around old) ≡ beside → Waits f (around old) → turns_left old.counts.turns + (weighs + weight_waiting f) ≤ bound
        → Goes changes scripts o (around old) (turns_left old.counts.turns + weighs) inner new → Opens changes scripts whole beside bound f new inner
    opens_awaited inner comes stands waits le g = record {
      same = rw (g.stands, g.same) comes;
      stands = ap (round f) g.stands ∙ stands;
      waits = subst (Waits f) (sym g.stands) waits;
      ready = g.ready;
      less = omega (arith, g.less);
    }

    takes_awaited : (text : List ℕ) → Comes → round f (around old) ≡ beside → Waits f (around old) → turns_left old.counts.turns + (weighs + weight_waiting f) ≤ bound
        → Gives changes scripts o (around old) (turns_left old.counts.turns + weighs) new text → Takes changes scripts whole beside bound f new text
    takes_awaited text comes stands waits le g = record {
      same = rw g.stands (ap (λ p. p >>= λ x. frame_meaning changes scripts (frame_with_answer f x.text) (around old) x.state) g.same ∙ comes);
      stands = ap (round f) g.stands ∙ stands;
      waits = subst (Waits f) (sym g.stands) waits;
      less = omega (arith, g.less);
    }

    pub awaits : (b : Begun) → Comes → round f (around old) ≡ beside → Waits f (around old) → turns_left old.counts.turns + (weighs + weight_waiting f) ≤ bound
        → Begins changes scripts o (around old) (turns_left old.counts.turns + weighs) new b → Leaves changes scripts whole beside bound f new (begun_as_step b)
    awaits (begun.Opens inner) comes stands waits le g = opens_awaited inner comes stands waits le g
    awaits (begun.Gives text) comes stands waits le g = takes_awaited text comes stands waits le g

    nests_awaited : (callback inner : Frame) → Comes → round f (around old) ≡ beside → Waits f (around old) → turns_left old.counts.turns + (weighs + weight_waiting f) ≤ bound
        → Opens changes scripts o (around old) (turns_left old.counts.turns + weighs) callback new inner → Nests changes scripts whole beside bound f new callback inner
    nests_awaited callback inner comes stands waits le g = record {
      same = rw (g.stands, g.same) comes;
      stands = ap (round f) g.stands ∙ stands;
      waits = subst (Waits f) (sym g.stands) waits;
      within = g.waits;
      ready = g.ready;
      less = omega (arith, g.less, le);
    }

    pub awaits_called : (callback : OpenCallback) (b : Opened) → Comes → round f (around old) ≡ beside → Waits f (around old) → turns_left old.counts.turns + (weighs + weight_waiting f) ≤ bound
        → Calls changes scripts o (around old) (turns_left old.counts.turns + weighs) callback new b → Moves changes scripts whole beside bound f new (opened_as_moved callback b)
    awaits_called callback (called.Gives text) comes stands waits le g = takes_awaited text comes stands waits le g
    awaits_called callback (called.Opens inner) comes stands waits le g = opens_awaited inner comes stands waits le g
    awaits_called callback (called.Waits inner) comes stands waits le g = nests_awaited (frame.Callback callback) inner comes stands waits le g

  pub awaits_none : (o whole : Option Answer) (f : Frame) (old : Machine) (fault : RunFault) → (o >>= λ x. frame_meaning changes scripts (frame_with_answer f x.text) (around old) x.state) ≡ whole → Refuses fault o → Refuses fault whole
  awaits_none o whole f old Limit comes none = sym comes ∙ ap (λ p. p >>= λ x. frame_meaning changes scripts (frame_with_answer f x.text) (around old) x.state) none
  awaits_none o whole f old NoMemory comes none = tt

-- ---- what is left of a whole run, with its innermost frame on top

pub record Playing (changes : Changes) (scripts : Scripts) (whole : Option Answer) (base : Around) (waiting : List Frame) (top : Frame) (w : Machine) : Type 0 where
  pub same : resume_frames changes scripts waiting (round top (around w)) (frame_meaning changes scripts top (around w) (state_of w)) ≡ whole
  pub stands : Stand waiting (round top (around w)) base
  pub ready : Ready top (around w)

no_frames : (changes : Changes) (scripts : Scripts) (a : Around) (o : Option Answer) → resume_frames changes scripts [] a o ≡ o
unfolding resume_frames
no_frames changes scripts a o = refl

more_frames : (changes : Changes) (scripts : Scripts) (f : Frame) (fs : List Frame) (a : Around) (o : Option Answer) → resume_frames changes scripts (f ∷ fs) a o ≡ resume_frames changes scripts fs (round f a) (o >>= λ x. frame_meaning changes scripts (frame_with_answer f x.text) a x.state)
unfolding resume_frames
more_frames changes scripts f fs a o = refl

limit_ends : (changes : Changes) (scripts : Scripts) (fs : List Frame) (a : Around) → resume_frames changes scripts fs a None ≡ None
limit_ends changes scripts [] a = no_frames changes scripts a None
limit_ends changes scripts (f ∷ fs) a = more_frames changes scripts f fs a None ∙ limit_ends changes scripts fs (round f a)

none_stand : (a : Around) → Stand [] a a
unfolding Stand
none_stand a = refl

none_stood : (a base : Around) → Stand [] a base → a ≡ base
unfolding Stand
none_stood a base h = h

more_stand : (f : Frame) (fs : List Frame) (a base : Around) → Waits f a → Stand fs (round f a) base → Stand (f ∷ fs) a base
unfolding Stand
more_stand f fs a base h k = (h, k)

more_stood : (f : Frame) (fs : List Frame) (a base : Around) → Stand (f ∷ fs) a base → Waits f a × Stand fs (round f a) base
unfolding Stand
more_stood f fs a base h = h

more_wait : (f : Frame) (fs : List Frame) → all_wait (f ∷ fs) ≡ weight_waiting f + all_wait fs
unfolding all_wait
more_wait f fs = refl

same_round : (f : Frame) (text : List ℕ) (a : Around) → round (frame_with_answer f text) a ≡ round f a
same_round (frame.Callback c) text a = refl
same_round (frame.Hook h) text a = refl
same_round (frame.Fires s) text a = refl
same_round (frame.Scan s) text a = refl

-- a scan that takes an answer, and how much is then left to do

scan_ready : (k : Filtering) (f : OpenScan) (text : List ℕ) → ScanWaits k f.scan → ScanReady (scan_with_answer k f text).filtering (scan_with_answer k f text).scan
scan_ready filtering.Off f text h = rw h.waiting (refl, h.short, h.inside)
scan_ready (filtering.Comes tag) f text h = h
scan_ready (filtering.Came first tag) f text h = absurd h

abbrev pub left : OpenScan → ℕ
left f = length f.scan.text - f.scan.at

scan_less : (k : Filtering) (f : OpenScan) (text : List ℕ) → ScanWaits k f.scan → scan_weight (scan_with_answer k f text).filtering (left (scan_with_answer k f text)) ≤ scan_weight_waiting k (left f) + 1
scan_less filtering.Off f text h = rw h.waiting (omega (arith, h.more, h.inside))
scan_less (filtering.Comes tag) f text h = omega arith
scan_less (filtering.Came first tag) f text h = absurd h

scan_takes : (k : Filtering) (p : Progress) → ScanWaits k p → IsSome p.waiting
scan_takes filtering.Off p h = rw h.waiting refl
scan_takes (filtering.Comes tag) p h = rw h.waiting refl
scan_takes (filtering.Came first tag) p h = absurd h

taken_ready : (f : Frame) (text : List ℕ) (a : Around) → Waits f a → Ready (frame_with_answer f text) a
taken_ready (frame.Callback c) text a h = omega (arith, h)
taken_ready (frame.Hook h) text a i = i
taken_ready (frame.Fires s) text a h = tt
taken_ready (frame.Scan s) text a h = scan_ready s.filtering s text h

taken_less : (f : Frame) (text : List ℕ) (a : Around) → Waits f a → weight (frame_with_answer f text) ≤ weight_waiting f + 1
taken_less (frame.Callback c) text a h = omega arith
taken_less (frame.Hook h) text a i = omega arith
taken_less (frame.Fires s) text a h = omega arith
taken_less (frame.Scan s) text a h = scan_less s.filtering s text h

takes_answer : (f : Frame) (a : Around) → Waits f a → TakesAnswer f
takes_answer (frame.Callback c) a h = h
takes_answer (frame.Hook h) a i = tt
takes_answer (frame.Fires s) a h = tt
takes_answer (frame.Scan s) a h = scan_takes s.filtering s.scan h

-- a site that is only read is so round any frame

round_fixed : (f : Frame) (a : Around) → (round f a).fixed ≡ a.fixed
round_fixed (frame.Callback c) a = refl
round_fixed (frame.Hook h) a = refl
round_fixed (frame.Fires s) a = refl
round_fixed (frame.Scan s) a = refl

stand_fixed : (fs : List Frame) (a base : Around) → Stand fs a base → a.fixed ≡ base.fixed
stand_fixed [] a base h = ap (λ (x : Around). x.fixed) (none_stood a base h)
stand_fixed (f ∷ fs) a base h = sym (round_fixed f a) ∙ stand_fixed fs (round f a) base (more_stood f fs a base h).1

pub plays_fixed : (changes : Changes) (scripts : Scripts) (whole : Option Answer) (waiting : List Frame) (top first : Frame) (w start : Machine) → Playing changes scripts whole (round first (around start)) waiting top w → w.fixed ≡ start.fixed
plays_fixed changes scripts whole waiting top first w start p =
    sym (round_fixed top (around w)) ∙ stand_fixed waiting (round top (around w)) (round first (around start)) p.stands ∙ round_fixed first (around start)

module _ (changes : Changes) (scripts : Scripts) where
  -- a run at its start
  pub begins : (top : Frame) (w : Machine) → Ready top (around w) → Playing changes scripts (frame_meaning changes scripts top (around w) (state_of w)) (round top (around w)) [] top w
  begins top w ready = record {
    same = no_frames changes scripts (round top (around w)) (frame_meaning changes scripts top (around w) (state_of w));
    stands = none_stand (round top (around w));
    ready = ready;
  }

  module _ (whole : Option Answer) (base : Around) (waiting : List Frame) (top : Frame) (old : Machine) (p : Playing changes scripts whole base waiting top old) where
    abbrev pub bound : ℕ
    bound = turns_left old.counts.turns + weight top

    -- what is before a step may be told by what is after it
    same_as : (o : Option Answer) (a : Around) → o ≡ frame_meaning changes scripts top (around old) (state_of old) → a ≡ round top (around old) → resume_frames changes scripts waiting a o ≡ whole
    same_as o a e r = ap (λ x. resume_frames changes scripts waiting x o) r ∙ ap (resume_frames changes scripts waiting (round top (around old))) e ∙ p.same

    pub opens : (top' inner inner' : Frame) (waiting' : List Frame) (w : Machine) → inner' ≡ inner → waiting' ≡ top' ∷ waiting → Opens changes scripts (frame_meaning changes scripts top (around old) (state_of old)) (round top (around old)) bound top' w inner → Playing changes scripts whole base waiting' inner' w
    opens top' inner inner' waiting' w on_top pushed g = subst (λ x. Playing changes scripts whole base waiting' x w) (sym on_top) (
        let a = round inner (around w) in
        let o = frame_meaning changes scripts inner (around w) (state_of w) in
        record {
          same = ap (λ fs. resume_frames changes scripts fs a o) pushed ∙ more_frames changes scripts top' waiting a o ∙ same_as (o >>= λ x. frame_meaning changes scripts (frame_with_answer top' x.text) a x.state) (round top' a) g.same g.stands;
          stands = subst (λ fs. Stand fs a base) (sym pushed) (more_stand top' waiting a base g.waits (subst (λ x. Stand waiting x base) (sym g.stands) p.stands));
          ready = g.ready;
        })

    pub opens_less : (top' inner inner' : Frame) (waiting' : List Frame) (w : Machine) → inner' ≡ inner → waiting' ≡ top' ∷ waiting → Opens changes scripts (frame_meaning changes scripts top (around old) (state_of old)) (round top (around old)) bound top' w inner → turns_left w.counts.turns + (weight inner' + all_wait waiting') < turns_left old.counts.turns + (weight top + all_wait waiting)
    opens_less top' inner inner' waiting' w on_top pushed g =
        let i : weight inner' ≡ weight inner = ap weight on_top in
        let e : all_wait waiting' ≡ weight_waiting top' + all_wait waiting = ap all_wait pushed ∙ more_wait top' waiting in
        omega (arith, e, i, g.less)

    module _ (top' callback inner inner' : Frame) (waiting' waiting'' : List Frame) (w : Machine) (on_top : inner' ≡ inner) (first : waiting' ≡ top' ∷ waiting) (second : waiting'' ≡ callback ∷ waiting') (g : Nests changes scripts (frame_meaning changes scripts top (around old) (state_of old)) (round top (around old)) bound top' w callback inner) where
      all_pushed : waiting'' ≡ callback ∷ (top' ∷ waiting)
      all_pushed = second ∙ ap (λ fs. callback ∷ fs) first

      pub nests : Playing changes scripts whole base waiting'' inner' w
      nests = subst (λ x. Playing changes scripts whole base waiting'' x w) (sym on_top) (
          let a = round inner (around w) in
          let o = frame_meaning changes scripts inner (around w) (state_of w) in
          let o' = o >>= λ x. frame_meaning changes scripts (frame_with_answer callback x.text) a x.state in
          record {
            same = ap (λ fs. resume_frames changes scripts fs a o) all_pushed ∙ more_frames changes scripts callback (top' ∷ waiting) a o ∙ more_frames changes scripts top' waiting (round callback a) o'
                ∙ same_as (o' >>= λ y. frame_meaning changes scripts (frame_with_answer top' y.text) (round callback a) y.state) (round top' (round callback a)) g.same g.stands;
            stands = subst (λ fs. Stand fs a base) (sym all_pushed) (more_stand callback (top' ∷ waiting) a base g.within (more_stand top' waiting (round callback a) base g.waits (subst (λ x. Stand waiting x base) (sym g.stands) p.stands)));
            ready = g.ready;
          })

      pub nests_less : turns_left w.counts.turns + (weight inner' + all_wait waiting'') < turns_left old.counts.turns + (weight top + all_wait waiting)
      nests_less =
          let i : weight inner' ≡ weight inner = ap weight on_top in
          let e : all_wait waiting'' ≡ weight_waiting callback + all_wait (top' ∷ waiting) = ap all_wait all_pushed ∙ more_wait callback (top' ∷ waiting) in
          let e' : all_wait (top' ∷ waiting) ≡ weight_waiting top' + all_wait waiting = more_wait top' waiting in
          omega (arith, e, e', i, g.less)

    module _ (text : List ℕ) (w : Machine) (g : Gives changes scripts (frame_meaning changes scripts top (around old) (state_of old)) (round top (around old)) bound w text) where
      pub ends : waiting ≡ [] → (whole ≡ answer text (state_of w)) × (around w ≡ base)
      ends e =
          let all : resume_frames changes scripts [] (around w) (answer text (state_of w)) ≡ whole = ap (λ fs. resume_frames changes scripts fs (around w) (answer text (state_of w))) (sym e) ∙ same_as (answer text (state_of w)) (around w) g.same g.stands in
          let stand : Stand [] (around w) base = subst (λ fs. Stand fs (around w) base) e (subst (λ a. Stand waiting a base) (sym g.stands) p.stands) in
          (sym all ∙ no_frames changes scripts (around w) (answer text (state_of w)), none_stood (around w) base stand)

      module _ (f f' : Frame) (waiting' : List Frame) (popped : waiting ≡ f ∷ waiting') where
        stood : Waits f (around w) × Stand waiting' (round f (around w)) base
        stood = more_stood f waiting' (around w) base (subst (λ fs. Stand fs (around w) base) popped (subst (λ a. Stand waiting a base) (sym g.stands) p.stands))

        pub pops : TakesAnswer f
        pops = takes_answer f (around w) stood.0

        pub gives : f' ≡ frame_with_answer f text → Playing changes scripts whole base waiting' f' w
        gives took = subst (λ x. Playing changes scripts whole base waiting' x w) (sym took) (
            let o = answer text (state_of w) in
            let r : round (frame_with_answer f text) (around w) ≡ round f (around w) = same_round f text (around w) in
            let all : resume_frames changes scripts waiting' (round f (around w)) (frame_meaning changes scripts (frame_with_answer f text) (around w) (state_of w)) ≡ whole
            = sym (more_frames changes scripts f waiting' (around w) o) ∙ ap (λ fs. resume_frames changes scripts fs (around w) o) (sym popped) ∙ same_as o (around w) g.same g.stands in
            record {
              same = ap (λ a. resume_frames changes scripts waiting' a (frame_meaning changes scripts (frame_with_answer f text) (around w) (state_of w))) r ∙ all;
              stands = subst (λ a. Stand waiting' a base) (sym r) stood.1;
              ready = taken_ready f text (around w) stood.0;
            })

        pub gives_less : f' ≡ frame_with_answer f text → turns_left w.counts.turns + (weight f' + all_wait waiting') < turns_left old.counts.turns + (weight top + all_wait waiting)
        gives_less took =
            let e : all_wait waiting ≡ weight_waiting f + all_wait waiting' = ap all_wait popped ∙ more_wait f waiting' in
            let n : weight f' ≡ weight (frame_with_answer f text) = ap weight took in
            let l : weight (frame_with_answer f text) ≤ weight_waiting f + 1 = taken_less f text (around w) stood.0 in
            omega (arith, e, n, l, g.less)

    -- a fault ends the whole
    pub stops : (fault : RunFault) → Refuses fault (frame_meaning changes scripts top (around old) (state_of old)) → Refuses fault whole
    stops Limit none = sym p.same ∙ ap (resume_frames changes scripts waiting (round top (around old))) none ∙ limit_ends changes scripts waiting (round top (around old))
    stops NoMemory none = tt

-- a run of what a job began with is the job's
pub job_runs : (o whole : Option Answer) (a beside : Around) (w : Machine) (result : Result (List ℕ) RunFault) → o ≡ whole → a ≡ beside → GivesText o a w result → GivesText whole beside w result
job_runs o whole a beside w result e r h = subst (λ x. GivesText x beside w result) e (subst (λ x. GivesText o x w result) r h)

-- ---- a callback that takes its turns where it is called

module _ (changes : Changes) (scripts : Scripts) (whole : Option Answer) (beside : Around) (bound : ℕ) where
  pub turns_begin : (f : Frame) (w : Machine) → Ready f (around w) → turns_left w.counts.turns + weight f < bound → frame_meaning changes scripts f (around w) (state_of w) ≡ whole → round f (around w) ≡ beside → Goes changes scripts whole beside bound f w
  turns_begin f w ready less same stands = record { same = same; stands = stands; ready = ready; less = less }

  module _ (f : Frame) (old : Machine) (g : Goes changes scripts whole beside bound f old) where
    pub then_leaves : (f' : Frame) (w : Machine) (s : Step) → Leaves changes scripts (frame_meaning changes scripts f (around old) (state_of old)) (round f (around old)) (turns_left old.counts.turns + weight f) f' w s → Leaves changes scripts whole beside bound f' w s
    then_leaves f' w step.Goes h = record { same = h.same ∙ g.same; stands = h.stands ∙ g.stands; ready = h.ready; less = omega (arith, h.less, g.less) }
    then_leaves f' w (step.Opens inner) h = record { same = h.same ∙ g.same; stands = h.stands ∙ g.stands; waits = h.waits; ready = h.ready; less = omega (arith, h.less, g.less) }
    then_leaves f' w (step.Takes text) h = record { same = h.same ∙ g.same; stands = h.stands ∙ g.stands; waits = h.waits; less = omega (arith, h.less, g.less) }
    then_leaves f' w (step.Gives text) h = record { same = h.same ∙ g.same; stands = h.stands ∙ g.stands; less = omega (arith, h.less, g.less) }

    pub then_refused : (fault : RunFault) → Refuses fault (frame_meaning changes scripts f (around old) (state_of old)) → Refuses fault whole
    then_refused fault h = subst (Refuses fault) g.same h

  pub takes_on : (f f' : Frame) (w : Machine) (text : List ℕ) → f' ≡ frame_with_answer f text → Takes changes scripts whole beside bound f w text → Goes changes scripts whole beside bound f' w
  takes_on f f' w text e t = subst (λ x. Goes changes scripts whole beside bound x w) (sym e) (
      let l : weight (frame_with_answer f text) ≤ weight_waiting f + 1 = taken_less f text (around w) t.waits in
      record { same = t.same; stands = same_round f text (around w) ∙ t.stands; ready = taken_ready f text (around w) t.waits; less = omega (arith, t.less, l) })
