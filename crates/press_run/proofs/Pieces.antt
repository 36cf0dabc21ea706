-- A step of a scan.
use Rattle.std.proofs.Common.{◌≡◌, refl, sym, ◌∙◌, ap, subst, ℕ, ◌+◌, ◌-◌, ◌*◌, ◌≤◌, Bool, true, false, List, length, Option, Some, None, arith}
use Rattle.press_scan.specs.declared.shortcode.Shortcode.{Shortcode}
use Rattle.press_scan.specs.Shortcodes.{cut}
use Rattle.press_scan.specs.Scans.{Progress, Calls, TakesText}
use Rattle.press_scan.specs.Tags.{names_of, callback_of}
use Rattle.press_callbacks.specs.declared.script.CallIn.{CallIn}
use Rattle.press_callbacks.specs.Kits.{Scripts}
use Rattle.press_run.specs.declared.run_fault.RunFault.{RunFault}
use Rattle.press_run.specs.declared.step.Begun.{Begun}
use Rattle.press_run.specs.declared.step.Opened.{Opened}
use Rattle.press_run.specs.declared.frame.OpenCallback.{OpenCallback}
use Rattle.press_run.specs.declared.frame.OpenScan.{OpenScan}
use Rattle.press_run.specs.declared.frame.Filtering.{Filtering}
use Rattle.press_run.specs.declared.frame.Filtering.TheVariants.{Off, Came}
use Rattle.press_run.specs.declared.frame.Frame.TheVariants as frame
use Rattle.press_run.specs.Links.{Changes}
use Rattle.press_run.specs.Run.{◌>>=◌, Answer, Meaning, at_depth, filter_answer, filter_answer_where, filters_answers, is_short, shortcode_call, tag_answer}
use Rattle.press_run.specs.Outcome.{Machine, around, state_of, Refuses}
use Rattle.press_run.specs.Frames.{frame_meaning, frame_with_answer, put_answer, resume_scan, scan_meaning, filtering_where, turns_left, weight, scan_weight, scan_weight_waiting, Awaits, GoesOn, ScanReady, ScanWaits, Begins, Goes, Gives, Leaves, Moves, begun_as_step, opened_as_moved}
use Rattle.press_run.specs.Frames as frames
use Rattle.press_run.proofs.Resumed.{awaits, awaits_called, awaits_none}
use Rattle.press_run.proofs.Scans.{ComputesSome, ComputesNone, EndsWithin, text_taken, text_inside, shortcode_waits, scan_ends}

-- ---- whether an answer is filtered as it comes

filtering_waits : (tag : List ℕ) (b : Bool) (p : Progress) → Awaits p → ScanWaits (filtering_where tag b) p
filtering_waits tag false p h = h
filtering_waits tag true p h = h

filtering_little : (tag : List ℕ) (b : Bool) (n : ℕ) → scan_weight_waiting (filtering_where tag b) n ≤ 3 * n + 3
filtering_little tag false n = omega arith
filtering_little tag true n = omega arith

module _ (some : ComputesSome) (none : ComputesNone) (ends : EndsWithin) (changes : Changes) (scripts : Scripts) (old : OpenScan) (w : Machine) (short : is_short old.scan.output ≡ true) (ready : GoesOn old.scan) (off : old.filtering ≡ Off) where
  abbrev pub callback : Meaning
  callback = at_depth changes old.room scripts

  abbrev pub whole : Option Answer
  whole = frame_meaning changes scripts (frame.Scan old) (around w) (state_of w)

  abbrev pub bound : ℕ
  bound = turns_left w.counts.turns + weight (frame.Scan old)

  abbrev pub with_scan : Progress → OpenScan
  with_scan p = record old { scan = p }

  scans : (p : Progress) → scan_meaning callback old.filtering p (state_of w) ≡ resume_scan callback p (state_of w)
  scans p = ap (λ k. scan_meaning callback k p (state_of w)) off

  weighs : (n : ℕ) → scan_weight old.filtering n ≡ 3 * n + 5
  weighs n = ap (λ k. scan_weight k n) off

  pub text_goes : (new : Progress) → TakesText (names_of w.tags) old.scan new → Goes changes scripts whole (around w) bound (frame.Scan (with_scan new)) w
  text_goes new takes =
      let inside : new.at ≤ length old.scan.text = text_inside some none ends callback old.scan (state_of w) short new takes in
      let same : length new.text ≡ length old.scan.text = ap length takes.text in
      let before = weighs (length old.scan.text - old.scan.at) in
      let after = weighs (length new.text - new.at) in
      record {
        same = scans new ∙ text_taken some none ends callback old.scan (state_of w) short new takes ∙ sym (scans old.scan);
        stands = refl;
        ready = subst (λ k. ScanReady k new) (sym off) (takes.waiting, omega (arith, same, ready.1), omega (arith, same, inside));
        less = omega (arith, same, inside, takes.more, before, after);
      }

  pub scan_gives : (text : List ℕ) → old.scan.at ≡ length old.scan.text → text ≡ old.scan.output → Gives changes scripts whole (around w) bound w text
  scan_gives text e given =
      let before = weighs (length old.scan.text - old.scan.at) in
      rw given (record { same = scan_ends some none ends callback old.scan (state_of w) short e ∙ sym (scans old.scan); stands = refl; less = omega (arith, before) })

  module _ (new : Progress) (c : Shortcode) (calls : Calls (names_of w.tags) old.scan new c) (text : List ℕ) (is : text ≡ new.text) (k : Filtering) (filters : k ≡ filtering_where (cut text c.tag) (filters_answers w.site)) where
    abbrev pub called_on : List ℕ → Option Answer
    called_on t = tag_answer callback (callback_of (cut t c.tag) w.tags) (shortcode_call t c) (state_of w)

    abbrev pub waiting : Filtering → OpenScan
    waiting x = record old { scan = new; filtering = x }

    -- as it is taken
    abbrev pub comes_to : Filtering → Option Answer → Option Answer
    comes_to x o = o >>= λ a. frame_meaning changes scripts (frame_with_answer (frame.Scan (waiting x)) a.text) (around w) a.state

    -- as it is meant
    abbrev pub filtered_then : List ℕ → Progress → Bool → Option Answer → Option Answer
    filtered_then t p b o = (o >>= λ a. filter_answer_where callback (cut t c.tag) a b) >>= λ a. resume_scan callback (put_answer p.waiting p a.text) a.state

    both_filter : (b : Bool) (o : Option Answer) → comes_to (filtering_where (cut text c.tag) b) o ≡ filtered_then text new b o
    both_filter b None = refl
    both_filter false (Some a) = refl
    both_filter true (Some a) = refl

    call_comes : comes_to k (called_on text) ≡ whole
    call_comes =
        let b = filters_answers w.site in
        ap (λ x. comes_to x (called_on text)) filters
        ∙ both_filter b (called_on text)
        ∙ ap (λ (p : Progress). filtered_then text p b (called_on text)) calls.waits
        ∙ ap (λ t. filtered_then t (record old.scan { waiting = Some c }) b (called_on text)) (is ∙ ap (λ (p : Progress). p.text) calls.waits)
        ∙ ap (λ t. filtered_then old.scan.text (record old.scan { waiting = Some c }) b (called_on t)) (is ∙ ap (λ (p : Progress). p.text) calls.waits)
        ∙ shortcode_waits some none ends callback old.scan (state_of w) short c calls.stands calls.no_escape
        ∙ sym (scans old.scan)

    call_awaits : ScanWaits k new
    call_awaits =
        let w' = ends old.scan.text (names_of w.tags) old.scan.at c calls.stands in
        subst (λ x. ScanWaits x new) (sym filters) (filtering_waits (cut text c.tag) (filters_answers w.site) new (rw calls.waits (record { shortcode = c; waiting = refl; short = ready.1; more = w'.0; inside = w'.1 })))

    -- the call's own tag and call
    abbrev pub called_with : CallIn → Option Answer
    called_with call = tag_answer callback (callback_of call.tag w.tags) call (state_of w)

    pub call_begins : (call : CallIn) (after : Machine) (opening : OpenCallback) (b : Opened) → call ≡ shortcode_call text c → frames.Calls changes scripts (called_with call) (around w) (turns_left w.counts.turns + 2) opening after b → Moves changes scripts whole (around w) bound (frame.Scan (waiting k)) after (opened_as_moved opening b)
    call_begins call after opening b of_it g =
        let n = length new.text - new.at in
        let length_same : length new.text ≡ length old.scan.text = ap (λ (p : Progress). length p.text) calls.waits in
        let at_same : new.at ≡ old.scan.at = ap (λ (p : Progress). p.at) calls.waits in
        let little : scan_weight_waiting k n ≤ 3 * n + 3 = subst (λ x. scan_weight_waiting x n ≤ 3 * n + 3) (sym filters) (filtering_little (cut text c.tag) (filters_answers w.site) n) in
        let before = weighs (length old.scan.text - old.scan.at) in
        awaits_called changes scripts (called_on text) whole (around w) 2 bound (frame.Scan (waiting k)) w after opening b call_comes refl call_awaits (omega (arith, length_same, at_same, little, before))
        (subst (λ (x : CallIn). frames.Calls changes scripts (called_with x) (around w) (turns_left w.counts.turns + 2) opening after b) of_it g)

    pub call_stops : (call : CallIn) (fault : RunFault) → call ≡ shortcode_call text c → Refuses fault (called_with call) → Refuses fault whole
    call_stops call fault of_it refused = awaits_none changes scripts (called_on text) whole (frame.Scan (waiting k)) w fault call_comes (subst (λ (x : CallIn). Refuses fault (called_with x)) of_it refused)

-- ---- an answer that came goes through its filter

module _ (changes : Changes) (scripts : Scripts) (old : OpenScan) (w : Machine) (text tag : List ℕ) (came : old.filtering ≡ Came text tag) (ready : Awaits old.scan) where
  abbrev pub filter_of : Option Answer
  filter_of = filter_answer (at_depth changes old.room scripts) tag text (state_of w)

  abbrev pub off : OpenScan
  off = record old { filtering = Off }

  abbrev pub answered : Option Answer
  answered = frame_meaning changes scripts (frame.Scan old) (around w) (state_of w)

  filter_comes : (filter_of >>= λ x. frame_meaning changes scripts (frame_with_answer (frame.Scan off) x.text) (around w) x.state) ≡ answered
  filter_comes = sym (ap (λ k. scan_meaning (at_depth changes old.room scripts) k old.scan (state_of w)) came)

  pub filter_begins : (after : Machine) (b : Begun) → Begins changes scripts filter_of (around w) (turns_left w.counts.turns + 3) after b → Leaves changes scripts answered (around w) (turns_left w.counts.turns + weight (frame.Scan old)) (frame.Scan off) after (begun_as_step b)
  filter_begins after b g =
      let n = length old.scan.text - old.scan.at in
      let before : scan_weight old.filtering n ≡ 3 * n + 4 = ap (λ k. scan_weight k n) came in
      awaits changes scripts filter_of answered (around w) 3 (turns_left w.counts.turns + weight (frame.Scan old)) (frame.Scan off) w after b filter_comes refl ready (omega (arith, before)) g

  pub filter_stops : (fault : RunFault) → Refuses fault filter_of → Refuses fault answered
  filter_stops fault refused = awaits_none changes scripts filter_of answered (frame.Scan off) w fault filter_comes refused
