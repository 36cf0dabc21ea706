-- What is left of a run: its open frames, the innermost first, told by the words of Run.
use Rattle.std.specs.Prelude.{◌≡◌, ℕ, suc, ◌+◌, ◌-◌, ◌*◌, ◌<◌, ◌≤◌, ◌^◌, ◌++◌, List, [], ◌∷◌, length, drop, Bool, true, false, Option, Some, None, IsSome, IsTrue, Result, MatchResult}
use Rattle.press_hooks.specs.NextEntry.{is_innermost, run_ended, without_innermost}
use Rattle.press_scan.specs.declared.shortcode.Shortcode.{Shortcode}
use Rattle.press_scan.specs.Scans.{Progress, before, behind}
use Rattle.press_callbacks.specs.declared.script.Turn.{Turn}
use Rattle.press_callbacks.specs.declared.script.Turn.TheVariants as turns
use Rattle.press_callbacks.specs.Kits.{Scripts, script_at}
use Rattle.press_run.specs.declared.run_fault.RunFault.{RunFault}
use Rattle.press_run.specs.declared.step.Kind.{Kind}
use Rattle.press_run.specs.declared.step.Kind.TheVariants.{Filter, Action}
use Rattle.press_run.specs.declared.frame.OpenCallback.{OpenCallback}
use Rattle.press_run.specs.declared.frame.OpenHook.{OpenHook}
use Rattle.press_run.specs.declared.frame.OpenScan.{OpenScan}
use Rattle.press_run.specs.declared.frame.Filtering.{Filtering}
use Rattle.press_run.specs.declared.frame.Filtering.TheVariants.{Off, Comes, Came}
use Rattle.press_run.specs.declared.frame.Frame.{Frame}
use Rattle.press_run.specs.declared.frame.Frame.TheVariants as frame
use Rattle.press_run.specs.declared.step.Begun.{Begun}
use Rattle.press_run.specs.declared.step.Begun.TheVariants as begun
use Rattle.press_run.specs.declared.step.Step.{Step}
use Rattle.press_run.specs.declared.step.Step.TheVariants as step
use Rattle.press_run.specs.declared.step.Opened.{Opened}
use Rattle.press_run.specs.declared.step.Opened.TheVariants as called
use Rattle.press_run.specs.declared.step.Moved.{Moved}
use Rattle.press_run.specs.declared.step.Moved.TheVariants as moves
use Rattle.press_run.specs.Links.{Changes}
use Rattle.press_run.specs.Run.{◌>>=◌, without_last, Answer, answer, State, Meaning, TurnResult, within, filter_answer, scan_from, first_text, run_hook, run_entries, do_fires, play, at_depth, or_empty, after_step, counted_step, turn_step, next_args, next_call, most_turns}
use Rattle.press_run.specs.Outcome.{Machine, Around, around, state_of, innermost, Refuses}

-- ---- what a frame comes to

-- what a hook answers: an action nothing
abbrev pub hook_answer : Kind → List ℕ → List ℕ
hook_answer Filter text = text
hook_answer Action text = []

abbrev pub run_to_answer : Meaning → Kind → List ℕ → List (List ℕ) → State → Option Answer
run_to_answer callback kind hook args s = do
  a ← run_hook callback kind hook args s
  answer (hook_answer kind a.text) a.state

-- a scan from its place on, behind an output that is to be within the bytes
abbrev pub resume_scan : Meaning → Progress → State → Option Answer
resume_scan callback p s = do
  output ← within p.output
  scan_from callback (suc (length p.text)) p.text p.at output s

-- the answer to a shortcode in its place
abbrev pub put_answer : Option Shortcode → Progress → List ℕ → Progress
put_answer None p text = p
put_answer (Some c) p text = record p { at = c.end; output = p.output ++ (before c ++ (text ++ behind c)); waiting = None }

-- an answer that came is filtered before it is put in its place
abbrev pub scan_meaning : Meaning → Filtering → Progress → State → Option Answer
scan_meaning callback Off p s = resume_scan callback p s
scan_meaning callback (Comes tag) p s = resume_scan callback p s
scan_meaning callback (Came text tag) p s = do
  a ← filter_answer callback tag text s
  resume_scan callback (put_answer p.waiting p a.text) a.state

-- what a frame comes to as it goes on, where this stands round what is open
abbrev pub frame_meaning : Changes → Scripts → Frame → Around → State → Option Answer
frame_meaning changes scripts (frame.Callback c) a s = play changes (at_depth changes c.room scripts) (or_empty (script_at c.place scripts)) c.left c.call s
frame_meaning changes scripts (frame.Hook h) a s = do
  x ← run_entries (at_depth changes h.room scripts) h.kind h.left h.args (innermost a.open_runs) s
  answer (hook_answer h.kind x.text) (record (x.state) { doing = without_last a.doing })
frame_meaning changes scripts (frame.Fires f) a s = do
  x ← do_fires (at_depth changes f.room scripts) (drop f.done f.fires) s
  answer f.gives x.state
frame_meaning changes scripts (frame.Scan f) a s = scan_meaning (at_depth changes f.room scripts) f.filtering f.scan s

-- whether a shortcode's answer is filtered as it comes
abbrev pub filtering_where : List ℕ → Bool → Filtering
filtering_where tag false = Off
filtering_where tag true = Comes tag

-- a scan with the answer that it waited for: the callback's, which is filtered first, or the one that is put in its place
abbrev pub scan_with_answer : Filtering → OpenScan → List ℕ → OpenScan
scan_with_answer Off f text = record f { scan = put_answer f.scan.waiting f.scan text; filtering = Off }
scan_with_answer (Comes tag) f text = record f { filtering = Came text tag }
scan_with_answer (Came first tag) f text = record f { scan = put_answer f.scan.waiting f.scan text; filtering = Off }

-- a frame that waited, with the answer that it waited for
abbrev pub frame_with_answer : Frame → List ℕ → Frame
frame_with_answer (frame.Callback c) text = frame.Callback (record c { call = next_call c.call c.call.value text 0 })
frame_with_answer (frame.Hook h) text = frame.Hook (record h { args = next_args h.kind text h.args })
frame_with_answer (frame.Fires f) text = frame.Fires f
frame_with_answer (frame.Scan f) text = frame.Scan (scan_with_answer f.filtering f text)

-- what stands round a frame
abbrev pub round : Frame → Around → Around
round (frame.Callback c) a = a
round (frame.Hook h) a = record a { open_runs = without_innermost a.open_runs; doing = without_last a.doing }
round (frame.Fires f) a = a
round (frame.Scan f) a = a

-- what the waiting frames come to, the innermost first, once it has its answer
unfoldable pub resume_frames : Changes → Scripts → List Frame → Around → Option Answer → Option Answer
resume_frames changes scripts [] a o = o
resume_frames changes scripts (f ∷ fs) a o = resume_frames changes scripts fs (round f a) (o >>= λ x. frame_meaning changes scripts (frame_with_answer f x.text) a x.state)

-- ---- frames that stand: a hook's run is the innermost of those from its frame on

-- so many turns are left that the call's place can be counted
abbrev pub IsFew : ℕ → OpenCallback → Type 0
IsFew more c = c.call.turn + 65536 * (c.left + more) ≤ 655425536

-- no answer is awaited
abbrev pub GoesOn : Progress → Type 0
GoesOn p = (p.waiting ≡ None) × (length p.text ≤ 1048576) × (p.at ≤ length p.text)

pub record Awaits (p : Progress) : Type 0 where
  pub shortcode : Shortcode
  pub waiting : p.waiting ≡ Some shortcode
  pub short : length p.text ≤ 1048576
  pub more : p.at < shortcode.end
  pub inside : shortcode.end ≤ length p.text

abbrev pub IsCame : Filtering → Type 0
IsCame Off = ⊥
IsCame (Comes tag) = ⊥
IsCame (Came text tag) = Unit {0}

-- an answer that comes is put in its place, and not kept for its filter
abbrev pub PutsAnswer : Filtering → Type 0
PutsAnswer Off = Unit {0}
PutsAnswer (Comes tag) = ⊥
PutsAnswer (Came text tag) = Unit {0}

-- of a scan that goes on, and of one that waits
abbrev pub ScanReady : Filtering → Progress → Type 0
ScanReady Off p = GoesOn p
ScanReady (Comes tag) p = ⊥
ScanReady (Came text tag) p = Awaits p

abbrev pub ScanWaits : Filtering → Progress → Type 0
ScanWaits Off p = Awaits p
ScanWaits (Comes tag) p = Awaits p
ScanWaits (Came text tag) p = ⊥

abbrev pub Ready : Frame → Around → Type 0
Ready (frame.Callback c) a = IsFew 0 c
Ready (frame.Hook h) a = IsTrue (is_innermost h.run a.open_runs)
Ready (frame.Fires f) a = Unit {0}
Ready (frame.Scan f) a = ScanReady f.filtering f.scan

abbrev pub Waits : Frame → Around → Type 0
Waits (frame.Callback c) a = IsFew 1 c
Waits (frame.Hook h) a = IsTrue (is_innermost h.run a.open_runs)
Waits (frame.Fires f) a = Unit {0}
Waits (frame.Scan f) a = ScanWaits f.filtering f.scan

-- an answer can be taken
abbrev pub TakesAnswer : Frame → Type 0
TakesAnswer (frame.Callback c) = IsFew 1 c
TakesAnswer (frame.Hook h) = Unit {0}
TakesAnswer (frame.Fires f) = Unit {0}
TakesAnswer (frame.Scan f) = IsSome f.scan.waiting

-- the waiting frames stand, and round them what stood there before
unfoldable pub Stand : List Frame → Around → Around → Type 0
Stand [] a base = a ≡ base
Stand (f ∷ fs) a base = Waits f a × Stand fs (round f a) base

-- ---- what is left to do: each turn pays for the frame that it may open

unfoldable pub turns_left : ℕ → ℕ
turns_left turns = 2 ^ 70 * (most_turns - turns)

-- of a scan that goes on, and of one that waits, by the bytes that are left
abbrev pub scan_weight : Filtering → ℕ → ℕ
scan_weight Off left = 3 * left + 5
scan_weight (Comes tag) left = 3 * left + 5
scan_weight (Came text tag) left = 3 * left + 4

abbrev pub scan_weight_waiting : Filtering → ℕ → ℕ
scan_weight_waiting Off left = 3 * left + 1
scan_weight_waiting (Comes tag) left = 3 * left + 3
scan_weight_waiting (Came text tag) left = 3 * left + 1

-- of a frame that goes on, and of one that waits
abbrev pub weight : Frame → ℕ
weight (frame.Callback c) = 0
weight (frame.Hook h) = 2
weight (frame.Fires f) = 2 * (length f.fires - f.done) + 3
weight (frame.Scan f) = scan_weight f.filtering (length f.scan.text - f.scan.at)

abbrev pub weight_waiting : Frame → ℕ
weight_waiting (frame.Callback c) = 0
weight_waiting (frame.Hook h) = 1
weight_waiting (frame.Fires f) = 2 * (length f.fires - f.done) + 2
weight_waiting (frame.Scan f) = scan_weight_waiting f.filtering (length f.scan.text - f.scan.at)

unfoldable pub all_wait : List Frame → ℕ
all_wait [] = 0
all_wait (f ∷ fs) = weight_waiting f + all_wait fs

-- who begins something takes its answer at once, or waits
abbrev pub begun_as_step : Begun → Step
begun_as_step (begun.Opens f) = step.Opens f
begun_as_step (begun.Gives text) = step.Takes text

-- what a built-in callback begins
abbrev pub begun_as_opened : Begun → Opened
begun_as_opened (begun.Opens f) = called.Opens f
begun_as_opened (begun.Gives text) = called.Gives text

-- who calls this callback takes its answer at once, or waits
abbrev pub opened_as_moved : OpenCallback → Opened → Moved
opened_as_moved callback (called.Gives text) = moves.By (step.Takes text)
opened_as_moved callback (called.Opens f) = moves.By (step.Opens f)
opened_as_moved callback (called.Waits inner) = moves.Calls (frame.Callback callback) inner

-- ---- what a step leaves, of something that was to come to `whole` where `beside` stood round it, and less to do than the bound

module _ (changes : Changes) (scripts : Scripts) (whole : Option Answer) (beside : Around) (bound : ℕ) where
  -- a frame that goes on
  pub record Goes (f : Frame) (w : Machine) : Type 0 where
    pub same : frame_meaning changes scripts f (around w) (state_of w) ≡ whole
    pub stands : round f (around w) ≡ beside
    pub ready : Ready f (around w)
    pub less : turns_left w.counts.turns + weight f < bound

  -- a frame that waits for another one
  pub record Opens (f : Frame) (w : Machine) (inner : Frame) : Type 0 where
    pub same : (frame_meaning changes scripts inner (around w) (state_of w) >>= λ x. frame_meaning changes scripts (frame_with_answer f x.text) (round inner (around w)) x.state) ≡ whole
    pub stands : round f (round inner (around w)) ≡ beside
    pub waits : Waits f (round inner (around w))
    pub ready : Ready inner (around w)
    pub less : turns_left w.counts.turns + (weight inner + weight_waiting f) < bound

  -- a frame that waits for a callback, which waits for another one
  pub record Nests (f : Frame) (w : Machine) (callback inner : Frame) : Type 0 where
    pub same : ((frame_meaning changes scripts inner (around w) (state_of w) >>= λ x. frame_meaning changes scripts (frame_with_answer callback x.text) (round inner (around w)) x.state)
        >>= λ y. frame_meaning changes scripts (frame_with_answer f y.text) (round callback (round inner (around w))) y.state) ≡ whole
    pub stands : round f (round callback (round inner (around w))) ≡ beside
    pub waits : Waits f (round callback (round inner (around w)))
    pub within : Waits callback (round inner (around w))
    pub ready : Ready inner (around w)
    pub less : turns_left w.counts.turns + (weight inner + (weight_waiting callback + weight_waiting f)) < bound

  -- a frame that waits for this text
  pub record Takes (f : Frame) (w : Machine) (text : List ℕ) : Type 0 where
    pub same : frame_meaning changes scripts (frame_with_answer f text) (around w) (state_of w) ≡ whole
    pub stands : round f (around w) ≡ beside
    pub waits : Waits f (around w)
    pub less : turns_left w.counts.turns + (weight_waiting f + 1) < bound

  -- an answer
  pub record Gives (w : Machine) (text : List ℕ) : Type 0 where
    pub same : answer text (state_of w) ≡ whole
    pub stands : around w ≡ beside
    pub less : turns_left w.counts.turns + 1 < bound

  abbrev pub Leaves : Frame → Machine → Step → Type 0
  Leaves f w step.Goes = Goes f w
  Leaves f w (step.Opens inner) = Opens f w inner
  Leaves f w (step.Takes text) = Takes f w text
  Leaves f w (step.Gives text) = Gives w text

  abbrev pub Begins : Machine → Begun → Type 0
  Begins w (begun.Opens f) = Goes f w
  Begins w (begun.Gives text) = Gives w text

  abbrev pub Calls : OpenCallback → Machine → Opened → Type 0
  Calls callback w (called.Gives text) = Gives w text
  Calls callback w (called.Opens f) = Goes f w
  Calls callback w (called.Waits inner) = Opens (frame.Callback callback) w inner

  abbrev pub Moves : Frame → Machine → Moved → Type 0
  Moves f w (moves.By s) = Leaves f w s
  Moves f w (moves.Calls callback inner) = Nests f w callback inner

  -- a run without a next entry
  pub record Ends (h : OpenHook) (w : Machine) : Type 0 where
    pub same : answer (hook_answer h.kind (first_text h.args)) (record (state_of w) { doing = without_last w.counts.doing }) ≡ whole
    pub stands : round (frame.Hook h) (around w) ≡ beside
    pub ready : IsTrue (is_innermost h.run w.hooks.open_runs)
    pub less : turns_left w.counts.turns + 1 < bound

  abbrev pub Enters : OpenHook → OpenCallback → Machine → Option Opened → Type 0
  Enters h callback w None = Ends h w
  Enters h callback w (Some o) = Moves (frame.Hook h) w (opened_as_moved callback o)

-- what began is to come to this
abbrev pub BeginsAs : Changes → Scripts → Option Answer → ℕ → Machine → Machine → Result Begun RunFault → Type 0
BeginsAs changes scripts whole weighs old new result =
    MatchResult result (λ b. Begins changes scripts whole (around old) (turns_left old.counts.turns + weighs) new b) (λ fault. Refuses fault whole)

-- a frame makes one step
abbrev pub Steps : Changes → Scripts → Frame → Frame → Machine → Machine → Result Step RunFault → Type 0
Steps changes scripts f f' old new result = MatchResult result
    (λ s. Leaves changes scripts (frame_meaning changes scripts f (around old) (state_of old)) (round f (around old)) (turns_left old.counts.turns + weight f) f' new s)
    (λ fault. Refuses fault (frame_meaning changes scripts f (around old) (state_of old)))

-- what was called is to come to this, where this is the callback afterwards
abbrev pub CallsAs : Changes → Scripts → Option Answer → ℕ → OpenCallback → Machine → Machine → Result Opened RunFault → Type 0
CallsAs changes scripts whole weighs callback old new result =
    MatchResult result (λ o. Calls changes scripts whole (around old) (turns_left old.counts.turns + weighs) callback new o) (λ fault. Refuses fault whole)

-- the innermost frame moves
abbrev pub MovesTo : Changes → Scripts → Frame → Frame → Machine → Machine → Result Moved RunFault → Type 0
MovesTo changes scripts f f' old new result = MatchResult result
    (λ m. Moves changes scripts (frame_meaning changes scripts f (around old) (state_of old)) (round f (around old)) (turns_left old.counts.turns + weight f) f' new m)
    (λ fault. Refuses fault (frame_meaning changes scripts f (around old) (state_of old)))

-- a run of a hook calls its next entry, or has none
abbrev pub EntersAs : Changes → Scripts → OpenHook → OpenHook → OpenCallback → Machine → Machine → Result (Option Opened) RunFault → Type 0
EntersAs changes scripts h h' callback old new result = MatchResult result
    (λ o. Enters changes scripts (frame_meaning changes scripts (frame.Hook h) (around old) (state_of old)) (round (frame.Hook h) (around old)) (turns_left old.counts.turns + 2) h' callback new o)
    (λ fault. Refuses fault (frame_meaning changes scripts (frame.Hook h) (around old) (state_of old)))

-- a run at its end is closed
abbrev pub end_run : Machine → Machine
end_run w = record w { hooks = run_ended w.hooks; counts = record (w.counts) { doing = without_last w.counts.doing } }

-- what a callback's turns leave of its call
abbrev pub KeepsCall : OpenCallback → OpenCallback → Type 0
KeepsCall c c' = (c'.call.atts ≡ c.call.atts) × (c'.call.content ≡ c.call.content) × (c'.call.tag ≡ c.call.tag)

-- a hook's callback has no attributes, no content and no tag
abbrev pub IsOfHook : OpenCallback → Type 0
IsOfHook c = (c.call.atts ≡ []) × (c.call.content ≡ []) × (c.call.tag ≡ [])

-- a callback after what a turn comes to
abbrev pub play_after_step : Changes → Scripts → OpenCallback → TurnResult → Option Answer
play_after_step changes scripts c step =
    after_step (λ call s. play changes (at_depth changes c.room scripts) (or_empty (script_at c.place scripts)) c.left call s) step

-- a callback does what its turn asks for
abbrev pub play_turn : Changes → Scripts → OpenCallback → Turn → State → Option Answer
play_turn changes scripts c turn s = turn_step changes (at_depth changes c.room scripts) c.call s turn >>= play_after_step changes scripts c

-- as it does where the turn is counted, and its texts are within the bytes
abbrev pub play_counted_turn : Changes → Scripts → OpenCallback → Turn → State → Option Answer
play_counted_turn changes scripts c turn s = counted_step changes (at_depth changes c.room scripts) c.call turn s >>= play_after_step changes scripts c

abbrev pub PlaysAs : Changes → Scripts → Option Answer → ℕ → OpenCallback → Machine → Machine → Result Step RunFault → Type 0
PlaysAs changes scripts whole weighs c' old new result = MatchResult result
    (λ s. Leaves changes scripts whole (around old) (turns_left old.counts.turns + weighs) (frame.Callback c') new s)
    (λ fault. Refuses fault whole)

abbrev pub CountsAs : Changes → Scripts → OpenCallback → Turn → OpenCallback → Machine → Machine → Result Step RunFault → Type 0
CountsAs changes scripts c turn c' old new result = PlaysAs changes scripts (play_counted_turn changes scripts c turn (state_of old)) 0 c' old new result

-- a turn that the callback goes on from or ends by, one that begins what it waits for, one that edits the hooks, and one that edits the tags or asks
abbrev pub group : Turn → ℕ
group (turns.Go t) = 0
group (turns.Skip n) = 0
group (turns.Echo t) = 0
group (turns.Return t) = 0
group (turns.Apply h ts) = 1
group (turns.Do h ts) = 1
group (turns.Shortcodes t) = 1
group (turns.SetOption n t) = 1
group (turns.Schedule after every h t) = 1
group (turns.Publish t) = 1
group (turns.AddHook h c p n) = 2
group (turns.RemoveHook h c p) = 2
group (turns.RemoveAll h p) = 2
group (turns.AddTag t c) = 3
group (turns.RemoveTag t) = 3
group (turns.Ask a) = 3

-- the turn is counted already
abbrev pub Turns : Changes → Scripts → OpenCallback → Turn → OpenCallback → Machine → Machine → Result Step RunFault → Type 0
Turns changes scripts c turn c' old new result = PlaysAs changes scripts (play_turn changes scripts c turn (state_of old)) (2 ^ 70) c' old new result
