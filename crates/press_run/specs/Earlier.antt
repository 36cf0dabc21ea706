-- The meaning of runs as it was before a site had a profile: what a shortcode's callback answers is put in its place as it is. What is the same is told by
-- the words of Run, over a meaning of callbacks.
use Rattle.std.specs.Prelude.{◌≡◌, ℕ, zero, suc, ◌+◌, ◌-◌, ◌++◌, List, [], length, slice_range, Bool, true, false, bytes_eq, Option, Some, None}
use Rattle.press_scan.specs.declared.shortcode.Shortcode.{Shortcode}
use Rattle.press_scan.specs.Shortcodes.{cut}
use Rattle.press_scan.specs.FirstShortcode.{shortcode_from}
use Rattle.press_scan.specs.Scans.{before, behind}
use Rattle.press_scan.specs.Tags.{names_of, callback_of}
use Rattle.press_callbacks.specs.declared.script.CallIn.{CallIn}
use Rattle.press_callbacks.specs.declared.script.Op.{Op}
use Rattle.press_callbacks.specs.declared.script.Turn.{Turn}
use Rattle.press_callbacks.specs.declared.script.Turn.TheVariants.{Go, AddHook, RemoveHook, RemoveAll, AddTag, RemoveTag, Skip, Apply, Do, Shortcodes, Ask, SetOption, Schedule, Publish, Echo, Return}
use Rattle.press_callbacks.specs.Turns.{turn_of}
use Rattle.press_callbacks.specs.Kits.{Scripts, script_of}
use Rattle.press_callbacks.specs.BuiltIns.{do_shortcode, is_built_in}
use Rattle.press_site.specs.declared.effect.Effect.{Effect}
use Rattle.press_site.specs.declared.effect.Effect.TheVariants as effect
use Rattle.press_site.specs.SiteView.{SiteView}
use Rattle.press_run.specs.declared.job.Job.{Job}
use Rattle.press_run.specs.declared.job.Job.TheVariants as job
use Rattle.press_run.specs.Links.{Changes, or_no_change}
use Rattle.press_run.specs.Run.{◌>>=◌, Answer, answer, State, Meaning, TurnResult, within, only_if, one_turn, fits, fuel, first_text, or_empty, tag_answer, shortcode_call, is_escape, answers, after_step, publish, apply_hook, do_fires, most_open}
use Rattle.press_run.specs.Run as now

abbrev pub shortcode_result : Meaning → List ℕ → Shortcode → State → Bool → Option Answer
shortcode_result callback text c s true = answer (slice_range text (c.start + 1) (c.end - 1)) s
shortcode_result callback text c s false = do
  a ← tag_answer callback (callback_of (cut text c.tag) s.tags) (shortcode_call text c) s
  answer (before c ++ (a.text ++ behind c)) a.state

abbrev pub scan_rest : Meaning → (ℕ → List ℕ → State → Option Answer) → List ℕ → ℕ → List ℕ → State → Option Shortcode → Option Answer
scan_rest callback rest text at output s None = do
  whole ← within (output ++ slice_range text at (length text))
  answer whole s
scan_rest callback rest text at output s (Some c) = do
  front ← within (output ++ slice_range text at c.start)
  a ← shortcode_result callback text c s (is_escape c)
  longer ← within (front ++ a.text)
  rest c.end longer a.state

unfoldable pub scan_from : Meaning → ℕ → List ℕ → ℕ → List ℕ → State → Option Answer
scan_from callback zero text at output s = None
scan_from callback (suc n) text at output s =
    scan_rest callback (λ at' output' s'. scan_from callback n text at' output' s') text at output s (shortcode_from text (names_of s.tags) at)

abbrev pub scan : Meaning → List ℕ → State → Option Answer
scan callback text s = do
  whole ← within text
  scan_from callback (suc (length whole)) whole 0 [] s

-- of the turns one has shortcodes answered
abbrev pub turn_step : Changes → Meaning → CallIn → State → Turn → Option TurnResult
turn_step changes callback call s (Shortcodes t) = do
  a ← scan callback t s
  answers call a.text a.state
turn_step changes callback call s (Go t) = now.turn_step changes callback call s (Go t)
turn_step changes callback call s (AddHook h c p n) = now.turn_step changes callback call s (AddHook h c p n)
turn_step changes callback call s (RemoveHook h c p) = now.turn_step changes callback call s (RemoveHook h c p)
turn_step changes callback call s (RemoveAll h p) = now.turn_step changes callback call s (RemoveAll h p)
turn_step changes callback call s (AddTag t c) = now.turn_step changes callback call s (AddTag t c)
turn_step changes callback call s (RemoveTag t) = now.turn_step changes callback call s (RemoveTag t)
turn_step changes callback call s (Skip n) = now.turn_step changes callback call s (Skip n)
turn_step changes callback call s (Apply h ts) = now.turn_step changes callback call s (Apply h ts)
turn_step changes callback call s (Do h ts) = now.turn_step changes callback call s (Do h ts)
turn_step changes callback call s (Ask q) = now.turn_step changes callback call s (Ask q)
turn_step changes callback call s (SetOption n t) = now.turn_step changes callback call s (SetOption n t)
turn_step changes callback call s (Schedule after every h t) = now.turn_step changes callback call s (Schedule after every h t)
turn_step changes callback call s (Publish t) = now.turn_step changes callback call s (Publish t)
turn_step changes callback call s (Echo t) = now.turn_step changes callback call s (Echo t)
turn_step changes callback call s (Return t) = now.turn_step changes callback call s (Return t)

abbrev pub counted_step : Changes → Meaning → CallIn → Turn → State → Option TurnResult
counted_step changes callback call turn s = do
  s' ← one_turn s
  turn' ← only_if (fits turn) turn
  turn_step changes callback call s' turn'

unfoldable pub play : Changes → Meaning → List Op → ℕ → CallIn → State → Option Answer
play changes callback script zero call s = None
play changes callback script (suc n) call s = do
  step ← counted_step changes callback call (turn_of script call) s
  after_step (λ call' s'. play changes callback script n call' s') step

abbrev pub built_in_where : Changes → Meaning → List ℕ → State → Bool → Option Answer
built_in_where changes callback argument s true = scan callback argument s
built_in_where changes callback argument s false = publish changes callback argument s

abbrev pub built_in : Changes → Meaning → List ℕ → CallIn → State → Option Answer
built_in changes callback id call s = do
  s' ← one_turn s
  built_in_where changes callback (first_text call.args) s' (bytes_eq id do_shortcode)

abbrev pub callback_where : Changes → Meaning → List ℕ → Option (List Op) → CallIn → State → Bool → Option Answer
callback_where changes callback id script call s true = built_in changes callback id call s
callback_where changes callback id script call s false = play changes callback (or_empty script) fuel call s

unfoldable pub at_depth : Changes → ℕ → Scripts → Meaning
at_depth changes zero scripts id call s = None
at_depth changes (suc depth) scripts id call s = callback_where changes (at_depth changes depth scripts) id (script_of id scripts) call s (is_built_in id)

abbrev pub callbacks_of : Changes → Scripts → Meaning
callbacks_of changes scripts = at_depth changes most_open scripts

abbrev pub job_meaning : Changes → Scripts → Job → State → Option Answer
job_meaning changes scripts (job.Fires fires) s = do_fires (callbacks_of changes scripts) fires s
job_meaning changes scripts (job.Apply hook args) s = apply_hook (callbacks_of changes scripts) hook args s

-- ---- which changes of the site leave its profile

abbrev pub IsSwitch : Effect → Type 0
IsSwitch (effect.Insert draft) = ⊥
IsSwitch (effect.Edit id draft) = ⊥
IsSwitch (effect.Move id to) = ⊥
IsSwitch (effect.Delete id) = ⊥
IsSwitch (effect.SetOption name value) = ⊥
IsSwitch (effect.Schedule event) = ⊥
IsSwitch (effect.Take event) = ⊥
IsSwitch (effect.Activate plugin) = ⊥
IsSwitch (effect.Deactivate plugin) = ⊥
IsSwitch (effect.Profile to) = Unit {0}

-- every change but a switch of profile
abbrev pub KeepsProfile : Changes → Type 0
KeepsProfile changes = (site : SiteView) (e : Effect) → (IsSwitch e → ⊥) → (or_no_change site (changes site e)).0.profile ≡ site.profile
