-- The steps that a reply is built by, from a fresh boot (Plugin Handbook, Hooks: `plugins_loaded`, `init`, `wp_loaded`; their order is own).
use Rattle.std.specs.Prelude.{ℕ, List, ◌++◌, Option, Some, Result}
use Rattle.press_posts.specs.declared.fire.Fire.{Fire}
use Rattle.press_site.specs.SiteView.{SiteView}
use Rattle.press_callbacks.specs.Kits.{KitView}
use Rattle.press_run.specs.declared.run_fault.RunFault.{RunFault}
use Rattle.press_run.specs.Run.{◌>>=◌, Answer, answer, State, Meaning, within, do_fires}
use Rattle.press_run.specs.Boot.{boot_with}
use Rattle.press_run.specs.Outcome.{Refuses, state_at_start}
use Rattle.press_text.specs.Gives.{Gives}

-- a text goes to the output, where that stays within the bytes
abbrev pub puts : List ℕ → State → Option State
puts text s = do
  output ← within (s.output ++ text)
  Some (record s { output = output })

-- actions, one after the other
abbrev pub fires : Meaning → List Fire → State → Option State
fires callback fs s = do
  a ← do_fires callback fs s
  Some a.state

-- the state after a fresh boot
abbrev pub state_after_boot : KitView → SiteView → State
state_after_boot kit site = state_at_start (boot_with kit.plugins site.active) site

-- ---- what a step answers, beside the state after it

abbrev pub Steps : Option State → State → Result Unit RunFault → Type 0
Steps found after result = Gives Refuses (λ _. Some after) result found

abbrev pub Answers : Option Answer → State → Result (List ℕ) RunFault → Type 0
Answers found after result = Gives Refuses (λ text. answer text after) result found
