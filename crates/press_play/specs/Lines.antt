-- The lines of plays: what each play gives by *Run* on the state that the ones before it left, the
-- site among it, as a line of JSON (own). A play that meets a limit is the last.
use Rattle.std.specs.Prelude.{◌≡◌, ℕ, List, [], ◌∷◌, ◌++◌, Bool, true, false, Option, Some, None, Result, Ok, Err, codes}
use Rattle.std.specs.declared.alloc.AllocError.{AllocError}
use Rattle.serde_json.specs.Data.{Data, string, boolean, object, member, no_members}
use Rattle.serde_json.specs.Written.{compact_text}
use Rattle.press_site.specs.Effects.{effect_on}
use Rattle.press_callbacks.specs.Kits.{Scripts}
use Rattle.press_run.specs.declared.job.Job.{Job}
use Rattle.press_run.specs.declared.job.Job.TheVariants as job
use Rattle.press_run.specs.Run.{Answer, State, answer}
use Rattle.press_run.specs.Links.{unchanging_part}
use Rattle.press_run.specs.Outcome.{state_of, job_meaning}
use Rattle.press_run.specs.Standing.{machine_view}
use Rattle.press_run.specs.declared.machine.Machine.{Machine}
use Rattle.press_site.specs.SiteView.{SiteView}
use Rattle.press_kit.specs.declared.play_file.PlayKind.{PlayKind}
use Rattle.press_kit.specs.declared.play_file.PlayKind.TheVariants.{Apply, Do}
use Rattle.press_kit.specs.declared.play_file.Play.{Play}

-- a value on a line of its own
abbrev pub line : Data → List ℕ
line d = compact_text d ++ 10 ∷ []

-- the text given, and the output so far where there is any
abbrev pub answer_data : List ℕ → List ℕ → Data
answer_data text [] = object (member (codes "text") (string text) no_members)
answer_data text (b ∷ bs) = object (member (codes "output") (string (b ∷ bs)) (member (codes "text") (string text) no_members))

abbrev pub limit_data : Data
limit_data = object (member (codes "limit") (boolean true) no_members)

abbrev pub job_by : PlayKind → List ℕ → List (List ℕ) → Job
job_by Apply hook args = job.Apply hook args
job_by Do hook args = job.Fires (record { hook = hook; args = args } ∷ [])

abbrev pub job_of : Play → Job
job_of p = job_by p.kind p.hook p.args

abbrev pub lines_where : (State → List ℕ) → Option Answer → List ℕ
lines_where rest None = line limit_data
lines_where rest (Some a) = line (answer_data a.text a.state.output) ++ rest a.state

unfoldable pub lines : Scripts → List Play → State → List ℕ
lines scripts [] s = []
lines scripts (p ∷ ps) s = lines_where (λ s'. lines scripts ps s') (job_meaning effect_on scripts (job_of p) s)

-- ---- what a machine of plays stands for, and what one play writes

abbrev pub state_in : Machine SiteView → State
state_in machine = state_of (machine_view (λ s. s) (λ s. Some (unchanging_part s)) machine)

-- a play was shown on the machine: its line was written, and the machine is as it left it
pub record Shows (meaning : Option Answer) (after : State) (old new : List ℕ) : Type 0 where
  pub text : List ℕ
  pub comes : meaning ≡ answer text after
  pub written : new ≡ old ++ line (answer_data text after.output)

-- the limit was written in its place
pub record Stops (meaning : Option Answer) (old new : List ℕ) : Type 0 where
  pub comes : meaning ≡ None
  pub written : new ≡ old ++ line limit_data

-- whether the plays go on; out of memory says nothing
abbrev pub Plays : Option Answer → State → List ℕ → List ℕ → Result Bool AllocError → Type 0
Plays meaning after old new (Ok true) = Shows meaning after old new
Plays meaning after old new (Ok false) = Stops meaning old new
Plays meaning after old new (Err e) = Unit {0}
