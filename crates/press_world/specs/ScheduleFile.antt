-- Schedule file: how many nodes there are and what is done in turn, as a JSON document (RFC 8259)
-- gives it, or the first place at which it is bad (own). Keys that nobody names are passed over.
-- Whether a node or a message exists is found when its step is played.
use Rattle.std.specs.Prelude.{ℕ, ◌^◌, List, length, bytes_eq, nat_le, nat_lt, ◌&&◌, if◌then◌else◌, Option, Some, None, option_map, option_and_then, Result, Ok, codes}
use Rattle.serde_json.specs.Data.{Data}
use Rattle.serde_json.specs.Find.{get, as_str}
use Rattle.press_page.specs.declared.reply.Target.{Target}
use Rattle.press_kit.specs.declared.place.Place.{Place}
use Rattle.press_kit.specs.declared.place.Place.TheVariants as place
use Rattle.press_kit.specs.Fields.{◌>>=◌, map_ok, or_bad, number_in, number_at, below, default, list_at, each}
use Rattle.press_kit.specs.KitFile.{file_in}
use Rattle.press_kit.specs.PlayFile.{target_of}
use Rattle.press_kit.specs.SiteFile.{command_of}
use Rattle.press_world.specs.declared.step.Cut.{Cut}
use Rattle.press_world.specs.declared.step.Cut.TheVariants.{BeforeSave, AfterSave, AfterMessages}
use Rattle.press_world.specs.declared.step.Step.{Step}
use Rattle.press_world.specs.declared.step.Step.TheVariants as step
use Rattle.press_world.specs.declared.step_kind.StepKind.{StepKind}
use Rattle.press_world.specs.declared.step_kind.StepKind.TheVariants as kind

-- ---- cuts

abbrev pub cut_by_word : List ℕ → Option Cut
cut_by_word word =
    if bytes_eq word (codes "before") then Some BeforeSave else
    (if bytes_eq word (codes "save") then Some AfterSave else None)

abbrev pub cut_where : Option (List ℕ) → Data → Option Cut
cut_where (Some word) d = cut_by_word word
cut_where None d = option_map AfterMessages (option_and_then (below (2 ^ 32)) (number_in d))

-- a word, or a number of messages
abbrev pub cut_in : Data → Option Cut
cut_in d = cut_where (as_str d) d

-- none where none is given
abbrev pub cut_at : Place → Data → Result (Option Cut) Place
cut_at at d = or_bad at (default None (λ told. option_map Some (cut_in told)) (get (codes "cut") d))

-- ---- steps

abbrev pub kind_by_word : List ℕ → Option StepKind
kind_by_word word =
    if bytes_eq word (codes "submit") then Some kind.Submit else
    (if bytes_eq word (codes "wake") then Some kind.Wake else
    (if bytes_eq word (codes "deliver") then Some kind.Deliver else
    (if bytes_eq word (codes "restart") then Some kind.Restart else
    (if bytes_eq word (codes "get") then Some kind.Get else None))))

abbrev pub kind_in : Data → Option StepKind
kind_in d = option_and_then kind_by_word (option_and_then as_str (get (codes "do") d))

abbrev pub target_at : Place → Data → Result Target Place
target_at at d = do
  told ← or_bad at (get (codes "target") d)
  target_of at told

unfoldable pub submit_of : Place → Data → Result Step Place
submit_of at d = do
  node ← number_at at (codes "node") d
  command ← command_of at d
  cut ← cut_at at d
  Ok (step.Submit node command cut)

unfoldable pub wake_of : Place → Data → Result Step Place
wake_of at d = do
  node ← number_at at (codes "node") d
  cut ← cut_at at d
  Ok (step.Wake node cut)

unfoldable pub deliver_of : Place → Data → Result Step Place
deliver_of at d = do
  message ← number_at at (codes "message") d
  cut ← cut_at at d
  Ok (step.Deliver message cut)

unfoldable pub get_of : Place → Data → Result Step Place
get_of at d = do
  node ← number_at at (codes "node") d
  target ← target_at at d
  Ok (step.Get node target)

unfoldable pub step_by : StepKind → Place → Data → Result Step Place
step_by kind.Submit at d = submit_of at d
step_by kind.Wake at d = wake_of at d
step_by kind.Deliver at d = deliver_of at d
step_by kind.Restart at d = map_ok step.Restart (number_at at (codes "node") d)
step_by kind.Get at d = get_of at d

unfoldable pub step_of : Place → Data → Result Step Place
step_of at d = do
  kind ← or_bad at (kind_in d)
  step_by kind at d

-- ---- files

-- the most steps that a schedule may have
abbrev pub step_limit : ℕ
step_limit = 100000

abbrev pub few : List Data → Option (List Data)
few ds = if nat_le (length ds) step_limit then Some ds else None

unfoldable pub steps_of : Data → Result (List Step) Place
steps_of d = do
  all ← list_at place.Steps (codes "steps") d
  ds ← or_bad place.Steps (few all)
  each step_of place.Steps 0 ds

-- from 1 to so many
abbrev pub nodes_in : ℕ → ℕ → Option ℕ
nodes_in kits n = if nat_lt 0 n && nat_le n kits then Some n else None

abbrev pub nodes_at : ℕ → Data → Result ℕ Place
nodes_at kits d = do
  told ← or_bad place.File (get (codes "nodes") d)
  or_bad place.File (option_and_then (nodes_in kits) (number_in told))

unfoldable pub schedule_of : ℕ → Data → Result (ℕ × List Step) Place
schedule_of kits d = do
  nodes ← nodes_at kits d
  steps ← steps_of d
  Ok (nodes, steps)

unfoldable pub schedule_in : ℕ → List ℕ → Result (ℕ × List Step) Place
schedule_in kits bytes = do
  d ← file_in bytes
  schedule_of kits d
