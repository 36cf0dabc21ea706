-- Play file: a kit, the plugins that are active or the commands that make the site, the pages that are shown of it, and what is to be played on it in
-- turn, as a JSON document gives it (own).
-- The key `shows` is for whoever reads the file.
use Rattle.std.specs.Prelude.{ℕ, ◌^◌, List, [], ◌∷◌, Bool, true, false, nat_lt, ◌&&◌, if◌then◌else◌, Option, Some, None, is_some, option_and_then, Result, Ok, codes}
use Rattle.serde_json.specs.Data.{Data}
use Rattle.serde_json.specs.Find.{get, as_bool, as_str}
use Rattle.press_apply.specs.declared.command.Stamped.{Stamped}
use Rattle.press_page.specs.declared.reply.Target.{Target}
use Rattle.press_page.specs.Targets.{target_in}
use Rattle.press_kit.specs.declared.place.Place.{Place}
use Rattle.press_kit.specs.declared.place.Place.TheVariants as place
use Rattle.press_kit.specs.declared.play_file.PlayKind.{PlayKind}
use Rattle.press_kit.specs.declared.play_file.PlayKind.TheVariants.{Apply, Do}
use Rattle.press_kit.specs.declared.play_file.Play.{Play}
use Rattle.press_kit.specs.declared.play_file.PlayFile.{PlayFile}
use Rattle.press_kit.specs.Fields.{◌>>=◌, or_bad, only, name_in, name_at, number_in, default, list_in, list_at, each}
use Rattle.press_kit.specs.KitFile.{file_in, kit_of}
use Rattle.press_kit.specs.SiteFile.{commands_of}

-- ---- plays

abbrev pub text_in : Place → Data → Result (List ℕ) Place
text_in at d = or_bad at (as_str d)

abbrev pub args_where : Place → Option Data → Result (List (List ℕ)) Place
args_where at None = Ok []
args_where at (Some d) = do
  ds ← or_bad at (list_in d)
  each text_in at 0 ds

-- none where none are given
abbrev pub args_at : Place → Data → Result (List (List ℕ)) Place
args_at at d = args_where at (get (codes "args") d)

-- at least once
abbrev pub times_in : ℕ → Option ℕ
times_in n = if nat_lt 0 n && nat_lt n (2 ^ 32) then Some n else None

-- once where none is given
abbrev pub times_at : Place → Data → Result ℕ Place
times_at at d = or_bad at (default 1 (λ n. option_and_then times_in (number_in n)) (get (codes "times") d))

-- not where none is given
abbrev pub trace_at : Place → Data → Result Bool Place
trace_at at d = or_bad at (default false as_bool (get (codes "trace") d))

abbrev pub keys_of : PlayKind → List (List ℕ)
keys_of Apply = codes "apply" ∷ codes "args" ∷ codes "times" ∷ codes "trace" ∷ []
keys_of Do = codes "do" ∷ codes "args" ∷ codes "times" ∷ codes "trace" ∷ []

-- the key of the hook
abbrev pub hook_key : PlayKind → List ℕ
hook_key Apply = codes "apply"
hook_key Do = codes "do"

-- a filter, or else an action
abbrev pub kind_of : Data → PlayKind
kind_of d = if is_some (get (codes "apply") d) then Apply else Do

unfoldable pub play_by : PlayKind → Place → Data → Result Play Place
play_by kind at d = do
  whole ← only at (keys_of kind) d
  hook ← name_at 64 at (hook_key kind) whole
  args ← args_at at whole
  times ← times_at at whole
  trace ← trace_at at whole
  Ok (record { kind = kind; hook = hook; args = args; times = times; trace = trace })

abbrev pub play_of : Place → Data → Result Play Place
play_of at d = play_by (kind_of d) at d

-- ---- files

abbrev pub active_of : Place → Data → Result (List ℕ) Place
active_of at d = or_bad at (option_and_then (name_in 32) (as_str d))

-- commands may stand in place of the active plugins
abbrev pub has_commands : Data → Bool
has_commands d = is_some (get (codes "commands") d)

abbrev pub file_keys : Bool → List (List ℕ)
file_keys true = codes "kit" ∷ codes "commands" ∷ codes "pages" ∷ codes "plays" ∷ codes "shows" ∷ []
file_keys false = codes "kit" ∷ codes "active" ∷ codes "pages" ∷ codes "plays" ∷ codes "shows" ∷ []

unfoldable pub active_where : Bool → Data → Result (List (List ℕ)) Place
active_where true d = Ok []
active_where false d = do
  names ← list_at place.Active (codes "active") d
  each active_of place.Active 0 names

abbrev pub commands_where : Bool → Data → Result (List Stamped) Place
commands_where true d = commands_of d
commands_where false d = Ok []

abbrev pub target_of : Place → Data → Result Target Place
target_of at d = or_bad at (option_and_then target_in (as_str d))

abbrev pub targets_where : Option Data → Result (List Target) Place
targets_where None = Ok []
targets_where (Some d) = do
  ds ← or_bad place.Pages (list_in d)
  each target_of place.Pages 0 ds

-- none where none are given
abbrev pub pages_of : Data → Result (List Target) Place
pages_of d = targets_where (get (codes "pages") d)

unfoldable pub plays_of : Data → Result (List Play) Place
plays_of d = do
  ds ← list_at place.Plays (codes "plays") d
  each play_of place.Plays 0 ds

unfoldable pub play_file_of : Data → Result PlayFile Place
play_file_of d = do
  whole ← only place.File (file_keys (has_commands d)) d
  it ← or_bad place.File (get (codes "kit") whole)
  kit ← kit_of it
  active ← active_where (has_commands d) whole
  commands ← commands_where (has_commands d) whole
  pages ← pages_of whole
  plays ← plays_of whole
  Ok (record { kit = kit; active = active; commands = commands; pages = pages; plays = plays })

unfoldable pub play_file_in : List ℕ → Result PlayFile Place
play_file_in bytes = do
  d ← file_in bytes
  play_file_of d
