-- Site file: the commands that a JSON document (RFC 8259) gives, each with its token and its moment, or the first place at which it is bad (own).
-- Keys that nobody names are passed over. What a command may not do to a site is no matter of the file.
use Rattle.std.specs.Prelude.{ℕ, List, length, nat_le, if◌then◌else◌, Option, Some, None, Result, Ok, Err, codes}
use Rattle.serde_json.specs.Data.{Data}
use Rattle.serde_json.specs.Find.{get, as_str}
use Rattle.press_apply.specs.declared.command.Stamped.{Stamped}
use Rattle.press_fields.specs.Fields as fields
use Rattle.press_fields.specs.Fields.{read}
use Rattle.press_fields.specs.Commands as commands
use Rattle.press_fields.specs.declared.fault.FieldFault.{FieldFault}
use Rattle.press_kit.specs.declared.place.Place.{Place}
use Rattle.press_kit.specs.declared.place.Place.TheVariants as place
use Rattle.press_kit.specs.Fields.{◌>>=◌, or_bad, number_in, list_at, each}
use Rattle.press_kit.specs.KitFile.{file_in}

-- ---- commands

-- numbers are written as JSON writes them
abbrev pub fields_of : Data → fields.Fields
fields_of d = record { text = λ key. read as_str (get key d); number = λ key. read number_in (get key d) }

-- a field that is bad is reported as the whole command
abbrev pub or_bad_place : {A : Type 0} → Place → Result A FieldFault → Result A Place
or_bad_place at (Ok x) = Ok x
or_bad_place at (Err e) = Err at

unfoldable pub command_of : Place → Data → Result Stamped Place
command_of at d = or_bad_place at (commands.command_of (fields_of d))

-- ---- files

-- the most commands that a list may have
abbrev pub command_limit : ℕ
command_limit = 100000

abbrev pub few : List Data → Option (List Data)
few ds = if nat_le (length ds) command_limit then Some ds else None

unfoldable pub commands_of : Data → Result (List Stamped) Place
commands_of d = do
  all ← list_at place.Commands (codes "commands") d
  ds ← or_bad place.Commands (few all)
  each command_of place.Commands 0 ds

unfoldable pub site_in : List ℕ → Result (List Stamped) Place
site_in bytes = do
  d ← file_in bytes
  commands_of d
