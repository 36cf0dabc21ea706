-- Command of fields: the command that a form or an object of a file gives, with its token and its moment (the fields and their names are own).
-- Fields that nobody names are passed over. What a command may not do to a site is no matter of its fields.
use Rattle.std.specs.Prelude.{ℕ, List, Result, Ok, Err, codes, nat_lt, if◌then◌else◌}
use Rattle.press_posts.specs.declared.draft.Draft as post
use Rattle.press_posts.specs.declared.status.Status.{Status}
use Rattle.press_posts.specs.declared.status.Status.TheVariants.{Draft}
use Rattle.press_posts.specs.Transitions.{status_named}
use Rattle.press_site.specs.declared.token.Token.{Token}
use Rattle.press_apply.specs.declared.command.Command.{Command}
use Rattle.press_apply.specs.declared.command.Command.TheVariants as command
use Rattle.press_apply.specs.declared.command.Stamped.{Stamped}
use Rattle.press_apply.specs.declared.kind.CommandKind.{CommandKind}
use Rattle.press_apply.specs.declared.kind.CommandKind.TheVariants as kind
use Rattle.press_apply.specs.Kinds.{kind_named}
use Rattle.press_fields.specs.declared.fault.FieldFault.{FieldFault}
use Rattle.press_fields.specs.declared.fault.FieldFault.TheVariants.{BadField}
use Rattle.press_fields.specs.Fields.{Fields, ◌>>=◌, map_ok, or_bad, text_at, name_at, number_at, moment_at, moment_in, default}

abbrev pub status_in : List ℕ → Result Status FieldFault
status_in word = or_bad (status_named word)

-- draft, where none is given (`wp_insert_post`)
abbrev pub status_at : Fields → Result Status FieldFault
status_at fields = fields.text (codes "status") >>= default Draft status_in

-- the command's own moment, where none is given
abbrev pub date_at : ℕ → Fields → Result ℕ FieldFault
date_at now fields = fields.number (codes "date") >>= default now moment_in

-- a profile is a number of one byte
abbrev pub profile_in : ℕ → Result ℕ FieldFault
profile_in number = if nat_lt number 256 then Ok number else Err BadField

abbrev pub profile_at : Fields → Result ℕ FieldFault
profile_at fields = number_at (codes "profile") fields >>= profile_in

unfoldable pub draft : ℕ → Fields → Result post.Draft FieldFault
draft now fields = do
  title ← text_at (codes "title") fields
  content ← text_at (codes "content") fields
  status ← status_at fields
  date ← date_at now fields
  Ok (record { title = title; content = content; status = status; date = date })

unfoldable pub update_command : ℕ → Fields → Result Command FieldFault
update_command now fields = do
  id ← number_at (codes "id") fields
  d ← draft now fields
  Ok (command.Update id d)

unfoldable pub option_command : Fields → Result Command FieldFault
option_command fields = do
  name ← name_at (codes "name") fields
  value ← text_at (codes "value") fields
  Ok (command.SetOption name value)

unfoldable pub command_by : CommandKind → ℕ → Fields → Result Command FieldFault
command_by kind.Insert now fields = map_ok command.Insert (draft now fields)
command_by kind.Update now fields = update_command now fields
command_by kind.Trash now fields = map_ok command.Trash (number_at (codes "id") fields)
command_by kind.Untrash now fields = map_ok command.Untrash (number_at (codes "id") fields)
command_by kind.Delete now fields = map_ok command.Delete (number_at (codes "id") fields)
command_by kind.SetOption now fields = option_command fields
command_by kind.Activate now fields = map_ok command.Activate (name_at (codes "plugin") fields)
command_by kind.Deactivate now fields = map_ok command.Deactivate (name_at (codes "plugin") fields)
command_by kind.Tick now fields = Ok command.Tick
command_by kind.Profile now fields = map_ok command.Profile (profile_at fields)

abbrev pub kind_in : List ℕ → Result CommandKind FieldFault
kind_in word = or_bad (kind_named word)

abbrev pub kind_at : Fields → Result CommandKind FieldFault
kind_at fields = text_at (codes "kind") fields >>= kind_in

unfoldable pub token_of : Fields → Result Token FieldFault
token_of fields = do
  editor ← name_at (codes "editor") fields
  seq ← number_at (codes "seq") fields
  Ok (record { editor = editor; seq = seq })

unfoldable pub command_of : Fields → Result Stamped FieldFault
command_of fields = do
  token ← token_of fields
  now ← moment_at (codes "at") fields
  kind ← kind_at fields
  command ← command_by kind now fields
  Ok (record { token = token; at = now; command = command })
