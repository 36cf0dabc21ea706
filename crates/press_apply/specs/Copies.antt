-- Which values a copy may take memory for (own).
use Rattle.std.specs.Prelude.{Bool, true, false}
use Rattle.press_apply.specs.declared.command.Command.{Command}
use Rattle.press_apply.specs.declared.command.Command.TheVariants.{Insert, Update, Trash, Untrash, Delete, SetOption, Activate, Deactivate, Tick, Profile}
use Rattle.press_apply.specs.declared.value.Value.{Value}
use Rattle.press_apply.specs.declared.value.Value.TheVariants.{Noop, Cmd}

-- whether a value has a command
abbrev pub is_command : Value → Bool
is_command (Noop at) = false
is_command (Cmd c) = true

-- whether a command has a name or a text
abbrev pub has_text : Command → Bool
has_text (Insert draft) = true
has_text (Update id draft) = true
has_text (Trash id) = false
has_text (Untrash id) = false
has_text (Delete id) = false
has_text (SetOption name value) = true
has_text (Activate plugin) = true
has_text (Deactivate plugin) = true
has_text Tick = false
has_text (Profile to) = false
