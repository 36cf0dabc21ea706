-- The kinds of commands: the word of each, by which files and forms tell it, and its number, by which bytes do (own).
use Rattle.std.specs.Prelude.{ℕ, ◌==◌, List, Option, Some, None, bytes_eq, codes, if◌then◌else◌}
use Rattle.press_apply.specs.declared.command.Command.{Command}
use Rattle.press_apply.specs.declared.command.Command.TheVariants as command
use Rattle.press_apply.specs.declared.kind.CommandKind.{CommandKind}
use Rattle.press_apply.specs.declared.kind.CommandKind.TheVariants as kind

abbrev pub kind_of_command : Command → CommandKind
kind_of_command (command.Insert draft) = kind.Insert
kind_of_command (command.Update id draft) = kind.Update
kind_of_command (command.Trash id) = kind.Trash
kind_of_command (command.Untrash id) = kind.Untrash
kind_of_command (command.Delete id) = kind.Delete
kind_of_command (command.SetOption name value) = kind.SetOption
kind_of_command (command.Activate plugin) = kind.Activate
kind_of_command (command.Deactivate plugin) = kind.Deactivate
kind_of_command command.Tick = kind.Tick
kind_of_command (command.Profile to) = kind.Profile

abbrev pub kind_named : List ℕ → Option CommandKind
kind_named word =
    if bytes_eq word (codes "insert") then Some kind.Insert else
    (if bytes_eq word (codes "update") then Some kind.Update else
    (if bytes_eq word (codes "trash") then Some kind.Trash else
    (if bytes_eq word (codes "untrash") then Some kind.Untrash else
    (if bytes_eq word (codes "delete") then Some kind.Delete else
    (if bytes_eq word (codes "option") then Some kind.SetOption else
    (if bytes_eq word (codes "activate") then Some kind.Activate else
    (if bytes_eq word (codes "deactivate") then Some kind.Deactivate else
    (if bytes_eq word (codes "tick") then Some kind.Tick else
    (if bytes_eq word (codes "profile") then Some kind.Profile else None)))))))))

abbrev pub command_number : CommandKind → ℕ
command_number kind.Insert = 1
command_number kind.Update = 2
command_number kind.Trash = 3
command_number kind.Untrash = 4
command_number kind.Delete = 5
command_number kind.SetOption = 6
command_number kind.Activate = 7
command_number kind.Deactivate = 8
command_number kind.Tick = 9
command_number kind.Profile = 10

abbrev pub command_kind_of : ℕ → Option CommandKind
command_kind_of n =
    if n == 1 then Some kind.Insert else
    (if n == 2 then Some kind.Update else
    (if n == 3 then Some kind.Trash else
    (if n == 4 then Some kind.Untrash else
    (if n == 5 then Some kind.Delete else
    (if n == 6 then Some kind.SetOption else
    (if n == 7 then Some kind.Activate else
    (if n == 8 then Some kind.Deactivate else
    (if n == 9 then Some kind.Tick else
    (if n == 10 then Some kind.Profile else None)))))))))
