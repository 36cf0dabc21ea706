-- The commands that wait to be chosen (own).
use Rattle.std.specs.Prelude.{Bool, true, false, nat_le, List, [], ◌∷◌, ◌++◌, length}
use Rattle.std.specs.List.{before_first, after_first}
use Rattle.press_apply.specs.Same.{is_same_value}
use Rattle.press_apply.specs.declared.command.Stamped.{Stamped}
use Rattle.press_apply.specs.declared.value.Value.{Value}
use Rattle.press_apply.specs.declared.value.Value.TheVariants.{Noop, Cmd}

abbrev pub is_empty : List Stamped → Bool
is_empty [] = true
is_empty (command ∷ commands) = false

-- no further command is taken
abbrev pub is_full : List Stamped → Bool
is_full commands = nat_le 256 (length commands)

-- the first command, or the value that does nothing
abbrev pub first_of : List Stamped → Value
first_of [] = Noop 0
first_of (command ∷ commands) = Cmd command

-- all that stand before and after the first command that is the value
abbrev pub without : Value → List Stamped → List Stamped
without value commands =
    let is_it : Stamped → Bool = λ command. is_same_value (Cmd command) value in
    before_first is_it commands ++ after_first is_it commands
