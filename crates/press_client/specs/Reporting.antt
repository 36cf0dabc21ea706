-- What is told of commands that were sent: a line for each that was not done, and how many ended
-- how (own).
use Rattle.std.specs.Prelude.{ℕ, ◌-◌, suc, ◌==◌, ◌&&◌, Bool, true, false, List, [], ◌∷◌, ◌++◌, length, count_by, codes, decimal}
use Rattle.press_apply.specs.Kinds.{kind_of_command}
use Rattle.press_apply.specs.declared.command.Stamped.{Stamped}
use Rattle.press_forms.specs.Forms.{kind_word}
use Rattle.press_client.specs.declared.counts.Counts.{Counts}
use Rattle.press_client.specs.declared.ending.Ending.{Ending}
use Rattle.press_client.specs.declared.ending.Ending.TheVariants.{Done, NotTaken, Refused}

abbrev pub is_done : Ending → Bool
is_done (Done id) = true
is_done (Refused fault) = false
is_done (NotTaken status) = false

abbrev pub is_refused : Ending → Bool
is_refused (Done id) = false
is_refused (Refused fault) = true
is_refused (NotTaken status) = false

-- of so many commands
abbrev pub counts_of : ℕ → List Ending → Counts
counts_of commands endings = record {
  done = count_by is_done endings;
  refused = count_by is_refused endings;
  not_taken = length endings - count_by is_done endings - count_by is_refused endings;
  left = commands - length endings;
}

abbrev pub are_done : Counts → Bool
are_done c = c.refused == 0 && (c.not_taken == 0 && c.left == 0)

-- ---- lines

-- the place in the file, the token, the kind, and what became of the command
unfoldable pub line : ℕ → List ℕ → ℕ → List ℕ → List ℕ → List ℕ
line place editor seq kind what =
    codes "commands[" ++ (decimal place ++ (codes "] " ++ (editor ++ (codes "/" ++ (decimal seq ++ (codes " " ++ (kind ++ (codes ": " ++ (what ++ codes "\n")))))))))

unfoldable pub fault_text : ℕ → List ℕ
fault_text fault = codes "fault " ++ decimal fault

unfoldable pub status_text : ℕ → List ℕ
status_text status = codes "status " ++ decimal status

abbrev pub line_about : ℕ → Stamped → List ℕ → List ℕ
line_about place command what = line place command.token.editor command.token.seq (kind_word (kind_of_command command.command)) what

abbrev pub line_of : ℕ → Stamped → Ending → List ℕ
line_of place command (Done id) = []
line_of place command (Refused fault) = line_about place command (fault_text fault)
line_of place command (NotTaken status) = line_about place command (status_text status)

-- from a place on
abbrev pub lines_from : ℕ → List Stamped → List Ending → List ℕ
lines_from place [] endings = []
lines_from place (command ∷ commands) [] = []
lines_from place (command ∷ commands) (ending ∷ endings) = line_of place command ending ++ lines_from (suc place) commands endings

unfoldable pub counts_line : Counts → List ℕ
counts_line c =
    decimal c.done ++ (codes " done, " ++ (decimal c.refused ++ (codes " refused, " ++ (decimal c.not_taken ++ (codes " not taken, " ++ (decimal c.left ++ codes " left\n"))))))

abbrev pub report_of : List Stamped → List Ending → List ℕ
report_of commands endings = lines_from 0 commands endings ++ counts_line (counts_of (length commands) endings)
