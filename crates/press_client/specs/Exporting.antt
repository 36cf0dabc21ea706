-- What a node has applied, as site files whose commands make the same site (own).
use Rattle.std.specs.Prelude.{ℕ, ◌+◌, ◌-◌, List, [], ◌∷◌, ◌++◌, length, max, nat_eq, nat_le, nat_lt, Bool, ◌&&◌, ◌||◌, string_bytes, if◌then◌else◌, Option, Some, None, codes, decimal}
use Rattle.press_site.specs.declared.token.Token.{Token}
use Rattle.press_client.specs.declared.entry.LogEntry.{LogEntry}
use Rattle.press_client.specs.declared.entry.LogEntry.TheVariants.{Command, Filler}
use Rattle.press_client.specs.declared.site_files.Limits.{Limits}
use Rattle.press_client.specs.declared.site_files.SiteFile.{SiteFile}
use Rattle.press_client.specs.declared.site_files.SiteFiles.{SiteFiles}

-- ---- the texts of commands

-- what an object begins with that has a moment and more
unfoldable pub moment_front : ℕ → List ℕ
moment_front at = codes "{\"at\":" ++ (decimal at ++ codes ",")

-- a command as an object, by its moment and the text of its other fields
abbrev pub command_text : ℕ → List ℕ → List ℕ
command_text at fields = moment_front at ++ fields

-- the fields of a tick, with its token
unfoldable pub tick_fields : List ℕ → ℕ → List ℕ
tick_fields editor seq = codes "\"editor\":\"" ++ (editor ++ (codes "\",\"kind\":\"tick\",\"seq\":" ++ (decimal seq ++ codes "}")))

-- ---- files

-- site files while they are written: those that are whole; the next one as far as it is, and how
-- many commands it has; the latest moment by then, and the token of the command before, if there
-- was one
pub record UnfinishedFiles : Type 0 where
  pub done : List SiteFile
  pub text : List ℕ
  pub commands : ℕ
  pub latest : ℕ
  pub last : Option Token

abbrev pub front : List ℕ
front = codes "{\"commands\":[\n"

abbrev pub end : List ℕ
end = codes "\n]}\n"

-- what stands before a command behind so many
abbrev pub between : ℕ → List ℕ
between commands = if nat_eq commands 0 then codes "" else codes ",\n"

abbrev pub first_file : UnfinishedFiles
first_file = record { done = []; text = front; commands = 0; latest = 0; last = None }

-- a file that ends here
abbrev pub closed_file : List ℕ → ℕ → SiteFile
closed_file text commands = record { text = text ++ end; commands = commands }

abbrev pub next_file : UnfinishedFiles → UnfinishedFiles
next_file w = record w { done = w.done ++ closed_file w.text w.commands ∷ []; text = front; commands = 0 }

-- whether a command with a text of this length goes to the next file as far as it is, with six
-- bytes around it at most; a file takes one at least
abbrev pub fits : Limits → ℕ → UnfinishedFiles → Bool
fits limits count w = nat_eq w.commands 0 || (nat_lt w.commands limits.commands && nat_lt count (limits.bytes - length w.text - 6))

abbrev pub with_text : List ℕ → UnfinishedFiles → UnfinishedFiles
with_text text w = record w { text = w.text ++ (between w.commands ++ text); commands = w.commands + 1 }

-- in that file, or in one behind it
abbrev pub with_command : Limits → List ℕ → UnfinishedFiles → UnfinishedFiles
with_command limits text w = if fits limits (length text) w then with_text text w else with_text text (next_file w)

-- ---- entries

-- the first command has the moments of the fillers before it
abbrev pub moment_for : Option Token → ℕ → ℕ → ℕ
moment_for None latest at = max latest at
moment_for (Some token) latest at = at

abbrev pub put_command : Limits → Token → ℕ → List ℕ → UnfinishedFiles → UnfinishedFiles
put_command limits token at fields w =
    record (with_command limits (command_text (moment_for w.last w.latest at) fields) w) { latest = max w.latest at; last = Some token }

-- a tick under the token of the command before, if there was one
abbrev pub with_tick : Limits → ℕ → Option Token → UnfinishedFiles → UnfinishedFiles
with_tick limits at None w = w
with_tick limits at (Some token) w = with_command limits (command_text at (tick_fields token.editor token.seq)) w

-- a filler moves the site's moment alone, and so does a command under a token that is known
abbrev pub put_filler : Limits → ℕ → UnfinishedFiles → UnfinishedFiles
put_filler limits at w = if nat_le at w.latest then w else record (with_tick limits at w.last w) { latest = at }

abbrev pub with_entry : Limits → LogEntry → UnfinishedFiles → UnfinishedFiles
with_entry limits (Command token at fields) w = put_command limits token at fields w
with_entry limits (Filler at) w = put_filler limits at w

abbrev pub put_all : Limits → List LogEntry → UnfinishedFiles → UnfinishedFiles
put_all limits [] w = w
put_all limits (e ∷ es) w = put_all limits es (with_entry limits e w)

abbrev pub files_in : UnfinishedFiles → List SiteFile
files_in w = w.done ++ closed_file w.text w.commands ∷ []

-- Site files of these entries, each within the limits.
unfoldable pub files_of : Limits → List LogEntry → List SiteFile
files_of limits entries = files_in (put_all limits entries first_file)

-- ---- as they are in memory

abbrev pub writing_of : SiteFiles → UnfinishedFiles
writing_of f = record { done = f.done.items; text = string_bytes f.text; commands = f.commands; latest = f.latest; last = f.last }
