-- What a kit file comes to: its callbacks and plugins with the slips in them, or the number of its
-- fault and the message about it (own).
use Rattle.std.specs.Prelude.{◌≡◌, ℕ, List, [], Option, Some, None, Result, Ok, Err, string_bytes}
use Rattle.serde_json.specs.Data.{Data}
use Rattle.press_kit.specs.KitFile.{file_in, kit_in}
use Rattle.press_kit.specs.declared.kit_parts.KitParts.{KitParts}
use Rattle.press_kit.specs.declared.place.Place.{Place}
use Rattle.press_lint.specs.Bad.{tell_bad}
use Rattle.press_lint.specs.Mistakes.{mistake_in, tell_mistake, why_number}
use Rattle.press_lint.specs.Slips.{slips}
use Rattle.press_lint.specs.declared.fault.LintFault.{LintFault}
use Rattle.press_lint.specs.declared.fault.LintFault.TheVariants.{NoMemory, Refused}
use Rattle.press_lint.specs.declared.linted.Linted.{Linted}
use Rattle.press_lint.specs.declared.mistake.Mistake.{Mistake}

-- Of a file that is no JSON it is what the reader of JSON says, with line and column.
abbrev pub TellsBad : Result Data Place → Place → List ℕ → Type 0
TellsBad (Ok kit) at text = text ≡ tell_bad kit at
TellsBad (Err place) at text = Unit {0}

abbrev pub TellsMistake : KitParts → Option Mistake → ℕ → List ℕ → Type 0
TellsMistake kit None number text = ⊥
TellsMistake kit (Some m) number text = (number ≡ why_number m.why) × (text ≡ tell_mistake kit m)

-- of a file that can't be read as a kit, by whether it is JSON at all
abbrev pub TellsFile : List ℕ → Result KitParts Place → ℕ → List ℕ → Type 0
TellsFile bytes (Err at) number text = (number ≡ 73) × TellsBad (file_in bytes) at text
TellsFile bytes (Ok kit) number text = TellsMistake kit (mistake_in kit) number text

-- a kit that was read, with a prefix for each slip; out of memory may come at any time
abbrev pub LintsKit : List ℕ → KitParts → Result Linted LintFault → Type 0
LintsKit front kit (Ok linted) = (linted.parts ≡ kit) × (mistake_in kit ≡ None) × (string_bytes linted.slips ≡ slips front kit [])
LintsKit front kit (Err NoMemory) = Unit {0}
LintsKit front kit (Err (Refused number text)) = TellsMistake kit (mistake_in kit) number (string_bytes text)

-- a file
abbrev pub Lints : List ℕ → List ℕ → Result Linted LintFault → Type 0
Lints front bytes (Ok linted) = (kit_in bytes ≡ Ok linted.parts) × LintsKit front linted.parts (Ok linted)
Lints front bytes (Err NoMemory) = Unit {0}
Lints front bytes (Err (Refused number text)) = TellsFile bytes (kit_in bytes) number (string_bytes text)
