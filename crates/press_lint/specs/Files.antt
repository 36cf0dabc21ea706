-- What the author of several kit files is told of the kit that they make together: the file, and
-- the place within that file (own).
use Rattle.std.specs.Prelude.{◌≡◌, ℕ, ◌+◌, ◌-◌, List, [], ◌∷◌, ◌++◌, Bool, false, if◌then◌else◌, nat_lt, count_by, drop, take, Option, Some, None, Result, Ok, Err, codes, string_bytes}
use Rattle.press_callbacks.specs.Kits.{is_named}
use Rattle.press_callbacks.specs.declared.plugin.Plugin.{Plugin}
use Rattle.press_kit.specs.KitFile.{file_in}
use Rattle.press_kit.specs.declared.kit_parts.KitParts.{KitParts}
use Rattle.press_kit.specs.declared.kit_parts.Scripted.{Scripted}
use Rattle.press_kit.specs.declared.place.Place.{Place}
use Rattle.press_kit.specs.declared.place.Place.TheVariants as place
use Rattle.press_lint.specs.Joints.{File, Joint, Share}
use Rattle.press_lint.specs.Lints.{TellsBad}
use Rattle.press_lint.specs.Mistakes.{is_of, mistake_in, tell_mistake, most_of, why_number}
use Rattle.press_lint.specs.Slips.{along, callback_slips, plugin_slips}
use Rattle.press_lint.specs.Told.{name_at}
use Rattle.press_lint.specs.declared.files.FilesFault.{FilesFault}
use Rattle.press_lint.specs.declared.files.FilesFault.TheVariants.{NoMemory, Refused}
use Rattle.press_lint.specs.declared.mistake.Mistake.{Mistake}
use Rattle.press_lint.specs.declared.mistake.Sort.{Sort}
use Rattle.press_lint.specs.declared.mistake.Why.{Why}
use Rattle.press_lint.specs.declared.mistake.Why.TheVariants.{SameName, BuiltInName, Unknown, TooMany}
use Rattle.press_lint.specs.declared.telling.FileMessage as told
use Rattle.press_lint.specs.declared.turning.Side.{Side}
use Rattle.press_lint.specs.declared.turning.Side.TheVariants.{Own, Behind}

-- ---- shares, the first of which has the first callbacks and the first plugins

-- the kit with a first share at its end
abbrev pub turn_parts : Share → KitParts → KitParts
turn_parts s kit = record {
  callbacks = drop s.callbacks kit.callbacks ++ take s.callbacks kit.callbacks;
  plugins = drop s.plugins kit.plugins ++ take s.plugins kit.plugins;
}

-- an item among the first so many, or counted from behind them
abbrev pub side_by_count : ℕ → (ℕ → Place) → ℕ → Side
side_by_count many at n = if nat_lt n many then Own (at n) else Behind (at (n - many))

-- a place in a first share, or counted from behind it
abbrev pub side_of : Share → Place → Side
side_of s (place.Callback n) = side_by_count s.callbacks (λ c. place.Callback c) n
side_of s (place.Op n o) = side_by_count s.callbacks (λ c. place.Op c o) n
side_of s (place.Plugin n) = side_by_count s.plugins (λ p. place.Plugin p) n
side_of s (place.Load n l) = side_by_count s.plugins (λ p. place.Load p l) n
side_of s place.File = Own place.File
side_of s place.Callbacks = Own place.Callbacks
side_of s place.Plugins = Own place.Plugins
side_of s place.Active = Own place.Active
side_of s (place.ActiveName n) = Own (place.ActiveName n)
side_of s place.Commands = Own place.Commands
side_of s (place.Command n) = Own (place.Command n)
side_of s place.Pages = Own place.Pages
side_of s (place.Page n) = Own (place.Page n)
side_of s place.Plays = Own place.Plays
side_of s (place.Play n) = Own (place.Play n)
side_of s place.Steps = Own place.Steps
side_of s (place.Step n) = Own (place.Step n)

-- ---- a name that two files have

-- whether a first share has a callback, or else a plugin, of that name, by what is at a place
abbrev pub has_name : Place → List ℕ → Share → KitParts → Bool
has_name (place.Callback n) name s kit = is_named (λ (c : Scripted). c.id) (take s.callbacks kit.callbacks) name
has_name (place.Plugin n) name s kit = is_named (λ (p : Plugin). p.name) (take s.plugins kit.plugins) name
has_name (place.Op c o) name s kit = false
has_name (place.Load p l) name s kit = false
has_name place.File name s kit = false
has_name place.Callbacks name s kit = false
has_name place.Plugins name s kit = false
has_name place.Active name s kit = false
has_name (place.ActiveName n) name s kit = false
has_name place.Commands name s kit = false
has_name (place.Command n) name s kit = false
has_name place.Pages name s kit = false
has_name (place.Page n) name s kit = false
has_name place.Plays name s kit = false
has_name (place.Play n) name s kit = false
has_name place.Steps name s kit = false
has_name (place.Step n) name s kit = false

-- the first of these shares that has it
unfoldable pub sharer : Place → List ℕ → List Share → KitParts → Option (List ℕ)
sharer at name [] kit = None
sharer at name (s ∷ ss) kit = if has_name at name s kit then Some s.file else sharer at name ss (turn_parts s kit)

abbrev pub tell_sharer : Option (List ℕ) → List ℕ
tell_sharer None = []
tell_sharer (Some file) = codes " (" ++ (file ++ codes " has it too)")

abbrev pub tell_named : Place → Option (List ℕ) → List Share → KitParts → List ℕ
tell_named at None ss kit = []
tell_named at (Some name) ss kit = tell_sharer (sharer at name ss kit)

-- behind the message about a mistake in a first share, with the shares behind it: which other file
-- has the same name
abbrev pub tell_also : Why → Place → Share → List Share → KitParts → List ℕ
tell_also SameName at s ss kit = tell_named at (name_at kit at) ss (turn_parts s kit)
tell_also BuiltInName at s ss kit = []
tell_also (Unknown id) at s ss kit = []
tell_also (TooMany sort) at s ss kit = []

-- ---- the message about a mistake

-- the plugin with whose loads there are more of a sort than are left
abbrev pub plugin_past_limit : Sort → ℕ → ℕ → List Plugin → ℕ
plugin_past_limit sort n left [] = n
plugin_past_limit sort n left (p ∷ ps) = if nat_lt left (count_by (is_of sort) p.load) then n else plugin_past_limit sort (n + 1) (left - count_by (is_of sort) p.load) ps

-- by what the file of a mistake is found: too many loads are those of the file that goes past what
-- a kit may have
abbrev pub sought_at : KitParts → Why → Place → Place
sought_at kit (TooMany sort) at = place.Plugin (plugin_past_limit sort 0 (most_of sort) kit.plugins)
sought_at kit SameName at = at
sought_at kit BuiltInName at = at
sought_at kit (Unknown id) at = at

-- where a mistake is told: at its place in the file, or what it says of all plugins at their list
abbrev pub shown_by : Why → Place → Place → Place
shown_by (TooMany sort) whole at = whole
shown_by SameName whole at = at
shown_by BuiltInName whole at = at
shown_by (Unknown id) whole at = at

-- the message about a mistake, with its file
pub record FileMessage : Type 0 where
  pub file : List ℕ
  pub text : List ℕ

abbrev pub message_of : told.FileMessage → FileMessage
message_of m = record { file = m.file.now; text = string_bytes m.text }

abbrev pub tell_at : KitParts → Mistake → Place → List ℕ
tell_at kit m at = tell_mistake kit (record { at = shown_by m.why m.at at; why = m.why })

-- whatever is behind all other shares is of the last one
abbrev pub side_before : List Share → Share → Place → Side
side_before [] s at = Own at
side_before (next ∷ ss) s at = side_of s at

abbrev pub message_by : Side → (Place → FileMessage) → (Place → FileMessage) → FileMessage
message_by (Own at) own behind = own at
message_by (Behind at) own behind = behind at

abbrev pub tell_own : Mistake → Share → List Share → KitParts → Place → FileMessage
tell_own m s ss kit at = record { file = s.file; text = tell_at kit m at ++ tell_also m.why at s ss kit }

-- share after share; of no file the message is that of the kit
unfoldable pub message_from : Mistake → Place → List Share → KitParts → FileMessage
message_from m at [] kit = record { file = []; text = tell_at kit m at }
message_from m at (s ∷ ss) kit = message_by (side_before ss s at) (tell_own m s ss kit) (λ rest. message_from m rest ss (turn_parts s kit))

abbrev pub message_about : Joint → Mistake → FileMessage
message_about joint m = message_from m (sought_at joint.kit m.why m.at) joint.shares joint.kit

-- ---- slips

-- of a first share, in the whole kit
abbrev pub first_slips : List ℕ → Share → KitParts → List ℕ
first_slips front s kit =
    along (callback_slips front kit []) 0 (take s.callbacks kit.callbacks) ++ along (plugin_slips front kit []) 0 (take s.plugins kit.plugins)

abbrev pub file_front : List ℕ → List ℕ → List ℕ
file_front before file = before ++ (file ++ codes ": ")

-- file after file, each with its name behind a prefix
unfoldable pub slips_from : List ℕ → List Share → KitParts → List ℕ
slips_from before [] kit = []
slips_from before (s ∷ ss) kit = first_slips (file_front before s.file) s kit ++ slips_from before ss (turn_parts s kit)

-- ---- what files come to

abbrev pub TellsBadFile : File → Place → List ℕ → ℕ → List ℕ → Type 0
TellsBadFile bad at file number text = (file ≡ bad.name) × (number ≡ 73) × TellsBad (file_in bad.bytes) at text

abbrev pub TellsJoint : Joint → Option Mistake → List ℕ → ℕ → List ℕ → Type 0
TellsJoint joint None file number text = ⊥
TellsJoint joint (Some m) file number text = (file ≡ (message_about joint m).file) × (number ≡ why_number m.why) × (text ≡ (message_about joint m).text)

-- the first file that is bad by itself, or else the first mistake of all of them together
abbrev pub TellsFiles : Result Joint (File × Place) → List ℕ → ℕ → List ℕ → Type 0
TellsFiles (Err bad) file number text = TellsBadFile bad.0 bad.1 file number text
TellsFiles (Ok joint) file number text = TellsJoint joint (mistake_in joint.kit) file number text

-- out of memory may come at any time
abbrev pub RefusesFiles : Result Joint (File × Place) → FilesFault → Type 0
RefusesFiles found NoMemory = Unit {0}
RefusesFiles found (Refused file number text) = TellsFiles found file.now number (string_bytes text)

-- none but a file that is bad by itself is refused
abbrev pub RefusesBad : Result Joint (File × Place) → FilesFault → Type 0
RefusesBad found NoMemory = Unit {0}
RefusesBad found (Refused file number text) = (bad : File × Place) × (found ≡ Err bad)

-- the slips of a kit without a mistake
abbrev pub GivesSlips : List ℕ → Result Joint (File × Place) → List ℕ → Type 0
GivesSlips before (Err bad) slips = ⊥
GivesSlips before (Ok joint) slips = (mistake_in joint.kit ≡ None) × (slips ≡ slips_from before joint.shares joint.kit)
