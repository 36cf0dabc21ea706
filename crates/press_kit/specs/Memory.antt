-- What an object has to have before memory is taken for what it gives: the first of its names and texts (own).
-- The value of the file's JSON is there before, with its memory.
use Rattle.std.specs.Prelude.{◌≡◌, ℕ, List, Result, Err, IsOk, codes}
use Rattle.serde_json.specs.Data.{Data}
use Rattle.press_kit.specs.declared.fault.KitFileFault.{KitFileFault}
use Rattle.press_kit.specs.declared.fault.KitFileFault.TheVariants.{NoMemory}
use Rattle.press_kit.specs.declared.place.Place.{Place}
use Rattle.press_kit.specs.declared.place.Place.TheVariants as place
use Rattle.press_kit.specs.declared.play_file.PlayKind.{PlayKind}
use Rattle.press_kit.specs.Fields.{◌>>=◌, or_bad, only, name_at, list_at}
use Rattle.press_kit.specs.KitFile.{hook_load_keys, tag_load_keys, hook_at}
use Rattle.press_kit.specs.PlayFile.{hook_key, keys_of}
use Rattle.press_kit.specs.SiteFile.{few}

-- out of memory comes only where that is read
abbrev pub GrowsBehind : {A B : Type 0} → Result A KitFileFault → Result B Place → Type 0
GrowsBehind result needed = result ≡ Err NoMemory → IsOk needed

-- ---- commands

-- the values of a list that isn't past its limit
unfoldable pub few_at : Data → Result (List Data) Place
few_at d = do
  all ← list_at place.Commands (codes "commands") d
  or_bad place.Commands (few all)

abbrev pub editor_at : Place → Data → Result (List ℕ) Place
editor_at at d = name_at 32 at (codes "editor") d

-- ---- loads and plays

unfoldable pub hook_of_load : Place → Data → Result (List ℕ) Place
hook_of_load at d = do
  whole ← only at hook_load_keys d
  hook_at at whole

unfoldable pub tag_of_load : Place → Data → Result (List ℕ) Place
tag_of_load at d = do
  whole ← only at tag_load_keys d
  name_at 32 at (codes "tag") whole

unfoldable pub hook_of_play : PlayKind → Place → Data → Result (List ℕ) Place
hook_of_play kind at d = do
  whole ← only at (keys_of kind) d
  name_at 64 at (hook_key kind) whole
