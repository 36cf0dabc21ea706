-- What the file of a site keeps of its kit: the bytes of the kit files, each behind its length, and in front of them all their digest; of the demonstration kit no file (own; SHA-256: FIPS
-- 180-4).
use Rattle.std.specs.Prelude.{◌≡◌, ◌<◌, ◌^◌, ℕ, List, [], ◌∷◌, ◌++◌, bytes_eq, drop, if◌then◌else◌, length, map, take, Option, None, Some, Ok, Err}
use Rattle.std.specs.List.{AllByRecursion}
use Rattle.sha2.specs.Sha256.{sha256}
use Rattle.press_callbacks.specs.declared.script.Op.{Op}
use Rattle.press_demonstration.specs.Demonstration as demonstration
use Rattle.press_kit.specs.declared.kit_parts.KitParts.{KitParts}
use Rattle.press_kit.specs.declared.place.Place.{Place}
use Rattle.press_lint.specs.Joints.{File, Joint, read_together}
use Rattle.press_wire.specs.Spelling.{number4}

-- the length of each has four bytes
abbrev pub AreShort : List (List ℕ) → Type 0
AreShort files = AllByRecursion (λ bytes. length bytes < 2 ^ 32) files

abbrev pub with_file : List ℕ → List ℕ → List ℕ
with_file kept bytes = kept ++ (number4 (length bytes) ++ bytes)

abbrev pub files_bytes : List (List ℕ) → List ℕ
files_bytes [] = []
files_bytes (bytes ∷ files) = number4 (length bytes) ++ (bytes ++ files_bytes files)

unfoldable pub kept_kit : List (List ℕ) → List ℕ
kept_kit files = sha256 (files_bytes files) ++ files_bytes files

-- the bytes behind their digest, where it is theirs
unfoldable pub unsealed : List ℕ → Option (List ℕ)
unsealed kept = if bytes_eq (take 32 kept) (sha256 (drop 32 kept)) then Some (drop 32 kept) else None

-- ---- which kit it is

abbrev pub demonstration_parts : KitParts
demonstration_parts = record { callbacks = map (λ (c : List ℕ × List Op). record { id = c.0; script = c.1 }) demonstration.scripts; plugins = demonstration.plugins }

-- what files give together; without any, the demonstration kit
abbrev pub IsOfFiles : List File → KitParts → Type 0
IsOfFiles [] kit = kit ≡ demonstration_parts
IsOfFiles (file ∷ files) kit = (joint : Joint) × (read_together (file ∷ files) ≡ Ok joint) × (joint.kit ≡ kit)

abbrev pub AreBad : List File → Type 0
AreBad files = (bad : File × Place) × (read_together files ≡ Err bad)

-- a file whose name nobody knows
abbrev pub nameless : List ℕ → File
nameless bytes = record { name = []; bytes = bytes }

abbrev pub IsOfKept : List (List ℕ) → KitParts → Type 0
IsOfKept files kit = IsOfFiles (map nameless files) kit
