-- The next kit: a kit file of which a kit is built that extends that of an older file (own).
use Rattle.std.specs.Prelude.{◌≡◌, ℕ, List, Ok}
use Rattle.press_kit.specs.KitFile.{kit_in}
use Rattle.press_kit.specs.declared.kit_parts.KitParts.{KitParts}
use Rattle.press_upgrade.specs.Differences.{kit_given}
use Rattle.press_upgrade.specs.Extends.{Extends, IsWhole}

-- the text is read as a whole kit that extends this one
abbrev pub IsExtension : KitParts → List ℕ → Type 0
IsExtension old text = (next : KitParts) × (kit_in text ≡ Ok next) × IsWhole (kit_given next) × Extends (kit_given old) (kit_given next)

abbrev pub IsNext : List ℕ → List ℕ → Type 0
IsNext file text = (old : KitParts) × (kit_in file ≡ Ok old) × IsExtension old text
