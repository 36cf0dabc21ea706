-- How attributes are kept: as they were listed, or each value under its key.
use Rattle.std.specs.Prelude.{◌≡◌, ⊤, ℕ, ◌<◌, ◌^◌, List, length}
use Rattle.press_scan.specs.declared.att.Att.{Att}
use Rattle.press_scan.specs.declared.kept.Kept.{Kept}
use Rattle.press_scan.specs.declared.kept.Kept.TheVariants.{Listed, Keyed}
use Rattle.press_scan.specs.Entries.{atts_of, AreBefore}
use Rattle.press_scan.specs.AttributesOf.{attributes_of}

abbrev pub kept_atts : Kept → List Att
kept_atts (Listed atts) = atts.items
kept_atts (Keyed atts) = atts_of atts.value.entries

-- each number under which one is kept is below the next one
abbrev pub IsNumbered : ℕ → Kept → Type 0
IsNumbered next (Listed atts) = ⊤
IsNumbered next (Keyed atts) = AreBefore next atts.value.entries

-- many attributes of a text, of which they can be told again
abbrev pub AreManyOf : List ℕ → List Att → Type 0
AreManyOf text atts = (atts ≡ attributes_of text) × (length text < 2 ^ 32) × (64 < length atts)
