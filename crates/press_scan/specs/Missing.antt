-- What a scan remembers of closing tags.
use Rattle.std.specs.Prelude.{ℕ, ◌≤◌, List, length, All}
use Rattle.press_scan.specs.Places.{NoneFrom}
use Rattle.press_scan.specs.Shortcodes.{IsClosing, cut}
use Rattle.press_scan.specs.declared.missing.Missing.{Missing}

-- the name is a part of the text, and no closing tag of it is at or after `from`
abbrev pub IsMissing : List ℕ → Missing → Type 0
IsMissing text m = (m.name.start ≤ m.name.end) × (m.name.end ≤ length text) × NoneFrom (IsClosing text (cut text m.name)) m.from

abbrev pub AreMissing : List ℕ → List Missing → Type 0
AreMissing text ms = All (IsMissing text) ms
