-- Folded attributes: as they are, or the text of many.
use Rattle.std.specs.Prelude.{⊤, List}
use Rattle.press_scan.specs.AttributesOf.{attributes_of}
use Rattle.press_scan.specs.Kept.{AreManyOf}
use Rattle.press_scan.specs.declared.att.Att.{Att}
use Rattle.press_scan.specs.declared.folded_atts.Folded.{Folded}
use Rattle.press_scan.specs.declared.folded_atts.Folded.TheVariants.{AsTheyAre, OfText}

abbrev pub folded_atts : Folded → List Att
folded_atts (AsTheyAre atts) = atts
folded_atts (OfText text) = attributes_of text.value

abbrev pub IsFolded : Folded → Type 0
IsFolded (AsTheyAre atts) = ⊤
IsFolded (OfText text) = AreManyOf text.value (attributes_of text.value)
