-- Worked rows: what the definitions give for small texts.
use Rattle.std.proofs.Common.{◌≡◌, ℕ, List, [], ◌∷◌, Bool, true, false, Option, Some, None, refl}
use Rattle.std.specs.Prelude.{codes}
use Rattle.press_scan.specs.Tags.{names_of, remove_tag}
use Rattle.press_scan.specs.FirstShortcode.{shortcode_from}
use Rattle.press_scan.specs.AttributesOf.{attributes_of}
use Rattle.press_scan.specs.declared.span.Span.{Span}
use Rattle.press_scan.specs.declared.shortcode.Shortcode.{Shortcode}
use Rattle.press_scan.specs.declared.tag_row.TagRow.{TagRow}
use Rattle.press_scan.specs.declared.att.Att.{Att}
use Rattle.press_scan.specs.declared.att_key.AttKey.TheVariants.{Name, Place}

abbrev span : ℕ → ℕ → Span
span start end = record { start = start; end = end }

abbrev found : ℕ → ℕ → Bool → Span → Span → Option Span → Bool → Option Shortcode
found start end lead tag atts content tail = Some (record { start = start; end = end; lead = lead; tag = tag; atts = atts; content = content; tail = tail })

abbrev nothing : Option Shortcode
nothing = None

abbrev first : List ℕ → Option Shortcode
first text = shortcode_from text (codes "t" ∷ []) 0

-- ---- brackets

pub an_escape : first (codes "[[t]]") ≡ found 0 5 true (span 2 3) (span 3 3) None true
unfolding shortcode_from
an_escape = refl

pub a_lead_alone : first (codes "[[t]") ≡ found 0 4 true (span 2 3) (span 3 3) None false
unfolding shortcode_from
a_lead_alone = refl

pub an_escape_in_brackets : first (codes "[[[t]]]") ≡ found 1 6 true (span 3 4) (span 4 4) None true
unfolding shortcode_from
an_escape_in_brackets = refl

pub a_content_with_a_bracket : first (codes "[[t]] u [/t]") ≡ found 0 12 true (span 2 3) (span 3 3) (Some (span 4 8)) false
unfolding shortcode_from
a_content_with_a_bracket = refl

-- ---- attributes

abbrev named : List ℕ → List ℕ → Att
named name value = record { key = Name name; value = value }

abbrev numbered : ℕ → List ℕ → Att
numbered place value = record { key = Place place; value = value }

-- ` x=1 x="2" y X='3'`
pub the_last_value : attributes_of (codes " x=1 x=\"2\" y X='3'") ≡ named (codes "x") (codes "3") ∷ numbered 0 (codes "y") ∷ []
unfolding attributes_of
the_last_value = refl

-- ` a="1"b`
pub a_quote_goes_on : attributes_of (codes " a=\"1\"b") ≡ numbered 0 (codes "a=\"1\"b") ∷ []
unfolding attributes_of
a_quote_goes_on = refl

-- ` "" z`
pub an_empty_value : attributes_of (codes " \"\" z") ≡ numbered 0 (codes "z") ∷ []
unfolding attributes_of
an_empty_value = refl

-- ---- near misses

pub no_bracket : first (codes "[t") ≡ nothing
unfolding shortcode_from
no_bracket = refl

pub a_longer_name : first (codes "[tt]") ≡ nothing
unfolding shortcode_from
a_longer_name = refl

pub a_dash : first (codes "[t-2]") ≡ nothing
unfolding shortcode_from
a_dash = refl

pub two_slashes : first (codes "[t//]") ≡ found 0 5 false (span 1 2) (span 2 3) None false
unfolding shortcode_from
two_slashes = refl

abbrev only_t : List TagRow
only_t = record { name = codes "t"; callback = codes "answers" } ∷ []

pub a_removed_tag : shortcode_from (codes "[t]") (names_of (remove_tag (codes "t") only_t)) 0 ≡ nothing
unfolding shortcode_from
a_removed_tag = refl
