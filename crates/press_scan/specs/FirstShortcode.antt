-- The first shortcode of a text as a computation (Shortcode API). It says the same as the relation `IsNext`.
use Rattle.std.specs.Prelude.{ℕ, zero, suc, ◌+◌, ◌-◌, ◌==◌, ◌&&◌, List, length, Bool, true, false, not, ltb, bytes_eq, Option, Some, None, slice_index, slice_range, if◌then◌else◌}
use Rattle.std.specs.List.{list_any}
use Rattle.press_text.specs.Names.{is_name_byte}
use Rattle.press_scan.specs.Seeking.{first_from, first_place}
use Rattle.press_scan.specs.Shortcodes.{cut}
use Rattle.press_scan.specs.declared.span.Span.{Span}
use Rattle.press_scan.specs.declared.shortcode.Shortcode.{Shortcode}

-- whether the byte b is at a place
abbrev pub stands : List ℕ → ℕ → ℕ → Bool
stands text b place = slice_index text place == b

abbrev pub stops_name : List ℕ → ℕ → Bool
stops_name text place = not (is_name_byte (slice_index text place))

-- the longest run of name bytes from a place
abbrev pub name_from : List ℕ → ℕ → Span
name_from text start = record { start = start; end = first_from (stops_name text) start (length text) }

-- whether a second `[` is after a place
abbrev pub has_lead : List ℕ → ℕ → Bool
has_lead text place = stands text 91 (place + 1)

-- the name after the brackets at a place
abbrev pub name_at : List ℕ → ℕ → Span
name_at text place = name_from text (place + (if has_lead text place then 2 else 1))

-- whether that is the name of a tag
abbrev pub is_registered : List (List ℕ) → List ℕ → Span → Bool
is_registered tags text tag = ltb tag.start tag.end && list_any (bytes_eq (cut text tag)) tags

-- whether a bracket and the name of a tag are at a place
abbrev pub opens : List ℕ → List (List ℕ) → ℕ → Bool
opens text tags place = elim (stands text 91 place) [ true ↦ is_registered tags text (name_at text place) | false ↦ false ]

-- whether `/name]` is after a place
abbrev pub closes_after : List ℕ → List ℕ → ℕ → Bool
closes_after text name place = stands text 47 (place + 1) && (bytes_eq (slice_range text (place + 2) (place + 2 + length name)) name && stands text 93 (place + 2 + length name))

-- whether `[/name]` is at a place
abbrev pub closes_tag : List ℕ → List ℕ → ℕ → Bool
closes_tag text name place = elim (stands text 91 place) [ true ↦ closes_after text name place | false ↦ false ]

-- the shortcode that ends before `after`, with its optional second bracket
abbrev pub shortcode_ending_at : List ℕ → ℕ → Span → ℕ → Option Span → ℕ → Shortcode
shortcode_ending_at text place tag atts_end content after = record {
  start = place;
  end = after + (if stands text 93 after then 1 else 0);
  lead = has_lead text place;
  tag = tag;
  atts = record { start = tag.end; end = atts_end };
  content = content;
  tail = stands text 93 after;
}

-- the content runs to the first `[/name]`, where there is one
abbrev pub with_content : List ℕ → ℕ → Span → ℕ → Option ℕ → Shortcode
with_content text place tag close None = shortcode_ending_at text place tag close None (close + 1)
with_content text place tag close (Some closing) = shortcode_ending_at text place tag close (Some (record { start = close + 1; end = closing })) (closing + 3 + length (cut text tag))

-- a `/` before the `]` closes the tag itself
abbrev pub with_close : List ℕ → ℕ → Span → ℕ → Shortcode
with_close text place tag close = elim (stands text 47 (close - 1)) [
  | true ↦ shortcode_ending_at text place tag (close - 1) None (close + 1)
  | false ↦ with_content text place tag close (first_place (closes_tag text (cut text tag)) (close + 1) (length text))
]

-- without a `]` there is no shortcode
abbrev pub with_closes : List ℕ → ℕ → Span → Option ℕ → Option Shortcode
with_closes text place tag None = None
with_closes text place tag (Some close) = Some (with_close text place tag close)

-- the shortcode at a place
abbrev pub shortcode_at : List ℕ → List (List ℕ) → ℕ → Option Shortcode
shortcode_at text tags place = elim (opens text tags place) [
  | true ↦ with_closes text place (name_at text place) (first_place (stands text 93) (name_at text place).end (length text))
  | false ↦ None
]

-- the first of so many places that has one
abbrev pub first_shortcode : List ℕ → List (List ℕ) → ℕ → ℕ → Option Shortcode
first_shortcode text tags from zero = None
first_shortcode text tags from (suc n) = elim (shortcode_at text tags from) [ Some s ↦ Some s | None ↦ first_shortcode text tags (from + 1) n ]

-- the first shortcode at or after a place
unfoldable pub shortcode_from : List ℕ → List (List ℕ) → ℕ → Option Shortcode
shortcode_from text tags from = first_shortcode text tags from (length text)
