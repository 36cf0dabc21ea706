-- Shortcode at a place (the Shortcode API): what is at a place of a text, under a set of tags.
use Rattle.std.specs.Prelude.{◌≡◌, ℕ, ◌+◌, ◌-◌, ◌<◌, ◌≤◌, ◌⊎◌, List, length, Bool, true, false, Some, None, Contains, slice_range, if◌then◌else◌}
use Rattle.press_scan.specs.Places.{At, AtNoName, IsFirst, NoneBetween, NoneFrom}
use Rattle.press_scan.specs.declared.span.Span.{Span}
use Rattle.press_scan.specs.declared.shortcode.Shortcode.{Shortcode}

-- the bytes of the text that a span names
abbrev pub cut : List ℕ → Span → List ℕ
cut text span = slice_range text span.start span.end

-- The span is a registered name: the longest run of `[A-Za-z0-9_-]` from its start, and one of the tags.
pub record IsTag (text : List ℕ) (tags : List (List ℕ)) (tag : Span) : Type 0 where
  pub some : tag.start < tag.end
  pub longest : IsFirst (AtNoName text) tag.start tag.end
  pub registered : Contains tags (cut text tag)

-- `[`, an optional second `[`, and a registered name
pub record IsHead (text : List ℕ) (tags : List (List ℕ)) (place : ℕ) (lead : Bool) (tag : Span) : Type 0 where
  pub bracket : At text 91 place
  pub second : lead ≡ true → At text 91 (place + 1)
  pub follows : tag.start ≡ place + (if lead then 2 else 1)
  pub name : IsTag text tags tag

-- nothing of the kind
abbrev pub NoHead : List ℕ → List (List ℕ) → ℕ → Type 0
NoHead text tags place = (lead : Bool) (tag : Span) → IsHead text tags place lead tag → ⊥

-- `[/name]` is at the place p
pub record IsClosing (text name : List ℕ) (p : ℕ) : Type 0 where
  pub bracket : At text 91 p
  pub slash : At text 47 (p + 1)
  pub between : slice_range text (p + 2) (p + 2 + length name) ≡ name
  pub end : At text 93 (p + 2 + length name)

-- `[name atts/]`: the byte before the first `]` is a `/`, which is no part of the attributes.
pub record IsSelfClosing (text : List ℕ) (close : ℕ) (s : Shortcode) (after : ℕ) : Type 0 where
  pub slash : At text 47 (close - 1)
  pub atts : s.atts.end + 1 ≡ close
  pub content : s.content ≡ None
  pub ends : after ≡ close + 1

-- `[name atts]content[/name]`: the content runs to the first `[/name]` after the `]`.
pub record IsEnclosing (text : List ℕ) (close : ℕ) (s : Shortcode) (after : ℕ) : Type 0 where
  pub no_slash : At text 47 (close - 1) → ⊥
  pub atts : s.atts.end ≡ close
  pub closing : ℕ
  pub first : IsFirst (IsClosing text (cut text s.tag)) (close + 1) closing
  pub content : s.content ≡ Some (record { start = close + 1; end = closing })
  pub ends : after ≡ closing + 3 + length (cut text s.tag)

-- `[name atts]` alone: there is no `[/name]` after it.
pub record IsAlone (text : List ℕ) (close : ℕ) (s : Shortcode) (after : ℕ) : Type 0 where
  pub no_slash : At text 47 (close - 1) → ⊥
  pub atts : s.atts.end ≡ close
  pub no_closing : NoneFrom (IsClosing text (cut text s.tag)) (close + 1)
  pub content : s.content ≡ None
  pub ends : after ≡ close + 1

-- What follows the name: text to the first `]`, one of the three forms, an optional second `]`.
pub record IsRest (text : List ℕ) (s : Shortcode) : Type 0 where
  pub close : ℕ
  pub closes : IsFirst (At text 93) s.tag.end close
  pub atts : s.atts.start ≡ s.tag.end
  pub after : ℕ
  pub form : IsSelfClosing text close s after ⊎ IsEnclosing text close s after ⊎ IsAlone text close s after
  pub tail : s.tail ≡ true → At text 93 after
  pub no_tail : s.tail ≡ false → At text 93 after → ⊥
  pub ends : s.end ≡ after + (if s.tail then 1 else 0)

-- The shortcode s is at the place. With both second brackets it is an escape.
pub record IsShortcode (text : List ℕ) (tags : List (List ℕ)) (place : ℕ) (s : Shortcode) : Type 0 where
  pub starts : s.start ≡ place
  pub head : IsHead text tags place s.lead s.tag
  pub rest : IsRest text s

-- some shortcode is at the place
abbrev pub HasShortcode : List ℕ → List (List ℕ) → ℕ → Type 0
HasShortcode text tags place = (s : Shortcode) × IsShortcode text tags place s

-- s is the first shortcode at or after `from`
pub record IsNext (text : List ℕ) (tags : List (List ℕ)) (from : ℕ) (s : Shortcode) : Type 0 where
  pub after : from ≤ s.start
  pub stands : IsShortcode text tags s.start s
  pub none_before : NoneBetween (HasShortcode text tags) from s.start
