-- The parts of a shortcode are cut between characters, so each is a text.
use Rattle.std.specs.Prelude.{◌≡◌, ℕ, ◌≤◌, List, Some}
use Rattle.std.specs.Str.{IsCharBoundary}
use Rattle.press_scan.specs.declared.span.Span.{Span}
use Rattle.press_scan.specs.declared.shortcode.Shortcode.{Shortcode}

pub record IsPart (text : List ℕ) (span : Span) : Type 0 where
  pub order : span.start ≤ span.end
  pub start : IsCharBoundary text span.start
  pub end : IsCharBoundary text span.end

pub record HasParts (text : List ℕ) (s : Shortcode) : Type 0 where
  pub whole : s.start ≤ s.end
  pub start : IsCharBoundary text s.start
  pub end : IsCharBoundary text s.end
  pub tag : IsPart text s.tag
  pub atts : IsPart text s.atts
  pub content : (span : Span) → s.content ≡ Some span → IsPart text span
