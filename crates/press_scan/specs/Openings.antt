-- What the code finds on its way to a shortcode.
use Rattle.std.specs.Prelude.{◌≡◌, ℕ, ◌+◌, ◌-◌, ◌≤◌, List, [], ◌∷◌, true}
use Rattle.std.specs.Str.{IsCharBoundary}
use Rattle.press_scan.specs.Places.{At, IsFirst, NoneBetween}
use Rattle.press_scan.specs.Shortcodes.{IsHead, IsRest, IsShortcode, HasShortcode, cut}
use Rattle.press_scan.specs.declared.shortcode.Shortcode.{Shortcode}
use Rattle.press_scan.specs.declared.next.Opening.{Opening}

-- The opening of the first shortcode at or after `from`: a head, and the first `]` after it.
pub record IsOpening (text : List ℕ) (tags : List (List ℕ)) (from : ℕ) (o : Opening) : Type 0 where
  pub after : from ≤ o.start
  pub stands : IsHead text tags o.start o.head.lead o.head.tag
  pub closes : IsFirst (At text 93) o.head.tag.end o.close
  pub none_before : NoneBetween (HasShortcode text tags) from o.start

-- the shortcode that such an opening makes
pub record IsMade (text : List ℕ) (o : Opening) (s : Shortcode) : Type 0 where
  pub starts : s.start ≡ o.start
  pub lead : s.lead ≡ o.head.lead
  pub tag : s.tag ≡ o.head.tag
  pub rest : IsRest text s

-- a shortcode of the text, wherever its name is a tag
abbrev pub IsNamed : List ℕ → Shortcode → Type 0
IsNamed text s = IsShortcode text (cut text s.tag ∷ []) s.start s

-- where a text may be cut at a shortcode
pub record HasEdges (text : List ℕ) (s : Shortcode) : Type 0 where
  pub order : s.start + 2 ≤ s.end
  pub first : IsCharBoundary text (s.start + 1)
  pub last : s.tail ≡ true → IsCharBoundary text (s.end - 1)
  pub end : IsCharBoundary text s.end
