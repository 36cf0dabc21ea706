-- A shortcode of a text wherever its name is a tag.
use Rattle.std.proofs.Common.{ℕ, List, arith, refl}
use Rattle.press_scan.specs.Shortcodes.{IsShortcode}
use Rattle.press_scan.specs.Openings.{IsNamed}
use Rattle.press_scan.specs.declared.shortcode.Shortcode.{Shortcode}

pub named_of : (text : List ℕ) (tags : List (List ℕ)) (s : Shortcode) → IsShortcode text tags s.start s → IsNamed text s
named_of text tags s here = record {
  starts = refl;
  head = record {
    bracket = here.head.bracket;
    second = here.head.second;
    follows = here.head.follows;
    name = record { some = here.head.name.some; longest = here.head.name.longest; registered = (0, omega arith, refl) };
  };
  rest = here.rest;
}
