-- A step that takes the front.
use Rattle.std.proofs.Common.{◌≡◌, ◌⊎◌, ℕ, ◌<◌, List, ◌++◌, length, arith, inl, inr, subst, sym, refl, None}
use Rattle.std.specs.Prelude.{slice_range}
use Rattle.press_scan.specs.Places.{NoneBetween, NoneFrom}
use Rattle.press_scan.specs.Shortcodes.{HasShortcode, IsNext}
use Rattle.press_scan.specs.Scans.{Progress, TakesText}
use Rattle.press_scan.specs.declared.shortcode.Shortcode.{Shortcode}

abbrev pub front_to : Progress → ℕ → Progress
front_to old to = record old { at = to; output = old.output ++ slice_range old.text old.at to }

takes_to : (tags : List (List ℕ)) (old : Progress) (to : ℕ) → old.waiting ≡ None → old.at < to → NoneBetween (HasShortcode old.text tags) old.at to → (to ≡ length old.text) ⊎ HasShortcode old.text tags to → TakesText tags old (front_to old to)
takes_to tags old to waits more none first = record { text = refl; more = more; waiting = waits; takes = inl (record { output = refl; none = none; first = first }) }

pub takes_all : (tags : List (List ℕ)) (old new : Progress) (to : ℕ) → to ≡ length old.text → new ≡ front_to old to → old.waiting ≡ None → old.at < length old.text → NoneFrom (HasShortcode old.text tags) old.at → TakesText tags old new
takes_all tags old new to all e waits more none = subst (λ (p : Progress). TakesText tags old p) (sym e) (takes_to tags old to waits (omega arith) (λ k a b here. none k a here) (inl all))

pub takes_front : (tags : List (List ℕ)) (old new : Progress) (s : Shortcode) → new ≡ front_to old s.start → old.waiting ≡ None → old.at < s.start → IsNext old.text tags old.at s → TakesText tags old new
takes_front tags old new s e waits more next = subst (λ (p : Progress). TakesText tags old p) (sym e) (takes_to tags old s.start waits more next.none_before (inr (s, next.stands)))
