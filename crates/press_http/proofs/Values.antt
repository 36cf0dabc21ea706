-- The values of the fields that are still to be looked at.
use Rattle.std.proofs.Common.{◌≡◌, ℕ, ◌+◌, ◌<◌, List, ◌∷◌, map, length, drop, get_or}
use Rattle.std.proofs.lemmas.List.{at_drop_more}
use Rattle.httparse.specs.declared.spans.HeaderSpan.{HeaderSpan}
use Rattle.httparse.specs.Spans.{header_bytes}
use Rattle.press_http.specs.Bodies.{values_of}

pub next_value : (name buf : List ℕ) (fields : List HeaderSpan) (i : ℕ) (d : HeaderSpan) → i < length fields
    → values_of name (map (header_bytes buf) (drop i fields)) ≡ values_of name (header_bytes buf (get_or fields i d) ∷ map (header_bytes buf) (drop (i + 1) fields))
next_value name buf fields i d h = at_drop_more (λ (l : List HeaderSpan). values_of name (map (header_bytes buf) l)) fields i d h
