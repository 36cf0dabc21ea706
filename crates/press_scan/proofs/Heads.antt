-- Heads, openings and what follows of them.
use Rattle.std.proofs.Common.{◌≡◌, ◌⊎◌, ℕ, ◌+◌, ◌<◌, ◌≤◌, List, length, Bool, true, false, arith, inl, inr, subst, sym, refl, ◌∙◌}
use Rattle.std.specs.Prelude.{if◌then◌else◌}
use Rattle.std.proofs.lemmas.Bool.{cases_lt}
use Rattle.press_text.specs.Names.{is_name_byte}
use Rattle.press_scan.specs.Places.{At, NoneBetween, NoneFrom}
use Rattle.press_scan.specs.Shortcodes.{IsHead, NoHead, HasShortcode, IsNext}
use Rattle.press_scan.specs.Openings.{IsOpening, IsMade}
use Rattle.press_scan.specs.declared.span.Span.{Span}
use Rattle.press_scan.specs.declared.shortcode.Shortcode.{Shortcode}
use Rattle.press_scan.specs.declared.next.Opening.{Opening}
use Rattle.press_scan.proofs.Firsts.{at_within}

-- a name begins one or two places after its bracket
second_place : (b : Bool) (place k : ℕ) → place ≤ k → k < place + (if b then 2 else 1) → (k ≡ place) ⊎ (b ≡ true) × (k ≡ place + 1)
second_place true place k a below = elim (cases_lt place k) [
  | inl lt ↦ (let e : k ≡ place + 1 = omega arith in inr (refl, e))
  | inr ge ↦ (let e : k ≡ place = omega arith in inl e)
]
second_place false place k a below = (let e : k ≡ place = omega arith in inl e)

at_one : (text : List ℕ) (a b k : ℕ) → At text a k → At text b k → (a ≡ b → ⊥) → ⊥
at_one text a b k p q apart = apart (sym p ∙ q)

-- between the bracket and the end of the name stands no `]`
in_head : (text : List ℕ) (tags : List (List ℕ)) (place : ℕ) (lead : Bool) (tag : Span) → IsHead text tags place lead tag → (k : ℕ) → place ≤ k → k < tag.end → At text 93 k → ⊥
in_head text tags place lead tag head k a below here = elim (cases_lt k tag.start) [
  | inr in_name ↦ head.name.longest.none_before k in_name below (subst (λ (b : ℕ). is_name_byte b ≡ false) (sym here) refl)
  | inl early ↦ (
      let near : k < place + (if lead then 2 else 1) = subst (λ (n : ℕ). k < n) head.follows early in
      elim (second_place lead place k a near) [
        | inl e ↦ at_one text 91 93 place head.bracket (subst (At text 93) e here) (λ e. omega arith)
        | inr p ↦ at_one text 91 93 (place + 1) (head.second p.0) (subst (At text 93) p.1 here) (λ e. omega arith)
      ])
]

-- where no `]` is after a name, none is after its bracket
pub no_bracket : (text : List ℕ) (tags : List (List ℕ)) (place : ℕ) (lead : Bool) (tag : Span) → IsHead text tags place lead tag → NoneFrom (At text 93) tag.end → NoneFrom (At text 93) place
no_bracket text tags place lead tag head none k a here = elim (cases_lt k tag.end) [
  | inl early ↦ in_head text tags place lead tag head k a early here
  | inr late ↦ none k late here
]

starts_before : (b : Bool) (place : ℕ) → place ≤ place + (if b then 2 else 1)
starts_before true place = omega arith
starts_before false place = omega arith

head_before : (text : List ℕ) (tags : List (List ℕ)) (place : ℕ) (lead : Bool) (tag : Span) → IsHead text tags place lead tag → place ≤ tag.end
head_before text tags place lead tag head =
    let a : place ≤ place + (if lead then 2 else 1) = starts_before lead place in
    let b : tag.start ≡ place + (if lead then 2 else 1) = head.follows in
    let d : tag.start < tag.end = head.name.some in
    omega arith

-- no `]` from a place on, no shortcode from there on
pub no_more : (text : List ℕ) (tags : List (List ℕ)) (from place : ℕ) → NoneFrom (At text 93) place → NoneBetween (HasShortcode text tags) from place → NoneFrom (HasShortcode text tags) from
no_more text tags from place none before k a (s, here) = elim (cases_lt k place) [
  | inl early ↦ before k a early (s, here)
  | inr late ↦ (
      let p : k ≤ s.tag.end = head_before text tags k s.lead s.tag here.head in
      let q : s.tag.end ≤ here.rest.close = here.rest.closes.after in
      none here.rest.close (omega arith) here.rest.closes.holds)
]

pub no_head_here : (text : List ℕ) (tags : List (List ℕ)) (k : ℕ) → NoHead text tags k → HasShortcode text tags k → ⊥
no_head_here text tags k none (s, here) = none s.lead s.tag here.head

-- a shortcode begins with a `[`
pub has_bracket : (text : List ℕ) (tags : List (List ℕ)) (k : ℕ) → HasShortcode text tags k → At text 91 k
has_bracket text tags k (s, here) = here.head.bracket

pub shortcode_within : (text : List ℕ) (tags : List (List ℕ)) (k : ℕ) → HasShortcode text tags k → k < length text
shortcode_within text tags k (s, here) = at_within text 91 k (omega arith) here.head.bracket

-- an opening, and the shortcode that it makes
pub made_next : (text : List ℕ) (tags : List (List ℕ)) (from : ℕ) (o : Opening) (s : Shortcode) → IsOpening text tags from o → IsMade text o s → IsNext text tags from s
made_next text tags from o s opening made =
    let head : IsHead text tags s.start s.lead s.tag =
    subst (λ (p : ℕ). IsHead text tags p s.lead s.tag) (sym made.starts)
    (subst (λ (l : Bool). IsHead text tags o.start l s.tag) (sym made.lead)
    (subst (λ (t : Span). IsHead text tags o.start o.head.lead t) (sym made.tag) opening.stands)) in
    record {
      after = subst (λ (p : ℕ). from ≤ p) (sym made.starts) opening.after;
      stands = record { starts = refl; head = head; rest = made.rest };
      none_before = subst (λ (p : ℕ). NoneBetween (HasShortcode text tags) from p) (sym made.starts) opening.none_before;
    }
