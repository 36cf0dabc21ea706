-- The parts of a shortcode are cut between characters.
use Rattle.std.proofs.Common.{◌≡◌, ◌⊎◌, ℕ, ◌+◌, ◌-◌, ◌<◌, ◌≤◌, List, Bool, true, false, arith, inl, inr, subst, sym, refl, ◌∙◌, Option, Some, None}
use Rattle.std.specs.Prelude.{if◌then◌else◌}
use Rattle.std.specs.Str.{IsUtf8, IsCharBoundary}
use Rattle.std.proofs.lemmas.Bool.{cases_lt}
use Rattle.press_text.specs.Names.{is_name_byte}
use Rattle.press_scan.specs.Places.{At, AtNoName, IsFirst}
use Rattle.press_scan.specs.Shortcodes.{IsHead, IsShortcode, IsSelfClosing, IsEnclosing, IsAlone}
use Rattle.press_scan.specs.Openings.{HasEdges}
use Rattle.press_scan.specs.Parts.{IsPart, HasParts}
use Rattle.press_scan.specs.declared.span.Span.{Span}
use Rattle.press_scan.specs.declared.shortcode.Shortcode.{Shortcode}
use Rattle.press_scan.proofs.Cuts.{after_name}
use Rattle.press_scan.proofs.Edges.{before_one, after_one, has_edges}

name_edge : (text : List ℕ) (place start : ℕ) (lead : Bool) → IsUtf8 text → At text 91 place → (lead ≡ true → At text 91 (place + 1)) → start ≡ place + (if lead then 2 else 1) → IsCharBoundary text start
name_edge text place start true u first second e =
    let same : place + 1 + 1 ≡ start = omega arith in
    subst (λ (n : ℕ). IsCharBoundary text n) same (after_one text 91 (place + 1) u (omega arith) (omega arith) (second refl))
name_edge text place start false u first second e = subst (λ (n : ℕ). IsCharBoundary text n) (sym e) (after_one text 91 place u (omega arith) (omega arith) first)

tag_part : (text : List ℕ) (tags : List (List ℕ)) (place : ℕ) (lead : Bool) (tag : Span) → IsUtf8 text → IsHead text tags place lead tag → IsPart text tag
tag_part text tags place lead tag u head =
    let start : IsCharBoundary text tag.start = name_edge text place tag.start lead u head.bracket head.second head.follows in
    let some : tag.start < tag.end = head.name.some in
    record { order = omega arith; start = start; end = after_name text tag.start tag.end u start head.name.longest }

-- the `/` before the `]` is after the name
slash_late : (text : List ℕ) (tag : Span) (close : ℕ) → tag.start < tag.end → IsFirst (AtNoName text) tag.start tag.end → tag.end ≤ close → At text 47 (close - 1) → tag.end + 1 ≤ close
slash_late text tag close some longest late slash = elim (cases_lt tag.end close) [
  | inl lt ↦ omega arith
  | inr ge ↦ (
      let after : tag.start ≤ close - 1 = omega arith in
      let before : close - 1 < tag.end = omega arith in
      absurd (longest.none_before (close - 1) after before (subst (λ (b : ℕ). is_name_byte b ≡ false) (sym slash) refl)))
]

atts_part : (text : List ℕ) (s : Shortcode) (close after : ℕ) → IsUtf8 text → IsPart text s.tag → s.tag.start < s.tag.end → IsFirst (AtNoName text) s.tag.start s.tag.end → IsFirst (At text 93) s.tag.end close → s.atts.start ≡ s.tag.end → IsSelfClosing text close s after ⊎ IsEnclosing text close s after ⊎ IsAlone text close s after → IsPart text s.atts
atts_part text s close after u tag some longest closes start (inl p) =
    let late : s.tag.end + 1 ≤ close = slash_late text s.tag close some longest closes.after p.slash in
    let e : s.atts.end + 1 ≡ close = p.atts in
    let back : close - 1 ≡ s.atts.end = omega arith in
    record {
      order = omega arith;
      start = subst (λ (n : ℕ). IsCharBoundary text n) (sym start) tag.end;
      end = subst (λ (n : ℕ). IsCharBoundary text n) back (before_one text 47 (close - 1) (omega arith) (omega arith) p.slash);
    }
atts_part text s close after u tag some longest closes start (inr (inl p)) = record {
  order = omega (arith, closes.after, p.atts, start);
  start = subst (λ (n : ℕ). IsCharBoundary text n) (sym start) tag.end;
  end = subst (λ (n : ℕ). IsCharBoundary text n) (sym p.atts) (before_one text 93 close (omega arith) (omega arith) closes.holds);
}
atts_part text s close after u tag some longest closes start (inr (inr p)) = record {
  order = omega (arith, closes.after, p.atts, start);
  start = subst (λ (n : ℕ). IsCharBoundary text n) (sym start) tag.end;
  end = subst (λ (n : ℕ). IsCharBoundary text n) (sym p.atts) (before_one text 93 close (omega arith) (omega arith) closes.holds);
}

no_span : (s : Shortcode) (text : List ℕ) (span : Span) → (let o : Option Span = None in s.content ≡ o) → s.content ≡ Some span → IsPart text span
no_span s text span e f = absurd (let clash : (let z : Option Span = None in z) ≡ Some span = sym e ∙ f in cc)

content_part : (text : List ℕ) (s : Shortcode) (close after : ℕ) (span : Span) → IsUtf8 text → At text 93 close → IsSelfClosing text close s after ⊎ IsEnclosing text close s after ⊎ IsAlone text close s after → s.content ≡ Some span → IsPart text span
content_part text s close after span u here (inl p) e = no_span s text span p.content e
content_part text s close after span u here (inr (inr p)) e = no_span s text span p.content e
content_part text s close after span u here (inr (inl p)) e =
    let made : Span = record { start = close + 1; end = p.closing } in
    let same : made ≡ span = (let f : Some made ≡ Some span = sym p.content ∙ e in cc) in
    let part : IsPart text made = record {
      order = p.first.after;
      start = after_one text 93 close u (omega arith) (omega arith) here;
      end = before_one text 91 p.closing (omega arith) (omega arith) p.first.holds.bracket;
    } in
    subst (λ (x : Span). IsPart text x) same part

pub has_parts : (text : List ℕ) (tags : List (List ℕ)) (s : Shortcode) → IsUtf8 text → IsShortcode text tags s.start s → HasParts text s
has_parts text tags s u here =
    let edges : HasEdges text s = has_edges text tags s u here in
    let r = here.rest in
    let order : s.start + 2 ≤ s.end = edges.order in
    let tag : IsPart text s.tag = tag_part text tags s.start s.lead s.tag u here.head in
    record {
      whole = omega arith;
      start = before_one text 91 s.start (omega arith) (omega arith) here.head.bracket;
      end = edges.end;
      tag = tag;
      atts = atts_part text s r.close r.after u tag here.head.name.some here.head.name.longest r.closes r.atts r.form;
      content = λ span e. content_part text s r.close r.after span u r.closes.holds r.form e;
    }
