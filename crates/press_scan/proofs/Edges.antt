-- Where a text may be cut at a shortcode.
use Rattle.std.proofs.Common.{◌≡◌, ◌⊎◌, ℕ, ◌+◌, ◌-◌, ◌<◌, ◌≤◌, List, length, Bool, true, false, arith, inl, inr, subst, sym, refl}
use Rattle.std.specs.Prelude.{if◌then◌else◌}
use Rattle.std.specs.Str.{IsUtf8, IsCharBoundary}
use Rattle.std.proofs.lemmas.Str.{IsCharBoundary-before_ascii, IsCharBoundary-after_ascii}
use Rattle.press_scan.specs.Places.{At}
use Rattle.press_scan.specs.Shortcodes.{IsShortcode, IsSelfClosing, IsEnclosing, IsAlone, cut}
use Rattle.press_scan.specs.Openings.{HasEdges}
use Rattle.press_scan.specs.declared.shortcode.Shortcode.{Shortcode}
use Rattle.press_scan.proofs.Firsts.{at_within}

record Last (text : List ℕ) (close after : ℕ) : Type 0 where
  place : ℕ
  next : after ≡ place + 1
  late : close ≤ place
  here : At text 93 place

last_of : (text : List ℕ) (close : ℕ) (s : Shortcode) (after : ℕ) → At text 93 close → IsSelfClosing text close s after ⊎ IsEnclosing text close s after ⊎ IsAlone text close s after → Last text close after
last_of text close s after here (inl p) = record { place = close; next = p.ends; late = omega arith; here = here }
last_of text close s after here (inr (inl p)) = record { place = p.closing + 2 + length (cut text s.tag); next = omega (arith, p.ends); late = omega (arith, p.first.after); here = p.first.holds.end }
last_of text close s after here (inr (inr p)) = record { place = close; next = p.ends; late = omega arith; here = here }

pub before_one : (text : List ℕ) (b k : ℕ) → 0 < b → b < 128 → At text b k → IsCharBoundary text k
before_one text b k some low here = IsCharBoundary-before_ascii text k (at_within text b k some here) (omega arith)

pub after_one : (text : List ℕ) (b k : ℕ) → IsUtf8 text → 0 < b → b < 128 → At text b k → IsCharBoundary text (k + 1)
after_one text b k u some low here = IsCharBoundary-after_ascii text k u (at_within text b k some here) (omega arith)

starts_late : (b : Bool) (place : ℕ) → place + 1 ≤ place + (if b then 2 else 1)
starts_late true place = omega arith
starts_late false place = omega arith

end_edge : (text : List ℕ) (after end : ℕ) (tail : Bool) → IsUtf8 text → IsCharBoundary text after → (tail ≡ true → At text 93 after) → end ≡ after + (if tail then 1 else 0) → IsCharBoundary text end
end_edge text after end true u there p e = subst (λ (n : ℕ). IsCharBoundary text n) (sym e) (after_one text 93 after u (omega arith) (omega arith) (p refl))
end_edge text after end false u there p e = (let same : after ≡ end = omega arith in subst (λ (n : ℕ). IsCharBoundary text n) same there)

last_edge : (text : List ℕ) (after end : ℕ) (tail : Bool) → (tail ≡ true → At text 93 after) → end ≡ after + (if tail then 1 else 0) → tail ≡ true → IsCharBoundary text (end - 1)
last_edge text after end true p e t = (let same : after ≡ end - 1 = omega arith in subst (λ (n : ℕ). IsCharBoundary text n) same (before_one text 93 after (omega arith) (omega arith) (p refl)))
last_edge text after end false p e t = absurd (cc)

ends_late : (after end : ℕ) (tail : Bool) → end ≡ after + (if tail then 1 else 0) → after ≤ end
ends_late after end true e = omega arith
ends_late after end false e = omega arith

pub has_edges : (text : List ℕ) (tags : List (List ℕ)) (s : Shortcode) → IsUtf8 text → IsShortcode text tags s.start s → HasEdges text s
has_edges text tags s u here =
    let r = here.rest in
    let last : Last text r.close r.after = last_of text r.close s r.after r.closes.holds r.form in
    let there : IsCharBoundary text r.after = subst (λ (n : ℕ). IsCharBoundary text n) (sym last.next) (after_one text 93 last.place u (omega arith) (omega arith) last.here) in
    let a : s.start + 1 ≤ s.start + (if s.lead then 2 else 1) = starts_late s.lead s.start in
    let b : s.tag.start ≡ s.start + (if s.lead then 2 else 1) = here.head.follows in
    let d : s.tag.start < s.tag.end = here.head.name.some in
    let e : s.tag.end ≤ r.close = r.closes.after in
    let f : r.close ≤ last.place = last.late in
    let g : r.after ≡ last.place + 1 = last.next in
    let h : r.after ≤ s.end = ends_late r.after s.end s.tail r.ends in
    record {
      order = omega arith;
      first = after_one text 91 s.start u (omega arith) (omega arith) here.head.bracket;
      last = last_edge text r.after s.end s.tail r.tail r.ends;
      end = end_edge text r.after s.end s.tail u there r.tail r.ends;
    }

end_within : (text : List ℕ) (after end : ℕ) (tail : Bool) → after ≤ length text → (tail ≡ true → At text 93 after) → end ≡ after + (if tail then 1 else 0) → end ≤ length text
end_within text after end true low p e = (let lt : after < length text = at_within text 93 after (omega arith) (p refl) in omega arith)
end_within text after end false low p e = omega arith

pub ends_within : (text : List ℕ) (tags : List (List ℕ)) (place : ℕ) (s : Shortcode) → IsShortcode text tags place s → (place < s.end) × (s.end ≤ length text)
ends_within text tags place s here =
    let r = here.rest in
    let last : Last text r.close r.after = last_of text r.close s r.after r.closes.holds r.form in
    let lt : last.place < length text = at_within text 93 last.place (omega arith) last.here in
    let a : place + 1 ≤ place + (if s.lead then 2 else 1) = starts_late s.lead place in
    let b : s.tag.start ≡ place + (if s.lead then 2 else 1) = here.head.follows in
    let d : s.tag.start < s.tag.end = here.head.name.some in
    let e : s.tag.end ≤ r.close = r.closes.after in
    let f : r.close ≤ last.place = last.late in
    let g : r.after ≡ last.place + 1 = last.next in
    let h : r.after ≤ s.end = ends_late r.after s.end s.tail r.ends in
    let low : r.after ≤ length text = omega arith in
    (omega arith, end_within text r.after s.end s.tail low r.tail r.ends)
