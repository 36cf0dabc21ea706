-- A text and a place have at most one reading.
use Rattle.std.proofs.Common.{◌≡◌, ◌⊎◌, ℕ, ◌+◌, ◌<◌, List, length, Bool, true, false, arith, inl, inr, subst, sym, ap, refl, ◌∙◌, Option, Some}
use Rattle.std.specs.Prelude.{if◌then◌else◌}
use Rattle.std.proofs.lemmas.Bool.{cases_lt}
use Rattle.press_text.specs.Names.{is_name_byte}
use Rattle.press_scan.specs.Places.{At, AtNoName, IsFirst}
use Rattle.press_scan.specs.Shortcodes.{IsHead, IsRest, IsShortcode, IsSelfClosing, IsEnclosing, IsAlone, IsClosing, cut}
use Rattle.press_scan.specs.declared.span.Span.{Span}
use Rattle.press_scan.specs.declared.shortcode.Shortcode.{Shortcode}

pub one_first : (P : ℕ → Type 0) (from a b : ℕ) → IsFirst P from a → IsFirst P from b → a ≡ b
one_first P from a b p q = elim (cases_lt a b) [
  | inl lt ↦ absurd (q.none_before a p.after lt p.holds)
  | inr ge ↦ elim (cases_lt b a) [
    | inl lt ↦ absurd (p.none_before b q.after lt q.holds)
    | inr le ↦ (let e : a ≡ b = omega arith in e)
  ]
]

not_both : (text : List ℕ) (tags : List (List ℕ)) (place : ℕ) (x y : Span) → IsHead text tags place true x → IsHead text tags place false y → ⊥
not_both text tags place x y p q =
    let start : y.start ≡ place + 1 = q.follows in
    let here : At text 91 y.start = subst (At text 91) (sym start) (p.second refl) in
    let before : y.start < y.end = q.name.some in
    q.name.longest.none_before y.start (omega arith) before (subst (λ (b : ℕ). is_name_byte b ≡ false) (sym here) refl)

one_lead : (text : List ℕ) (tags : List (List ℕ)) (place : ℕ) (a b : Bool) (x y : Span) → IsHead text tags place a x → IsHead text tags place b y → a ≡ b
one_lead text tags place true true x y p q = refl
one_lead text tags place true false x y p q = absurd (not_both text tags place x y p q)
one_lead text tags place false true x y p q = absurd (not_both text tags place y x q p)
one_lead text tags place false false x y p q = refl

pub same_span : (x y : Span) → x.start ≡ y.start → x.end ≡ y.end → x ≡ y
same_span x y p q =
    let first : x ≡ record { start = y.start; end = x.end } = ap (λ (n : ℕ). record { start = n; end = x.end }) p in
    let second : (let z : Span = record { start = y.start; end = x.end } in z) ≡ y = ap (λ (n : ℕ). let z : Span = record { start = y.start; end = n } in z) q in
    first ∙ second

one_tag : (text : List ℕ) (tags : List (List ℕ)) (place : ℕ) (a b : Bool) (x y : Span) → IsHead text tags place a x → IsHead text tags place b y → x ≡ y
one_tag text tags place a b x y p q =
    let lead : a ≡ b = one_lead text tags place a b x y p q in
    let start : x.start ≡ y.start = p.follows ∙ ap (λ (l : Bool). place + (if l then 2 else 1)) lead ∙ sym q.follows in
    same_span x y start (one_first (AtNoName text) y.start x.end y.end (subst (λ (n : ℕ). IsFirst (AtNoName text) n x.end) start p.name.longest) q.name.longest)

-- what the form decides
record SameForm (s t : Shortcode) (a b : ℕ) : Type 0 where
  atts : s.atts.end ≡ t.atts.end
  content : s.content ≡ t.content
  after : a ≡ b

one_form : (text : List ℕ) (close : ℕ) (s t : Shortcode) (a b : ℕ) → s.tag ≡ t.tag → IsSelfClosing text close s a ⊎ IsEnclosing text close s a ⊎ IsAlone text close s a → IsSelfClosing text close t b ⊎ IsEnclosing text close t b ⊎ IsAlone text close t b → SameForm s t a b
one_form text close s t a b tag (inl p) (inl q) = record { atts = omega (arith, p.atts, q.atts); content = p.content ∙ sym q.content; after = p.ends ∙ sym q.ends }
one_form text close s t a b tag (inl p) (inr (inl q)) = absurd (q.no_slash p.slash)
one_form text close s t a b tag (inl p) (inr (inr q)) = absurd (q.no_slash p.slash)
one_form text close s t a b tag (inr (inl p)) (inl q) = absurd (p.no_slash q.slash)
one_form text close s t a b tag (inr (inr p)) (inl q) = absurd (p.no_slash q.slash)
one_form text close s t a b tag (inr (inl p)) (inr (inl q)) =
    let same : p.closing ≡ q.closing = one_first (IsClosing text (cut text t.tag)) (close + 1) p.closing q.closing (subst (λ (x : Span). IsFirst (IsClosing text (cut text x)) (close + 1) p.closing) tag p.first) q.first in
    record {
      atts = p.atts ∙ sym q.atts;
      content = p.content ∙ ap (λ (n : ℕ). let z : Span = record { start = close + 1; end = n } in Some z) same ∙ sym q.content;
      after = p.ends ∙ ap (λ (n : ℕ). n + 3 + length (cut text s.tag)) same ∙ ap (λ (x : Span). q.closing + 3 + length (cut text x)) tag ∙ sym q.ends;
    }
one_form text close s t a b tag (inr (inl p)) (inr (inr q)) = absurd (q.no_closing p.closing p.first.after (subst (λ (x : Span). IsClosing text (cut text x) p.closing) tag p.first.holds))
one_form text close s t a b tag (inr (inr p)) (inr (inl q)) = absurd (p.no_closing q.closing q.first.after (subst (λ (x : Span). IsClosing text (cut text x) q.closing) (sym tag) q.first.holds))
one_form text close s t a b tag (inr (inr p)) (inr (inr q)) = record { atts = p.atts ∙ sym q.atts; content = p.content ∙ sym q.content; after = p.ends ∙ sym q.ends }

one_tail : (P : Type 0) (a b : Bool) → (a ≡ true → P) → (a ≡ false → P → ⊥) → (b ≡ true → P) → (b ≡ false → P → ⊥) → a ≡ b
one_tail P true true p np q nq = refl
one_tail P true false p np q nq = absurd (nq refl (p refl))
one_tail P false true p np q nq = absurd (np refl (q refl))
one_tail P false false p np q nq = refl

same_shortcode : (s t : Shortcode) → s.start ≡ t.start → s.end ≡ t.end → s.lead ≡ t.lead → s.tag ≡ t.tag → s.atts ≡ t.atts → s.content ≡ t.content → s.tail ≡ t.tail → s ≡ t
same_shortcode s t e1 e2 e3 e4 e5 e6 e7 =
    let f : ℕ → ℕ → Bool → Span → Span → Option Span → Bool → Shortcode = λ a b l g h c r. record { start = a; end = b; lead = l; tag = g; atts = h; content = c; tail = r } in
    let p1 : s ≡ f t.start s.end s.lead s.tag s.atts s.content s.tail = ap (λ (x : ℕ). f x s.end s.lead s.tag s.atts s.content s.tail) e1 in
    let p2 : f t.start s.end s.lead s.tag s.atts s.content s.tail ≡ f t.start t.end s.lead s.tag s.atts s.content s.tail = ap (λ (x : ℕ). f t.start x s.lead s.tag s.atts s.content s.tail) e2 in
    let p3 : f t.start t.end s.lead s.tag s.atts s.content s.tail ≡ f t.start t.end t.lead s.tag s.atts s.content s.tail = ap (λ (x : Bool). f t.start t.end x s.tag s.atts s.content s.tail) e3 in
    let p4 : f t.start t.end t.lead s.tag s.atts s.content s.tail ≡ f t.start t.end t.lead t.tag s.atts s.content s.tail = ap (λ (x : Span). f t.start t.end t.lead x s.atts s.content s.tail) e4 in
    let p5 : f t.start t.end t.lead t.tag s.atts s.content s.tail ≡ f t.start t.end t.lead t.tag t.atts s.content s.tail = ap (λ (x : Span). f t.start t.end t.lead t.tag x s.content s.tail) e5 in
    let p6 : f t.start t.end t.lead t.tag t.atts s.content s.tail ≡ f t.start t.end t.lead t.tag t.atts t.content s.tail = ap (λ (x : Option Span). f t.start t.end t.lead t.tag t.atts x s.tail) e6 in
    let p7 : f t.start t.end t.lead t.tag t.atts t.content s.tail ≡ t = ap (λ (x : Bool). f t.start t.end t.lead t.tag t.atts t.content x) e7 in
    p1 ∙ p2 ∙ p3 ∙ p4 ∙ p5 ∙ p6 ∙ p7

one_rest : (text : List ℕ) (s t : Shortcode) → s.start ≡ t.start → s.lead ≡ t.lead → s.tag ≡ t.tag → IsRest text s → IsRest text t → s ≡ t
one_rest text s t start lead tag p q =
    let close : p.close ≡ q.close = one_first (At text 93) t.tag.end p.close q.close (subst (λ (x : Span). IsFirst (At text 93) x.end p.close) tag p.closes) q.closes in
    let same : SameForm s t p.after q.after = one_form text q.close s t p.after q.after tag (subst (λ (n : ℕ). IsSelfClosing text n s p.after ⊎ IsEnclosing text n s p.after ⊎ IsAlone text n s p.after) close p.form) q.form in
    let tail : s.tail ≡ t.tail = one_tail (At text 93 q.after) s.tail t.tail (subst (λ (n : ℕ). s.tail ≡ true → At text 93 n) same.after p.tail) (subst (λ (n : ℕ). s.tail ≡ false → At text 93 n → ⊥) same.after p.no_tail) q.tail q.no_tail in
    let ends : s.end ≡ t.end = p.ends ∙ ap (λ (n : ℕ). n + (if s.tail then 1 else 0)) same.after ∙ ap (λ (b : Bool). q.after + (if b then 1 else 0)) tail ∙ sym q.ends in
    same_shortcode s t start ends lead tag (same_span s.atts t.atts (p.atts ∙ ap (λ (x : Span). x.end) tag ∙ sym q.atts) same.atts) same.content tail

pub one_reading : (text : List ℕ) (tags : List (List ℕ)) (place : ℕ) (s t : Shortcode) → IsShortcode text tags place s → IsShortcode text tags place t → s ≡ t
one_reading text tags place s t p q = one_rest text s t (p.starts ∙ sym q.starts) (one_lead text tags place s.lead t.lead s.tag t.tag p.head q.head) (one_tag text tags place s.lead t.lead s.tag t.tag p.head q.head) p.rest q.rest
