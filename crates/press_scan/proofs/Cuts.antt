-- The parts of a token are cut between characters.
use Rattle.std.proofs.Common.{◌≡◌, ℕ, ◌+◌, ◌-◌, ◌<◌, ◌≤◌, List, length, get_or, Bool, true, false, arith, inl, inr, subst, sym, refl, ◌∙◌, Option, Some, None}
use Rattle.std.specs.Str.{IsUtf8, IsCharBoundary}
use Rattle.std.proofs.lemmas.Bool.{cases_lt}
use Rattle.std.proofs.lemmas.Bool.Decides.{nat_tests}
use Rattle.std.proofs.lemmas.Str.{IsCharBoundary-before_ascii, IsCharBoundary-after_ascii, IsCharBoundary-end}
use Rattle.press_text.specs.Names.{is_name_byte}
use Rattle.press_scan.specs.Places.{At, AtNoName, IsFirst}
use Rattle.press_scan.specs.Tokens.{is_space, NoSpace, Ends, IsNamed, IsQuoted, IsBare, IsRun, Named, Nameless, IsToken}
use Rattle.press_scan.specs.Attributes.{IsCutAt}
use Rattle.press_scan.specs.declared.span.Span.{Span}
use Rattle.press_scan.specs.declared.token.Token.{Token}
use Rattle.press_scan.proofs.Firsts.{at_within}

space_low : (b : ℕ) → is_space b ≡ true → (0 < b) × (b < 128)
space_low b e = grind (arith, nat_tests)

name_low : (b : ℕ) → is_name_byte b ≡ true → (0 < b) × (b < 128)
name_low b e = grind (arith, nat_tests)

before_low : (text : List ℕ) (p : ℕ) → (0 < get_or text p 0) × (get_or text p 0 < 128) → IsCharBoundary text p
before_low text p low = IsCharBoundary-before_ascii text p (at_within text (get_or text p 0) p low.0 refl) low.1

after_low : (text : List ℕ) (p : ℕ) → IsUtf8 text → (0 < get_or text p 0) × (get_or text p 0 < 128) → IsCharBoundary text (p + 1)
after_low text p u low = IsCharBoundary-after_ascii text p u (at_within text (get_or text p 0) p low.0 refl) low.1

at_low : (text : List ℕ) (b p : ℕ) → 0 < b → b < 128 → At text b p → (0 < get_or text p 0) × (get_or text p 0 < 128)
at_low text b p some low here = (omega arith, omega arith)

true_of : (b : Bool) → (b ≡ false → ⊥) → b ≡ true
true_of true h = refl
true_of false h = absurd (h refl)

-- after a run of low bytes
after_run : (text : List ℕ) (from p : ℕ) → IsUtf8 text → IsCharBoundary text from → from ≤ p → ((k : ℕ) → from ≤ k → k < p → (0 < get_or text k 0) × (get_or text k 0 < 128)) → IsCharBoundary text p
after_run text from p u there a low = elim (cases_lt from p) [
  | inl lt ↦ (let k : from ≤ p - 1 = omega arith in let l : p - 1 < p = omega arith in let e : (p - 1) + 1 ≡ p = omega arith in subst (λ (n : ℕ). IsCharBoundary text n) e (after_low text (p - 1) u (low (p - 1) k l)))
  | inr ge ↦ (let e : from ≡ p = omega arith in subst (λ (n : ℕ). IsCharBoundary text n) e there)
]

pub after_spaces : (text : List ℕ) (from p : ℕ) → IsUtf8 text → IsCharBoundary text from → IsFirst (NoSpace text) from p → IsCharBoundary text p
after_spaces text from p u there first = after_run text from p u there first.after (λ k a b. space_low _ (true_of _ (first.none_before k a b)))

pub after_name : (text : List ℕ) (from p : ℕ) → IsUtf8 text → IsCharBoundary text from → IsFirst (AtNoName text) from p → IsCharBoundary text p
after_name text from p u there first = after_run text from p u there first.after (λ k a b. name_low _ (true_of _ (first.none_before k a b)))

record Cut (text : List ℕ) (v : Span) (end : ℕ) : Type 0 where
  order : v.start ≤ v.end
  start : IsCharBoundary text v.start
  stop : IsCharBoundary text v.end
  next : IsCharBoundary text end

ends_edge : (text : List ℕ) (p : ℕ) → p ≤ length text → Ends text p → IsCharBoundary text p
ends_edge text p a (inl s) = before_low text p (space_low _ s)
ends_edge text p a (inr e) = (let same : length text ≡ p = omega arith in subst (λ (n : ℕ). IsCharBoundary text n) same (IsCharBoundary-end text))

cut_quoted : (q : ℕ) (text : List ℕ) (p : ℕ) (v : Span) (end : ℕ) → IsUtf8 text → 0 < q → q < 128 → IsQuoted q text p v end → Cut text v end
cut_quoted q text p v end u some low is = record {
  order = omega (arith, is.starts, is.closes.after);
  start = subst (λ (n : ℕ). IsCharBoundary text n) (sym is.starts) (after_low text p u (at_low text q p some low is.opens));
  stop = before_low text v.end (at_low text q v.end some low is.closes.holds);
  next = subst (λ (n : ℕ). IsCharBoundary text n) (sym is.next) (after_low text v.end u (at_low text q v.end some low is.closes.holds));
}

cut_bare : (text : List ℕ) (p : ℕ) (v : Span) (end : ℕ) → IsCharBoundary text p → end ≤ length text → IsBare text p v end → Cut text v end
cut_bare text p v end there within is =
    let edge : IsCharBoundary text end = ends_edge text end within is.ends in
    record {
      order = omega (arith, is.starts, is.next, is.some);
      start = subst (λ (n : ℕ). IsCharBoundary text n) (sym is.starts) there;
      stop = subst (λ (n : ℕ). IsCharBoundary text n) (sym is.next) edge;
      next = edge;
    }

cut_run : (text : List ℕ) (p : ℕ) (v : Span) (end : ℕ) → IsCharBoundary text p → end ≤ length text → IsRun text p v end → Cut text v end
cut_run text p v end there within is =
    let edge : IsCharBoundary text end = ends_edge text end within is.longest.holds in
    record {
      order = omega (arith, is.starts, is.next, is.longest.after);
      start = subst (λ (n : ℕ). IsCharBoundary text n) (sym is.starts) there;
      stop = subst (λ (n : ℕ). IsCharBoundary text n) (sym is.next) edge;
      next = edge;
    }

pub record CutToken (text : List ℕ) (t : Token) : Type 0 where
  pub cuts : IsCutAt text t
  pub end : IsCharBoundary text t.end

value_place : (text : List ℕ) (place : ℕ) (name : Span) (next : ℕ) → IsUtf8 text → IsNamed text place name next → IsCharBoundary text next
value_place text place name next u is = after_spaces text (is.equals + 1) next u (after_low text is.equals u (at_low text 61 is.equals (omega arith) (omega arith) is.sign)) is.after

named_cut : (F : List ℕ → ℕ → Span → ℕ → Type 0) (text : List ℕ) (place : ℕ) (t : Token) → IsUtf8 text → IsCharBoundary text place → ((n : ℕ) → IsCharBoundary text n → F text n t.value t.end → Cut text t.value t.end) → Named F text place t → CutToken text t
named_cut F text place t u there cuts is =
    let v : Cut text t.value t.end = cuts is.next (value_place text place is.name is.next u is.named) is.value in
    let p : place < is.name.end = is.named.some in
    let s : is.name.start ≡ place = is.named.starts in
    let start : IsCharBoundary text is.name.start = subst (λ (n : ℕ). IsCharBoundary text n) (sym s) there in
    let stop : IsCharBoundary text is.name.end = after_name text place is.name.end u there is.named.longest in
    let order : is.name.start ≤ is.name.end = omega arith in
    record {
      cuts = record {
        order = v.order;
        value_start = v.start;
        value_end = v.stop;
        name = λ n e. (let same : is.name ≡ n = cc in subst (λ (x : Span). (x.start ≤ x.end) × IsCharBoundary text x.start × IsCharBoundary text x.end) same (order, start, stop));
      };
      end = v.next;
    }

nameless_cut : (F : List ℕ → ℕ → Span → ℕ → Type 0) (text : List ℕ) (place : ℕ) (t : Token) → IsCharBoundary text place → ((n : ℕ) → IsCharBoundary text n → F text n t.value t.end → Cut text t.value t.end) → Nameless F text place t → CutToken text t
nameless_cut F text place t there cuts is =
    let v : Cut text t.value t.end = cuts place there is.value in
    record {
      cuts = record { order = v.order; value_start = v.start; value_end = v.stop; name = λ n e. absurd (let clash : (let z : Option Span = None in z) ≡ Some n = sym is.called ∙ e in cc) };
      end = v.next;
    }

pub cut_token : (text : List ℕ) (place : ℕ) (t : Token) → IsUtf8 text → IsCharBoundary text place → t.end ≤ length text → IsToken text place t → CutToken text t
cut_token text place t u there within (inl a) = named_cut (IsQuoted 34) text place t u there (λ n b is. cut_quoted 34 text n t.value t.end u (omega arith) (omega arith) is) a
cut_token text place t u there within (inr (_, inl a)) = named_cut (IsQuoted 39) text place t u there (λ n b is. cut_quoted 39 text n t.value t.end u (omega arith) (omega arith) is) a
cut_token text place t u there within (inr (_, inr (_, inl a))) = named_cut IsBare text place t u there (λ n b is. cut_bare text n t.value t.end b within is) a
cut_token text place t u there within (inr (_, inr (_, inr (_, inl a)))) = nameless_cut (IsQuoted 34) text place t there (λ n b is. cut_quoted 34 text n t.value t.end u (omega arith) (omega arith) is) a
cut_token text place t u there within (inr (_, inr (_, inr (_, inr (_, inl a))))) = nameless_cut (IsQuoted 39) text place t there (λ n b is. cut_quoted 39 text n t.value t.end u (omega arith) (omega arith) is) a
cut_token text place t u there within (inr (_, inr (_, inr (_, inr (_, inr (_, inl a)))))) = nameless_cut IsRun text place t there (λ n b is. cut_run text n t.value t.end b within is) a
cut_token text place t u there within (inr (_, inr (_, inr (_, inr (_, inr (_, inr (_, z))))))) = absurd z
