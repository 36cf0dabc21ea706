-- Which form a token has.
use Rattle.std.proofs.Common.{◌≡◌, ℕ, ◌+◌, ◌<◌, List, length, arith, inl, inr, subst, sym, Some, None}
use Rattle.press_scan.specs.Places.{At, AtNoName, IsFirst}
use Rattle.press_scan.specs.Tokens.{NoSpace, IsNamed, Named, Nameless, IsToken, IsNamedToken, NoNamedToken, IsNamelessToken}
use Rattle.press_scan.specs.declared.span.Span.{Span}
use Rattle.press_scan.specs.declared.token.Token.{Token}
use Rattle.press_scan.specs.declared.token.NamePart.{NamePart}
use Rattle.press_scan.specs.declared.token.ValuePart.{ValuePart}
use Rattle.press_scan.proofs.Firsts.{at_within}
use Rattle.press_scan.proofs.OneReading.{one_first}

pub one_equals : (text : List ℕ) (place end equals : ℕ) (name : Span) (next : ℕ) → IsFirst (AtNoName text) place end → IsFirst (NoSpace text) end equals → (p : IsNamed text place name next) → p.equals ≡ equals
one_equals text place end equals name next longest spaces p =
    let e : name.end ≡ end = one_first (AtNoName text) place name.end end p.longest longest in
    one_first (NoSpace text) end p.equals equals (subst (λ (n : ℕ). IsFirst (NoSpace text) n p.equals) e p.spaces) spaces

-- without an `=` there is no name
pub no_equals : (text : List ℕ) (place end equals : ℕ) → IsFirst (AtNoName text) place end → IsFirst (NoSpace text) end equals → (At text 61 equals → ⊥) → (p : NamePart) → IsNamed text place p.name p.next → ⊥
no_equals text place end equals longest spaces none p named = none (subst (At text 61) (one_equals text place end equals p.name p.next longest spaces named) named.sign)

pub past_end : (text : List ℕ) (n : ℕ) → n ≡ length text → At text 61 n → ⊥
past_end text n e here = (let lt : n < length text = at_within text 61 n (omega arith) here in omega arith)

pub one_next : (text : List ℕ) (place : ℕ) (x y : Span) (a b : ℕ) → IsNamed text place x a → IsNamed text place y b → a ≡ b
one_next text place x y a b p q =
    let e : p.equals ≡ q.equals = one_equals text place y.end q.equals x a q.longest q.spaces p in
    one_first (NoSpace text) (q.equals + 1) a b (subst (λ (n : ℕ). IsFirst (NoSpace text) (n + 1) a) e p.after) q.after

-- no value of the form after the name, no token of it
pub no_value : (F : List ℕ → ℕ → Span → ℕ → Type 0) (text : List ℕ) (place : ℕ) (part : NamePart) → IsNamed text place part.name part.next → ((p : ValuePart) → F text part.next p.value p.end → ⊥) → (u : Token) → Named F text place u → ⊥
no_value F text place part is none u t = none (record { value = u.value; end = u.end }) (subst (λ (n : ℕ). F text n u.value u.end) (one_next text place t.name part.name t.next part.next t.named is) t.value)

pub no_name : (F : List ℕ → ℕ → Span → ℕ → Type 0) (text : List ℕ) (place : ℕ) → ((p : NamePart) → IsNamed text place p.name p.next → ⊥) → (u : Token) → Named F text place u → ⊥
no_name F text place none u t = none (record { name = t.name; next = t.next }) t.named

pub no_nameless : (F : List ℕ → ℕ → Span → ℕ → Type 0) (text : List ℕ) (place : ℕ) → ((p : ValuePart) → F text place p.value p.end → ⊥) → (u : Token) → Nameless F text place u → ⊥
no_nameless F text place none u t = none (record { value = u.value; end = u.end }) t.value

pub is_named : (F : List ℕ → ℕ → Span → ℕ → Type 0) (text : List ℕ) (place : ℕ) (part : NamePart) (v : ValuePart) (t : Token) → IsNamed text place part.name part.next → F text part.next v.value v.end → (t.name ≡ Some part.name) × (t.value ≡ v.value) × (t.end ≡ v.end) → Named F text place t
is_named F text place part v t is value same = record {
  name = part.name;
  called = same.0;
  next = part.next;
  named = is;
  value = subst (λ (n : ℕ). F text part.next t.value n) (sym same.2) (subst (λ (x : Span). F text part.next x v.end) (sym same.1) value);
}

pub is_nameless : (F : List ℕ → ℕ → Span → ℕ → Type 0) (text : List ℕ) (place : ℕ) (v : ValuePart) (t : Token) → F text place v.value v.end → (t.name ≡ None) × (t.value ≡ v.value) × (t.end ≡ v.end) → Nameless F text place t
is_nameless F text place v t value same = record {
  called = same.0;
  value = subst (λ (n : ℕ). F text place t.value n) (sym same.2) (subst (λ (x : Span). F text place x v.end) (sym same.1) value);
}

pub named_first : (text : List ℕ) (place : ℕ) (t : Token) → IsNamedToken text place t → IsToken text place t
named_first text place t (inl a) = inl a
named_first text place t (inr (n, inl b)) = inr (n, inl b)
named_first text place t (inr (n, inr (m, b))) = inr (n, inr (m, inl b))

pub nameless_first : (text : List ℕ) (place : ℕ) (t : Token) → NoNamedToken text place → IsNamelessToken text place t → IsToken text place t
nameless_first text place t none is = inr (none.0, inr (none.1, inr (none.2, is)))
