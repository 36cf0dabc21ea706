-- The tokens of a text as they are computed are its tokens, and a text has one list of them.
use Rattle.std.proofs.Common.{◌≡◌, ℕ, zero, suc, ◌+◌, ◌<◌, ◌≤◌, ◌&&◌, List, [], ◌∷◌, length, Bool, true, false, ltb, arith, inl, inr, subst, sym, ap, refl, ◌∙◌, Option, Some, None}
use Rattle.std.specs.Prelude.{MatchOption, slice_index}
use Rattle.std.proofs.lemmas.Bool.{cases_lt, both_ways, and_parts, and_from, ltb-true, ltb-false, lt-ltb, le-ltb}
use Rattle.press_scan.specs.Places.{At, AtNoName, IsFirst, NoneFrom}
use Rattle.press_scan.specs.Tokens.{is_space, NoSpace, Ends, StopsBare, IsNamed, IsQuoted, IsBare, IsRun, Named, Nameless, forms, FirstFits, IsToken, AreTokens, IsNamelessToken}
use Rattle.press_scan.specs.Seeking.{first_from, first_place}
use Rattle.press_scan.specs.FirstShortcode.{stands, stops_name}
use Rattle.press_scan.specs.AttributesOf.{begins, past_spaces, may_end, stops_word, name_in, closed_by, quoted_in, word_in, run_in, token_of, token_or, nameless_in, named_or, token_in, tokens_in, attributes_of}
use Rattle.press_scan.specs.Attributes.{AttsSoFar, add_tokens, IsAttributes}
use Rattle.press_scan.specs.declared.span.Span.{Span}
use Rattle.press_scan.specs.declared.token.Token.{Token}
use Rattle.press_scan.specs.declared.token.NamePart.{NamePart}
use Rattle.press_scan.specs.declared.token.ValuePart.{ValuePart}
use Rattle.press_scan.specs.declared.att.Att.{Att}
use Rattle.press_scan.proofs.Firsts.{at_within}
use Rattle.press_scan.proofs.OneReading.{one_first, same_span}
use Rattle.press_scan.proofs.Forms.{one_equals, one_next, no_value, no_name, no_nameless, is_named, is_nameless, nameless_first}
use Rattle.press_scan.proofs.Sought.{is_first, is_sought}
use Rattle.press_scan.proofs.Tells.{stands_tells, stops_tells, begins_tells, may_end_tells, stops_word_tells, no_name_past, no_space_past, past_no_space, ends_past}

space_first : (text : List ℕ) (from : ℕ) → IsFirst (NoSpace text) from (past_spaces text from)
space_first text from = is_first (begins text) (NoSpace text) from (length text) (begins_tells text) (no_space_past text from)

-- ---- the parts of a token

abbrev PartIs : (List ℕ → ℕ → Span → ℕ → Type 0) → List ℕ → ℕ → Option ValuePart → Type 0
PartIs F text place o = MatchOption o ((p : ValuePart) → F text place p.value p.end → ⊥) (λ p. F text place p.value p.end)

end_step : (q : ℕ) (text : List ℕ) (place close : ℕ) (b : Bool) → may_end text (close + 1) ≡ b → At text q place → IsFirst (At text q) (place + 1) close → PartIs (IsQuoted q) text place (let o : Option ValuePart = elim b [ true ↦ Some (record { value = record { start = place + 1; end = close }; end = close + 1 }) | false ↦ None ] in o)
end_step q text place close true e opens first = record { opens = opens; starts = refl; closes = first; next = refl; ends = (may_end_tells text (close + 1)).0 e }
end_step q text place close false e opens first = λ p is.
    let same : p.value.end ≡ close = one_first (At text q) (place + 1) p.value.end close is.closes first in
    let next : p.end ≡ p.value.end + 1 = is.next in
    let late : p.end ≡ close + 1 = omega arith in
    both_ways (may_end text (close + 1)) e ((may_end_tells text (close + 1)).1 (subst (Ends text) late is.ends))

closed_is : (q : ℕ) (text : List ℕ) (place : ℕ) (o : Option ℕ) → At text q place → MatchOption o (NoneFrom (At text q) (place + 1)) (λ p. IsFirst (At text q) (place + 1) p) → PartIs (IsQuoted q) text place (closed_by text place o)
closed_is q text place None opens none = λ p is. none p.value.end is.closes.after is.closes.holds
closed_is q text place (Some close) opens first = end_step q text place close (may_end text (close + 1)) refl opens first

quote_within : (q : ℕ) (text : List ℕ) (from k : ℕ) → 0 < q → At text q k → k < from + length text
quote_within q text from k some here = (let b : k < length text = at_within text q k some here in omega arith)

quoted_step : (q : ℕ) (text : List ℕ) (place : ℕ) (b : Bool) → 0 < q → stands text q place ≡ b → PartIs (IsQuoted q) text place (let o : Option ValuePart = elim b [ true ↦ closed_by text place (first_place (stands text q) (place + 1) (length text)) | false ↦ None ] in o)
quoted_step q text place true some e = closed_is q text place (first_place (stands text q) (place + 1) (length text)) ((stands_tells text q place).0 e) (is_sought (stands text q) (At text q) (place + 1) (length text) (stands_tells text q) (λ k here. quote_within q text (place + 1) k some here))
quoted_step q text place false some e = λ p is. both_ways (stands text q place) e ((stands_tells text q place).1 is.opens)

quoted_is : (q : ℕ) (text : List ℕ) (place : ℕ) → 0 < q → PartIs (IsQuoted q) text place (quoted_in q text place)
quoted_is q text place some = quoted_step q text place (stands text q place) some refl

word_step : (text : List ℕ) (place end : ℕ) (b : Bool) → (ltb place end && may_end text end) ≡ b → IsFirst (StopsBare text) place end → PartIs IsBare text place (let o : Option ValuePart = elim b [ true ↦ Some (record { value = record { start = place; end = end }; end = end }) | false ↦ None ] in o)
word_step text place end true e first =
    let both = and_parts (ltb place end) (may_end text end) e in
    record { starts = refl; some = ltb-true place end both.0; longest = first; next = refl; ends = (may_end_tells text end).0 both.1 }
word_step text place end false e first = λ p is.
    let same : p.end ≡ end = one_first (StopsBare text) place p.end end is.longest first in
    both_ways (ltb place end && may_end text end) e (and_from (ltb place end) (may_end text end) (lt-ltb place end (subst (λ (n : ℕ). place < n) same is.some)) ((may_end_tells text end).1 (subst (Ends text) same is.ends)))

stops_past : (text : List ℕ) (from : ℕ) → StopsBare text (from + length text)
stops_past text from = inl (ends_past text from)

word_is : (text : List ℕ) (place : ℕ) → PartIs IsBare text place (word_in text place)
word_is text place =
    let end : ℕ = first_from (stops_word text) place (length text) in
    word_step text place end (ltb place end && may_end text end) refl (is_first (stops_word text) (StopsBare text) place (length text) (stops_word_tells text) (stops_past text place))

run_is : (text : List ℕ) (place : ℕ) → IsRun text place (run_in text place).value (run_in text place).end
run_is text place = record { starts = refl; longest = is_first (may_end text) (Ends text) place (length text) (may_end_tells text) (ends_past text place); next = refl }

abbrev NameIs : List ℕ → ℕ → Option NamePart → Type 0
NameIs text place o = MatchOption o ((p : NamePart) → IsNamed text place p.name p.next → ⊥) (λ p. IsNamed text place p.name p.next)

name_step : (text : List ℕ) (place end equals : ℕ) (b : Bool) → (ltb place end && stands text 61 equals) ≡ b → IsFirst (AtNoName text) place end → IsFirst (NoSpace text) end equals → NameIs text place (let o : Option NamePart = elim b [ true ↦ Some (record { name = record { start = place; end = end }; next = past_spaces text (equals + 1) }) | false ↦ None ] in o)
name_step text place end equals true e longest spaces =
    let both = and_parts (ltb place end) (stands text 61 equals) e in
    record { starts = refl; some = ltb-true place end both.0; longest = longest; equals = equals; spaces = spaces; sign = (stands_tells text 61 equals).0 both.1; after = space_first text (equals + 1) }
name_step text place end equals false e longest spaces = λ p is.
    let same : p.name.end ≡ end = one_first (AtNoName text) place p.name.end end is.longest longest in
    let sign : At text 61 equals = subst (At text 61) (one_equals text place end equals p.name p.next longest spaces is) is.sign in
    both_ways (ltb place end && stands text 61 equals) e (and_from (ltb place end) (stands text 61 equals) (lt-ltb place end (subst (λ (n : ℕ). place < n) same is.some)) ((stands_tells text 61 equals).1 sign))

name_is : (text : List ℕ) (place : ℕ) → NameIs text place (name_in text place)
name_is text place =
    let end : ℕ = first_from (stops_name text) place (length text) in
    let equals : ℕ = past_spaces text end in
    name_step text place end equals (ltb place end && stands text 61 equals) refl (is_first (stops_name text) (AtNoName text) place (length text) (stops_tells text) (no_name_past text place)) (space_first text end)

-- ---- the token at a place

nameless_is : (text : List ℕ) (place : ℕ) (a b : Option ValuePart) → PartIs (IsQuoted 34) text place a → PartIs (IsQuoted 39) text place b → IsNamelessToken text place (token_or None a (token_or None b (token_of None (run_in text place))))
nameless_is text place (Some v) b p q = inl (is_nameless (IsQuoted 34) text place v (token_of None v) p (refl, refl, refl))
nameless_is text place None (Some v) p q = inr (no_nameless (IsQuoted 34) text place p, inl (is_nameless (IsQuoted 39) text place v (token_of None v) q (refl, refl, refl)))
nameless_is text place None None p q = inr (no_nameless (IsQuoted 34) text place p, inr (no_nameless (IsQuoted 39) text place q, inl (record { called = refl; value = run_is text place })))

value_is : (text : List ℕ) (place : ℕ) (part : NamePart) (a b w : Option ValuePart) (other : Token) → IsNamed text place part.name part.next → PartIs (IsQuoted 34) text part.next a → PartIs (IsQuoted 39) text part.next b → PartIs IsBare text part.next w → IsNamelessToken text place other → IsToken text place (token_or (Some part.name) a (token_or (Some part.name) b (token_or (Some part.name) w other)))
value_is text place part (Some v) b w other is p q r nameless = inl (is_named (IsQuoted 34) text place part v (token_of (Some part.name) v) is p (refl, refl, refl))
value_is text place part None (Some v) w other is p q r nameless = inr (no_value (IsQuoted 34) text place part is p, inl (is_named (IsQuoted 39) text place part v (token_of (Some part.name) v) is q (refl, refl, refl)))
value_is text place part None None (Some v) other is p q r nameless = inr (no_value (IsQuoted 34) text place part is p, inr (no_value (IsQuoted 39) text place part is q, inl (is_named IsBare text place part v (token_of (Some part.name) v) is r (refl, refl, refl))))
value_is text place part None None None other is p q r nameless = nameless_first text place other (no_value (IsQuoted 34) text place part is p, no_value (IsQuoted 39) text place part is q, no_value IsBare text place part is r) nameless

named_is : (text : List ℕ) (place : ℕ) (o : Option NamePart) (other : Token) → NameIs text place o → IsNamelessToken text place other → IsToken text place (named_or text o other)
named_is text place None other none nameless = nameless_first text place other (no_name (IsQuoted 34) text place none, no_name (IsQuoted 39) text place none, no_name IsBare text place none) nameless
named_is text place (Some part) other is nameless = value_is text place part (quoted_in 34 text part.next) (quoted_in 39 text part.next) (word_in text part.next) other is (quoted_is 34 text part.next (omega arith)) (quoted_is 39 text part.next (omega arith)) (word_is text part.next) nameless

pub token_is : (text : List ℕ) (place : ℕ) → IsToken text place (token_in text place)
token_is text place = named_is text place (name_in text place) (nameless_in text place) (name_is text place) (nameless_is text place (quoted_in 34 text place) (quoted_in 39 text place) (quoted_is 34 text place (omega arith)) (quoted_is 39 text place (omega arith)))

-- ---- a place has one token

abbrev OneValue : (List ℕ → ℕ → Span → ℕ → Type 0) → Type 0
OneValue F = (text : List ℕ) (place : ℕ) (v w : Span) (e f : ℕ) → F text place v e → F text place w f → (v ≡ w) × (e ≡ f)

one_quoted : (q : ℕ) → OneValue (IsQuoted q)
one_quoted q text place v w e f a b =
    let same : v.end ≡ w.end = one_first (At text q) (place + 1) v.end w.end a.closes b.closes in
    (same_span v w (a.starts ∙ sym b.starts) same, a.next ∙ ap (λ (n : ℕ). n + 1) same ∙ sym b.next)

one_bare : OneValue IsBare
one_bare text place v w e f a b =
    let same : e ≡ f = one_first (StopsBare text) place e f a.longest b.longest in
    (same_span v w (a.starts ∙ sym b.starts) (a.next ∙ same ∙ sym b.next), same)

one_run : OneValue IsRun
one_run text place v w e f a b =
    let same : e ≡ f = one_first (Ends text) place e f a.longest b.longest in
    (same_span v w (a.starts ∙ sym b.starts) (a.next ∙ same ∙ sym b.next), same)

same_token : (t u : Token) → t.name ≡ u.name → t.value ≡ u.value → t.end ≡ u.end → t ≡ u
same_token t u a b d =
    let f : Option Span → Span → ℕ → Token = λ n v e. record { name = n; value = v; end = e } in
    let p : t ≡ f u.name t.value t.end = ap (λ (n : Option Span). f n t.value t.end) a in
    let q : f u.name t.value t.end ≡ f u.name u.value t.end = ap (λ (v : Span). f u.name v t.end) b in
    let r : f u.name u.value t.end ≡ u = ap (λ (e : ℕ). f u.name u.value e) d in
    p ∙ q ∙ r

abbrev Single : (List ℕ → ℕ → Token → Type 0) → Type 0
Single F = (text : List ℕ) (place : ℕ) (t u : Token) → F text place t → F text place u → t ≡ u

one_named : (F : List ℕ → ℕ → Span → ℕ → Type 0) → OneValue F → Single (Named F)
one_named F one text place t u a b =
    let name : a.name ≡ b.name = same_span a.name b.name (a.named.starts ∙ sym b.named.starts) (one_first (AtNoName text) place a.name.end b.name.end a.named.longest b.named.longest) in
    let value = one text b.next t.value u.value t.end u.end (subst (λ (n : ℕ). F text n t.value t.end) (one_next text place a.name b.name a.next b.next a.named b.named) a.value) b.value in
    same_token t u (a.called ∙ ap (λ (n : Span). Some n) name ∙ sym b.called) value.0 value.1

one_nameless : (F : List ℕ → ℕ → Span → ℕ → Type 0) → OneValue F → Single (Nameless F)
one_nameless F one text place t u a b =
    let value = one text place t.value u.value t.end u.end a.value b.value in
    same_token t u (a.called ∙ sym b.called) value.0 value.1

abbrev Singles : List (List ℕ → ℕ → Token → Type 0) → Type 0
Singles [] = Unit {0}
Singles (F ∷ Fs) = Single F × Singles Fs

one_fit : (Fs : List (List ℕ → ℕ → Token → Type 0)) (text : List ℕ) (place : ℕ) (t u : Token) → Singles Fs → FirstFits Fs text place t → FirstFits Fs text place u → t ≡ u
one_fit [] text place t u s p q = absurd p
one_fit (F ∷ Fs) text place t u s (inl a) (inl b) = s.0 text place t u a b
one_fit (F ∷ Fs) text place t u s (inl a) (inr (m, b)) = absurd (m t a)
one_fit (F ∷ Fs) text place t u s (inr (n, a)) (inl b) = absurd (n u b)
one_fit (F ∷ Fs) text place t u s (inr (n, a)) (inr (m, b)) = one_fit Fs text place t u s.1 a b

pub one_token : (text : List ℕ) (place : ℕ) (t u : Token) → IsToken text place t → IsToken text place u → t ≡ u
one_token text place t u p q = one_fit forms text place t u (one_named (IsQuoted 34) (one_quoted 34), (one_named (IsQuoted 39) (one_quoted 39), (one_named IsBare one_bare, (one_nameless (IsQuoted 34) (one_quoted 34), (one_nameless (IsQuoted 39) (one_quoted 39), (one_nameless IsRun one_run, tt)))))) p q

-- ---- the list of tokens

no_end : (text : List ℕ) (place : ℕ) → NoSpace text place → place < length text → Ends text place → ⊥
no_end text place begins below (inl s) = both_ways (is_space (slice_index text place)) begins s
no_end text place begins below (inr l) = absurd (omega arith)

run_later : (text : List ℕ) (place end : ℕ) → NoSpace text place → place < length text → IsFirst (Ends text) place end → place < end
run_later text place end begins below first = elim (cases_lt place end) [
  | inl lt ↦ lt
  | inr ge ↦ (let after : place ≤ end = first.after in let same : end ≡ place = omega arith in absurd (no_end text place begins below (subst (Ends text) same first.holds)))
]

next_later : (text : List ℕ) (place : ℕ) (name : Span) (next : ℕ) → IsNamed text place name next → place < next
next_later text place name next is = omega (arith, is.some, is.spaces.after, is.after.after)

quoted_later : (q : ℕ) (text : List ℕ) (place : ℕ) (v : Span) (end : ℕ) → IsQuoted q text place v end → place < end
quoted_later q text place v end is = omega (arith, is.closes.after, is.next)

token_later : (text : List ℕ) (place : ℕ) (t : Token) → NoSpace text place → place < length text → IsToken text place t → place < t.end
token_later text place t begins below (inl a) = omega (arith, next_later text place a.name a.next a.named, quoted_later 34 text a.next t.value t.end a.value)
token_later text place t begins below (inr (_, inl a)) = omega (arith, next_later text place a.name a.next a.named, quoted_later 39 text a.next t.value t.end a.value)
token_later text place t begins below (inr (_, inr (_, inl a))) = omega (arith, next_later text place a.name a.next a.named, a.value.some)
token_later text place t begins below (inr (_, inr (_, inr (_, inl a)))) = quoted_later 34 text place t.value t.end a.value
token_later text place t begins below (inr (_, inr (_, inr (_, inr (_, inl a))))) = quoted_later 39 text place t.value t.end a.value
token_later text place t begins below (inr (_, inr (_, inr (_, inr (_, inr (_, inl a)))))) = run_later text place t.end begins below a.value.longest
token_later text place t begins below (inr (_, inr (_, inr (_, inr (_, inr (_, inr (_, z))))))) = absurd z

abbrev more_tokens : List ℕ → ℕ → ℕ → Bool → List Token
more_tokens text place n b = elim b [ true ↦ token_in text place ∷ tokens_in text (token_in text place).end n | false ↦ [] ]

same_tokens : (t u : Token) (text : List ℕ) (ts : List Token) (n : ℕ) → t ≡ u → ts ≡ tokens_in text t.end n → t ∷ ts ≡ u ∷ tokens_in text u.end n
same_tokens t u text ts n e rest =
    let a : t ∷ ts ≡ t ∷ tokens_in text t.end n = ap (λ (xs : List Token). t ∷ xs) rest in
    a ∙ ap (λ (x : Token). x ∷ tokens_in text x.end n) e

pub one_list : (text : List ℕ) (ts : List Token) (from n : ℕ) → AreTokens text from ts → length text ≤ from + n → ts ≡ tokens_in text from n
one_list text [] from zero are enough = refl
one_list text [] from (suc n) are enough =
    let end : past_spaces text from ≡ length text = one_first (NoSpace text) from (past_spaces text from) (length text) (space_first text from) are in
    let none : ltb (past_spaces text from) (length text) ≡ false = le-ltb (past_spaces text from) (length text) (omega arith) in
    subst (λ (b : Bool). (let ts : List Token = [] in ts) ≡ more_tokens text (past_spaces text from) n b) (sym none) refl
one_list text (t ∷ ts) from zero (place, first, below, is, rest) enough = (let after : from ≤ place = first.after in absurd (omega arith))
one_list text (t ∷ ts) from (suc n) (place, first, below, is, rest) enough =
    let p : ℕ = past_spaces text from in
    let same : place ≡ p = one_first (NoSpace text) from place p first (space_first text from) in
    let after : from ≤ place = first.after in
    let late : place < t.end = token_later text place t first.holds below is in
    let some : ltb p (length text) ≡ true = lt-ltb p (length text) (omega arith) in
    let token : t ≡ token_in text p = one_token text p t (token_in text p) (subst (λ (k : ℕ). IsToken text k t) same is) (token_is text p) in
    let next : ts ≡ tokens_in text t.end n = one_list text ts t.end n rest (omega arith) in
    subst (λ (b : Bool). t ∷ ts ≡ more_tokens text p n b) (sym some) (same_tokens t (token_in text p) text ts n token next)

-- ---- the tokens that are computed are tokens

space_within : (text : List ℕ) (from p : ℕ) → from ≤ length text → IsFirst (NoSpace text) from p → p ≤ length text
space_within text from p late first = elim (cases_lt (length text) p) [
  | inl lt ↦ (let none : NoSpace text (length text) = past_no_space text in absurd (first.none_before (length text) late lt none))
  | inr ge ↦ ge
]

bare_within : (text : List ℕ) (next end : ℕ) → next ≤ length text → IsFirst (StopsBare text) next end → end ≤ length text
bare_within text next end late first = elim (cases_lt (length text) end) [
  | inl lt ↦ (let last : length text ≤ length text = omega arith in absurd (first.none_before (length text) late lt (inl (inr last))))
  | inr ge ↦ ge
]

run_within : (text : List ℕ) (place end : ℕ) → place ≤ length text → IsFirst (Ends text) place end → end ≤ length text
run_within text place end late first = elim (cases_lt (length text) end) [
  | inl lt ↦ (let last : length text ≤ length text = omega arith in absurd (first.none_before (length text) late lt (inr last)))
  | inr ge ↦ ge
]

quoted_within : (q : ℕ) (text : List ℕ) (place : ℕ) (v : Span) (end : ℕ) → 0 < q → IsQuoted q text place v end → end ≤ length text
quoted_within q text place v end some is =
    let b : v.end < length text = at_within text q v.end some is.closes.holds in
    omega (arith, is.next)

next_within : (text : List ℕ) (place : ℕ) (name : Span) (next : ℕ) → IsNamed text place name next → next ≤ length text
next_within text place name next is =
    let b : is.equals < length text = at_within text 61 is.equals (omega arith) is.sign in
    space_within text (is.equals + 1) next (omega arith) is.after

token_within : (text : List ℕ) (place : ℕ) (t : Token) → place < length text → IsToken text place t → t.end ≤ length text
token_within text place t below (inl a) = quoted_within 34 text a.next t.value t.end (omega arith) a.value
token_within text place t below (inr (_, inl a)) = quoted_within 39 text a.next t.value t.end (omega arith) a.value
token_within text place t below (inr (_, inr (_, inl a))) = bare_within text a.next t.end (next_within text place a.name a.next a.named) a.value.longest
token_within text place t below (inr (_, inr (_, inr (_, inl a)))) = quoted_within 34 text place t.value t.end (omega arith) a.value
token_within text place t below (inr (_, inr (_, inr (_, inr (_, inl a))))) = quoted_within 39 text place t.value t.end (omega arith) a.value
token_within text place t below (inr (_, inr (_, inr (_, inr (_, inr (_, inl a)))))) = run_within text place t.end (omega arith) a.value.longest
token_within text place t below (inr (_, inr (_, inr (_, inr (_, inr (_, inr (_, z))))))) = absurd z

none_left : (text : List ℕ) (from : ℕ) → from ≤ length text → length text ≤ past_spaces text from → IsFirst (NoSpace text) from (length text)
none_left text from late done =
    let first : IsFirst (NoSpace text) from (past_spaces text from) = space_first text from in
    let within : past_spaces text from ≤ length text = space_within text from (past_spaces text from) late first in
    let same : past_spaces text from ≡ length text = omega arith in
    subst (λ (n : ℕ). IsFirst (NoSpace text) from n) same first

tokens_step : (text : List ℕ) (from n : ℕ) (b : Bool) → ltb (past_spaces text from) (length text) ≡ b → from ≤ length text → AreTokens text (token_in text (past_spaces text from)).end (tokens_in text (token_in text (past_spaces text from)).end n) → AreTokens text from (more_tokens text (past_spaces text from) n b)
tokens_step text from n true e late rest = (past_spaces text from, space_first text from, ltb-true (past_spaces text from) (length text) e, token_is text (past_spaces text from), rest)
tokens_step text from n false e late rest = none_left text from late (ltb-false (past_spaces text from) (length text) e)

-- the end of the next token, or the end of the text
next_end : (text : List ℕ) (from n : ℕ) (b : Bool) → ltb (past_spaces text from) (length text) ≡ b → from ≤ length text → length text ≤ from + suc n → ((at : ℕ) → at ≤ length text → length text ≤ at + n → AreTokens text at (tokens_in text at n)) → AreTokens text from (more_tokens text (past_spaces text from) n b)
next_end text from n true e late enough more =
    let p : ℕ = past_spaces text from in
    let first : IsFirst (NoSpace text) from p = space_first text from in
    let after : from ≤ p = first.after in
    let below : p < length text = ltb-true p (length text) e in
    let within : (token_in text p).end ≤ length text = token_within text p (token_in text p) below (token_is text p) in
    let later : p < (token_in text p).end = token_later text p (token_in text p) first.holds below (token_is text p) in
    tokens_step text from n true e late (more (token_in text p).end within (omega arith))
next_end text from n false e late enough more = none_left text from late (ltb-false (past_spaces text from) (length text) e)

tokens_are : (text : List ℕ) (from n : ℕ) → from ≤ length text → length text ≤ from + n → AreTokens text from (tokens_in text from n)
tokens_are text from zero late enough = (let same : from ≡ length text = omega arith in record { after = late; holds = past_no_space text; none_before = λ k a b h. absurd (omega arith) })
tokens_are text from (suc n) late enough = next_end text from n (ltb (past_spaces text from) (length text)) refl late enough (λ at within more. tokens_are text at n within more)

abbrev none_found : AttsSoFar
none_found = record { atts = []; next = 0 }

-- the attributes of a text are those that are computed
pub attributes_computed : (text : List ℕ) (atts : List Att) → IsAttributes text atts → atts ≡ attributes_of text
unfolding attributes_of
attributes_computed text atts (ts, are, e) =
    e ∙ ap (λ (xs : List Token). (add_tokens text none_found xs).atts) (one_list text ts 0 (length text) are (omega arith))

-- and the list that is computed is the list of attributes of its text
pub attributes_stand : (text : List ℕ) → IsAttributes text (attributes_of text)
unfolding attributes_of
attributes_stand text = (tokens_in text 0 (length text), tokens_are text 0 (length text) (omega arith) (omega arith), refl)
