-- A head has more line ends than fields.
use Rattle.std.proofs.Common.{◌≡◌, ℕ, ◌+◌, ◌<◌, ◌≤◌, List, [], ◌∷◌, ◌++◌, length, ◌==◌, if◌then◌else◌, refl, ap, ◌∙◌, arith, append-nil, subst}
use Rattle.std.specs.List.{flat_map}
use Rattle.std.proofs.lemmas.List.Concat.{flat_map-cons}
use Rattle.httparse.specs.Grammar.{LineEnd, crlf, lf, print_end, Field, print_field, print_section, RequestHead, print_request}
use Rattle.httparse.specs.Spans.{RequestOverflows, RequestExceeds}
use Rattle.press_http.specs.Heads.{most_fields, HasNoHead, HasTooManyFields}

-- how many LF bytes
abbrev pub line_ends : List ℕ → ℕ
line_ends [] = 0
line_ends (b ∷ bytes) = (if b == 10 then 1 else 0) + line_ends bytes

ends-append : (xs ys : List ℕ) → line_ends (xs ++ ys) ≡ line_ends xs + line_ends ys
ends-append [] ys = omega arith
ends-append (x ∷ xs) ys = omega (arith, ends-append xs ys)

last_part : (xs ys : List ℕ) → line_ends ys ≤ line_ends (xs ++ ys)
last_part xs ys = omega (arith, ends-append xs ys)

end_has_one : (e : LineEnd) → line_ends (print_end e) ≡ 1
end_has_one crlf = refl
end_has_one lf = refl

field_has_one : (f : Field) → 1 ≤ line_ends (print_field f)
field_has_one f = let e : line_ends (print_end f.end) ≤ line_ends (print_field f) = last_part _ (print_end f.end) in omega (arith, end_has_one f.end, e)

fields_have : (fs : List Field) → length fs ≤ line_ends (flat_map print_field fs)
fields_have [] = omega arith
fields_have (f ∷ fs) = omega (arith, ap line_ends (flat_map-cons print_field f fs), ends-append (print_field f) (flat_map print_field fs), field_has_one f, fields_have fs)

pub head_has : (h : RequestHead) → length h.fields < line_ends (print_request h)
unfolding print_request
head_has h =
    let section : line_ends (print_section h.fields h.last) ≤ line_ends (print_request h) = last_part _ (print_section h.fields h.last) in
    omega (arith, section, ends-append (flat_map print_field h.fields) (print_end h.last), end_has_one h.last, fields_have h.fields)

pub overflows : (buf : List ℕ) → RequestOverflows most_fields buf → HasNoHead buf
overflows buf over h rest reads =
    let more : most_fields < length h.fields = over [] h rest (reads.0.0, append-nil buf ∙ reads.0.1) in
    omega (arith, more, reads.1)

-- what the parser says of a room of that size, where it is too small
pub too_many : (k : ℕ) (buf : List ℕ) → k ≡ most_fields → RequestOverflows k buf → RequestExceeds k buf → HasTooManyFields buf
too_many k buf e over more = (overflows buf (subst (λ (n : ℕ). RequestOverflows n buf) e over), subst (λ (n : ℕ). RequestExceeds n buf) e more)
