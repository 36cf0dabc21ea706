-- What a head says, by its spans, and what its fields tell.
use Rattle.std.proofs.Common.{◌≡◌, ℕ, ◌<◌, ◌≤◌, Bool, true, false, cond, nat_le, ◌==◌, List, [], ◌∷◌, length, take, drop, map, Ok, Err, refl, sym, ap, ◌∙◌, arith, length-take, inl, inr}
use Rattle.std.specs.Prelude.{Option, Result, IsUtf8, bytes_eq, codes}
use Rattle.std.specs.List.{before_first}
use Rattle.std.specs.Str.Parse.{digits_value}
use Rattle.std.proofs.lemmas.Bool.{le-leb, leb-true}
use Rattle.std.proofs.lemmas.List.{length-map}
use borrow.Author.Tests.{leb-true}
use Rattle.httparse.specs.declared.spans.HeaderSpan.{HeaderSpan}
use Rattle.httparse.specs.declared.spans.RequestSpans.{RequestSpans}
use Rattle.httparse.specs.Grammar.{RequestHead, print_request, IsToken}
use Rattle.httparse.specs.Spans.{header_bytes, span_bytes, name_and_value}
use Rattle.press_http.specs.declared.fault.HttpFault.{HttpFault}
use Rattle.press_http.specs.declared.fault.HttpFault.TheVariants as fault
use Rattle.press_http.specs.declared.start.Start.{Start}
use Rattle.press_http.specs.Heads.{IsHead, ReadsHead, RefusesHead, longest_head, most_fields}
use Rattle.press_http.proofs.LineEnds.{head_has, line_ends}
use Rattle.press_http.specs.Bodies.{are_digits, body_length, is_empty, length_by, length_for, length_in, length_of, longest_body, longest_form, most_body, starts_with_slash, values_of}
use Rattle.press_http.specs.Requests.{EndsBy, IsJudged, IsStart, Refuses}

-- ---- which faults a length has

abbrev may_tell : HttpFault → Bool
may_tell fault.NoMemory = false
may_tell fault.ReadFault = false
may_tell fault.Ended = false
may_tell fault.WriteFault = false
may_tell fault.BadHead = true
may_tell fault.BadForm = false
may_tell fault.BadPeer = false
may_tell fault.NotFound = false
may_tell fault.NotAllowed = false
may_tell fault.NoLength = true
may_tell fault.TooBig = true
may_tell fault.FieldsTooLarge = false
may_tell fault.NotDone = true

abbrev is_fine : Result ℕ HttpFault → Bool
is_fine (Ok n) = true
is_fine (Err e) = may_tell e

of_if : (b : Bool) (x y : Result ℕ HttpFault) → is_fine x ≡ true → is_fine y ≡ true → is_fine (cond b x y) ≡ true
of_if true x y p q = p
of_if false x y p q = q

in_fine : (most : ℕ) (value : List ℕ) → is_fine (length_in most value) ≡ true
in_fine most value =
    of_if (are_digits value) (cond (nat_le (digits_value 10 value) most) (Ok (digits_value 10 value)) (Err fault.TooBig)) (Err fault.BadHead)
    (of_if (nat_le (digits_value 10 value) most) (Ok (digits_value 10 value)) (Err fault.TooBig) refl refl) refl

by_fine : (most : ℕ) (values : List (List ℕ)) → is_fine (length_by most values) ≡ true
by_fine most [] = refl
by_fine most (value ∷ []) = in_fine most value
by_fine most (value ∷ other ∷ more) = refl

fine : (method target : List ℕ) (fields : List (List ℕ × List ℕ)) → is_fine (body_length method target fields) ≡ true
unfolding body_length
fine method target fields =
    of_if (starts_with_slash target) (cond (is_empty (values_of (codes "Transfer-Encoding") fields)) (length_for (most_body target) method fields) (Err fault.NotDone)) (Err fault.BadHead)
    (of_if (is_empty (values_of (codes "Transfer-Encoding") fields)) (length_for (most_body target) method fields) (Err fault.NotDone)
    (of_if (bytes_eq method (codes "POST")) (length_by (most_body target) (values_of (codes "Content-Length") fields)) (Ok 0) (by_fine (most_body target) (values_of (codes "Content-Length") fields)) refl) refl) refl

tells : (h : RequestHead) (e : HttpFault) → length_of h ≡ Err e → may_tell e ≡ true
tells h e p = sym (ap is_fine p) ∙ fine h.method h.target (map name_and_value h.fields)

pub judged : (e : HttpFault) (seen : List ℕ) (left : Option (List ℕ)) → IsJudged e seen → Refuses e seen left
judged fault.NoMemory seen left j = let q : false ≡ true = tells j.0 fault.NoMemory j.3 in cc
judged fault.ReadFault seen left j = let q : false ≡ true = tells j.0 fault.ReadFault j.3 in cc
judged fault.Ended seen left j = let q : false ≡ true = tells j.0 fault.Ended j.3 in cc
judged fault.WriteFault seen left j = let q : false ≡ true = tells j.0 fault.WriteFault j.3 in cc
judged fault.BadHead seen left j = inr j
judged fault.BadForm seen left j = let q : false ≡ true = tells j.0 fault.BadForm j.3 in cc
judged fault.BadPeer seen left j = let q : false ≡ true = tells j.0 fault.BadPeer j.3 in cc
judged fault.NotFound seen left j = let q : false ≡ true = tells j.0 fault.NotFound j.3 in cc
judged fault.NotAllowed seen left j = let q : false ≡ true = tells j.0 fault.NotAllowed j.3 in cc
judged fault.NoLength seen left j = j
judged fault.TooBig seen left j = j
judged fault.FieldsTooLarge seen left j = let q : false ≡ true = tells j.0 fault.FieldsTooLarge j.3 in cc
judged fault.NotDone seen left j = j

pub judged_alone : (e : HttpFault) (h : RequestHead) → length_of h ≡ Err e → (reads : List (Option (List ℕ))) → EndsBy e reads
judged_alone fault.NoMemory h p reads = tt
judged_alone fault.ReadFault h p reads = let q : false ≡ true = tells h fault.ReadFault p in cc
judged_alone fault.Ended h p reads = let q : false ≡ true = tells h fault.Ended p in cc
judged_alone fault.WriteFault h p reads = tt
judged_alone fault.BadHead h p reads = tt
judged_alone fault.BadForm h p reads = tt
judged_alone fault.BadPeer h p reads = tt
judged_alone fault.NotFound h p reads = tt
judged_alone fault.NotAllowed h p reads = tt
judged_alone fault.NoLength h p reads = tt
judged_alone fault.TooBig h p reads = tt
judged_alone fault.FieldsTooLarge h p reads = tt
judged_alone fault.NotDone h p reads = tt

pub head_refused : (e : HttpFault) (seen : List ℕ) (left : Option (List ℕ)) → length seen ≤ longest_head → RefusesHead e seen left → Refuses e seen left
head_refused fault.NoMemory seen left short r = r
head_refused fault.ReadFault seen left short r = inl (r, short)
head_refused fault.Ended seen left short r = inl (r, short)
head_refused fault.WriteFault seen left short r = absurd r
head_refused fault.BadHead seen left short r = inl (r, short)
head_refused fault.BadForm seen left short r = absurd r
head_refused fault.BadPeer seen left short r = absurd r
head_refused fault.NotFound seen left short r = absurd r
head_refused fault.NotAllowed seen left short r = absurd r
head_refused fault.NoLength seen left short r = absurd r
head_refused fault.TooBig seen left short r = absurd r
head_refused fault.FieldsTooLarge seen left short r = (r, short)
head_refused fault.NotDone seen left short r = absurd r

-- ---- how long a body may be

abbrev is_small : Result ℕ HttpFault → Bool
is_small (Ok n) = nat_le n longest_body
is_small (Err e) = true

small_if : (b : Bool) (x y : Result ℕ HttpFault) → is_small x ≡ true → is_small y ≡ true → is_small (cond b x y) ≡ true
small_if true x y p q = p
small_if false x y p q = q

small_where : (most : ℕ) → most ≤ longest_body → (b : Bool) (n : ℕ) → b ≡ nat_le n most → is_small (cond b (Ok n) (Err fault.TooBig)) ≡ true
small_where most few true n e = le-leb n longest_body (omega (arith, leb-true n most (sym e), few))
small_where most few false n e = refl

by_small : (most : ℕ) → most ≤ longest_body → (values : List (List ℕ)) → is_small (length_by most values) ≡ true
by_small most few [] = refl
by_small most few (value ∷ []) =
    small_if (are_digits value) (cond (nat_le (digits_value 10 value) most) (Ok (digits_value 10 value)) (Err fault.TooBig)) (Err fault.BadHead)
    (small_where most few (nat_le (digits_value 10 value) most) (digits_value 10 value) refl) refl
by_small most few (value ∷ other ∷ more) = refl

most_where : (b : Bool) → cond b longest_body longest_form ≤ longest_body
most_where true = omega arith
most_where false = omega arith

most_small : (target : List ℕ) → most_body target ≤ longest_body
unfolding most_body
most_small target = most_where (bytes_eq (before_first (λ b. b == 63) target) (codes "/peer"))

small : (method target : List ℕ) (fields : List (List ℕ × List ℕ)) → is_small (body_length method target fields) ≡ true
unfolding body_length
small method target fields =
    small_if (starts_with_slash target) (cond (is_empty (values_of (codes "Transfer-Encoding") fields)) (length_for (most_body target) method fields) (Err fault.NotDone)) (Err fault.BadHead)
    (small_if (is_empty (values_of (codes "Transfer-Encoding") fields)) (length_for (most_body target) method fields) (Err fault.NotDone)
    (small_if (bytes_eq method (codes "POST")) (length_by (most_body target) (values_of (codes "Content-Length") fields)) (Ok 0) (by_small (most_body target) (most_small target) (values_of (codes "Content-Length") fields)) refl) refl) refl

pub few_bytes : (h : RequestHead) (n : ℕ) → length_of h ≡ Ok n → n ≤ longest_body
few_bytes h n p = leb-true _ _ (sym (ap is_small p) ∙ small h.method h.target (map name_and_value h.fields))

-- ---- a head by its spans

one_at_most : (t : Bool) → cond t 1 0 ≤ 1
one_at_most true = omega arith
one_at_most false = omega arith

ends_within : (bytes : List ℕ) → line_ends bytes ≤ length bytes
ends_within [] = omega arith
ends_within (b ∷ bytes) = let below = one_at_most (b == 10) in omega (arith, ends_within bytes, below)

pub some_print : (h : RequestHead) → 0 < length (print_request h)
some_print h = omega (arith, head_has h, ends_within (print_request h))

module _ (seen : List ℕ) (headers : List HeaderSpan) (spans : RequestSpans) where
  pub reads_head : (head : IsHead seen headers spans) → length headers ≡ most_fields → length seen ≤ longest_head → ReadsHead seen head.0 (drop spans.len seen)
  reads_head head room short =
      let h = head.0 in
      let told = head.1 in
      let few : length h.fields ≤ most_fields =
      omega (arith, room, ap length told.fields, length-map (take spans.headers headers) (header_bytes seen), length-map h.fields name_and_value, length-take spans.headers headers)
      in
      let fits : length (print_request h) ≤ longest_head = omega (arith, told.len, head.2.section.len_fits, short) in
      (told.reads, few, fits)

  pub same_length : (head : IsHead seen headers spans)
      → body_length (span_bytes seen spans.method) (span_bytes seen spans.path) (map (header_bytes seen) (take spans.headers headers)) ≡ length_of head.0
  same_length head = rw (head.1.method, head.1.path, head.1.fields) refl

  pub some_seen : IsHead seen headers spans → 0 < length seen
  some_seen head = omega (arith, some_print head.0, head.1.len, head.2.section.len_fits)

  pub token_there : IsHead seen headers spans → IsToken (span_bytes seen spans.method)
  token_there head = rw head.1.method head.1.reads.0.method

  pub text_there : IsHead seen headers spans → IsUtf8 (span_bytes seen spans.path)
  text_there head = rw head.1.path head.1.reads.0.target_text

  pub begins_bad : IsHead seen headers spans → length headers ≡ most_fields → length seen ≤ longest_head → (e : HttpFault)
      → body_length (span_bytes seen spans.method) (span_bytes seen spans.path) (map (header_bytes seen) (take spans.headers headers)) ≡ Err e
      → (left : Option (List ℕ)) → Refuses e seen left × ((reads : List (Option (List ℕ))) → EndsBy e reads)
  begins_bad head room short e p left =
      (judged e seen left (head.0, drop spans.len seen, reads_head head room short, sym (same_length head) ∙ p, short), judged_alone e head.0 (sym (same_length head) ∙ p))

  pub begins : IsHead seen headers spans → length headers ≡ most_fields → length seen ≤ longest_head → (s : Start)
      → body_length (span_bytes seen spans.method) (span_bytes seen spans.path) (map (header_bytes seen) (take spans.headers headers)) ≡ Ok s.count
      → (s.method ≡ span_bytes seen spans.method) → (s.target ≡ span_bytes seen spans.path) → (s.rest ≡ drop spans.len seen) → IsStart seen s
  begins head room short s p method target rest =
      (head.0, rw rest (reads_head head room short), sym (same_length head) ∙ p, method ∙ head.1.method, target ∙ head.1.path)
