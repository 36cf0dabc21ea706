-- The first shortcode as it is computed is the first shortcode.
use Rattle.std.proofs.Common.{◌≡◌, ◌⊎◌, ℕ, zero, suc, ◌+◌, ◌-◌, ◌<◌, ◌≤◌, List, length, Bool, true, false, ltb, bytes_eq, arith, inl, inr, subst, sym, ap, refl, ◌∙◌, Option, Some, None}
use Rattle.std.specs.Prelude.{MatchOption, if◌then◌else◌}
use Rattle.std.specs.List.{list_any}
use Rattle.std.proofs.lemmas.Bool.{cases_lt, both_ways, and_parts, and_from, ltb-true, lt-ltb}
use Rattle.press_text.specs.Names.{is_name_byte}
use Rattle.press_scan.specs.Places.{At, AtNoName, IsFirst, NoneBetween, NoneFrom}
use Rattle.press_scan.specs.Shortcodes.{IsHead, IsRest, IsSelfClosing, IsEnclosing, IsAlone, IsShortcode, HasShortcode, IsNext, IsClosing, IsTag, cut}
use Rattle.press_scan.specs.Seeking.{first_place}
use Rattle.press_scan.specs.FirstShortcode.{stands, stops_name, name_from, has_lead, name_at, is_registered, opens, closes_tag, shortcode_ending_at, with_content, with_close, with_closes, shortcode_at, first_shortcode, shortcode_from}
use Rattle.press_scan.specs.declared.span.Span.{Span}
use Rattle.press_scan.specs.declared.shortcode.Shortcode.{Shortcode}
use Rattle.press_scan.proofs.Firsts.{none_yet, at_within}
use Rattle.press_scan.proofs.Heads.{shortcode_within}
use Rattle.press_scan.proofs.Names.{registered_true, registered_from}
use Rattle.press_scan.proofs.OneReading.{one_first, one_reading, same_span}
use Rattle.press_scan.proofs.Sought.{is_first, is_sought}
use Rattle.press_scan.proofs.Tells.{stands_tells, stops_tells, closes_tells, no_name_past}

name_first : (text : List ℕ) (start : ℕ) → IsFirst (AtNoName text) start (name_from text start).end
name_first text start = is_first (stops_name text) (AtNoName text) start (length text) (stops_tells text) (no_name_past text start)

name_is : (text : List ℕ) (start : ℕ) (tag : Span) → tag.start ≡ start → IsFirst (AtNoName text) tag.start tag.end → tag ≡ name_from text start
name_is text start tag e first = same_span tag (name_from text start) e (one_first (AtNoName text) start tag.end (name_from text start).end (subst (λ (n : ℕ). IsFirst (AtNoName text) n tag.end) e first) (name_first text start))

no_second : (text : List ℕ) (tags : List (List ℕ)) (place : ℕ) (tag : Span) (b : Bool) → has_lead text place ≡ b → IsHead text tags place false tag → false ≡ b
no_second text tags place tag true e head =
    let start : tag.start ≡ place + 1 = head.follows in
    let here : At text 91 tag.start = subst (At text 91) (sym start) ((stands_tells text 91 (place + 1)).0 e) in
    let before : tag.start < tag.end = head.name.some in
    absurd (head.name.longest.none_before tag.start (omega arith) before (subst (λ (b : ℕ). is_name_byte b ≡ false) (sym here) refl))
no_second text tags place tag false e head = refl

lead_is : (text : List ℕ) (tags : List (List ℕ)) (place : ℕ) (lead : Bool) (tag : Span) → IsHead text tags place lead tag → lead ≡ has_lead text place
lead_is text tags place true tag head = sym ((stands_tells text 91 (place + 1)).1 (head.second refl))
lead_is text tags place false tag head = no_second text tags place tag (has_lead text place) refl head

tag_is : (text : List ℕ) (tags : List (List ℕ)) (place : ℕ) (lead : Bool) (tag : Span) → IsHead text tags place lead tag → tag ≡ name_at text place
tag_is text tags place lead tag head = name_is text (place + (if has_lead text place then 2 else 1)) tag (head.follows ∙ ap (λ (b : Bool). place + (if b then 2 else 1)) (lead_is text tags place lead tag head)) head.name.longest

-- what opens at a place has a head there
head_from : (text : List ℕ) (tags : List (List ℕ)) (place : ℕ) → stands text 91 place ≡ true → is_registered tags text (name_at text place) ≡ true → IsHead text tags place (has_lead text place) (name_at text place)
head_from text tags place bracket e =
    let both = and_parts (ltb (name_at text place).start (name_at text place).end) (list_any (bytes_eq (cut text (name_at text place))) tags) e in
    record {
      bracket = (stands_tells text 91 place).0 bracket;
      second = λ lead. (stands_tells text 91 (place + 1)).0 lead;
      follows = refl;
      name = record {
        some = ltb-true _ _ both.0;
        longest = name_first text (place + (if has_lead text place then 2 else 1));
        registered = registered_true _ tags both.1;
      };
    }

head_step : (text : List ℕ) (tags : List (List ℕ)) (place : ℕ) (b : Bool) → stands text 91 place ≡ b → (let r : Bool = elim b [ true ↦ is_registered tags text (name_at text place) | false ↦ false ] in r) ≡ true → IsHead text tags place (has_lead text place) (name_at text place)
head_step text tags place true e h = head_from text tags place e h
head_step text tags place false e h = absurd (cc)

head_is : (text : List ℕ) (tags : List (List ℕ)) (place : ℕ) → opens text tags place ≡ true → IsHead text tags place (has_lead text place) (name_at text place)
head_is text tags place e = head_step text tags place (stands text 91 place) refl e

-- where a head stands something opens
opens_from : (text : List ℕ) (tags : List (List ℕ)) (place : ℕ) (lead : Bool) (tag : Span) → IsHead text tags place lead tag → opens text tags place ≡ true
opens_from text tags place lead tag head =
    let is : IsTag text tags (name_at text place) = subst (λ (t : Span). IsTag text tags t) (tag_is text tags place lead tag head) head.name in
    let e : is_registered tags text (name_at text place) ≡ true = and_from _ _ (lt-ltb _ _ is.some) (registered_from _ tags is.registered) in
    subst (λ (b : Bool). (let r : Bool = elim b [ true ↦ is_registered tags text (name_at text place) | false ↦ false ] in r) ≡ true) (sym ((stands_tells text 91 place).1 head.bracket)) e

abbrev Forms : List ℕ → ℕ → Shortcode → ℕ → Type 0
Forms text close s after = IsSelfClosing text close s after ⊎ IsEnclosing text close s after ⊎ IsAlone text close s after

rest_is : (text : List ℕ) (place : ℕ) (tag : Span) (atts_end : ℕ) (content : Option Span) (after close : ℕ) → IsFirst (At text 93) tag.end close → Forms text close (shortcode_ending_at text place tag atts_end content after) after → IsRest text (shortcode_ending_at text place tag atts_end content after)
rest_is text place tag atts_end content after close closes form = record {
  close = close;
  closes = closes;
  atts = refl;
  after = after;
  form = form;
  tail = λ e. (stands_tells text 93 after).0 e;
  no_tail = λ e h. both_ways (stands text 93 after) e ((stands_tells text 93 after).1 h);
  ends = refl;
}

content_is : (text : List ℕ) (place : ℕ) (tag : Span) (close : ℕ) (o : Option ℕ) → IsFirst (At text 93) tag.end close → (At text 47 (close - 1) → ⊥) → MatchOption o (NoneFrom (IsClosing text (cut text tag)) (close + 1)) (λ p. IsFirst (IsClosing text (cut text tag)) (close + 1) p) → IsRest text (with_content text place tag close o)
content_is text place tag close None closes no_slash none = rest_is text place tag close None (close + 1) close closes (inr (inr (record { no_slash = no_slash; atts = refl; no_closing = none; content = refl; ends = refl })))
content_is text place tag close (Some closing) closes no_slash first = rest_is text place tag close (Some (record { start = close + 1; end = closing })) (closing + 3 + length (cut text tag)) close closes (inr (inl (record { no_slash = no_slash; atts = refl; closing = closing; first = first; content = refl; ends = refl })))

closing_within : (text name : List ℕ) (from k : ℕ) → IsClosing text name k → k < from + length text
closing_within text name from k p = (let b : k < length text = at_within text 91 k (omega arith) p.bracket in omega arith)

close_step : (text : List ℕ) (place : ℕ) (tag : Span) (close : ℕ) (b : Bool) → stands text 47 (close - 1) ≡ b → 0 < close → IsFirst (At text 93) tag.end close → IsRest text (let s : Shortcode = elim b [ true ↦ shortcode_ending_at text place tag (close - 1) None (close + 1) | false ↦ with_content text place tag close (first_place (closes_tag text (cut text tag)) (close + 1) (length text)) ] in s)
close_step text place tag close true e some closes =
    let back : close - 1 + 1 ≡ close = omega arith in
    rest_is text place tag (close - 1) None (close + 1) close closes (inl (record { slash = (stands_tells text 47 (close - 1)).0 e; atts = back; content = refl; ends = refl }))
close_step text place tag close false e some closes = content_is text place tag close (first_place (closes_tag text (cut text tag)) (close + 1) (length text)) closes (λ h. both_ways (stands text 47 (close - 1)) e ((stands_tells text 47 (close - 1)).1 h)) (is_sought (closes_tag text (cut text tag)) (IsClosing text (cut text tag)) (close + 1) (length text) (closes_tells text (cut text tag)) (closing_within text (cut text tag) (close + 1)))

-- the parts that `shortcode_ending_at` takes over
record Kept (text : List ℕ) (place : ℕ) (name : Span) (s : Shortcode) : Type 0 where
  start : s.start ≡ place
  lead : s.lead ≡ has_lead text place
  tag : s.tag ≡ name

kept_content : (text : List ℕ) (place : ℕ) (tag : Span) (close : ℕ) (o : Option ℕ) → Kept text place tag (with_content text place tag close o)
kept_content text place tag close None = record { start = refl; lead = refl; tag = refl }
kept_content text place tag close (Some closing) = record { start = refl; lead = refl; tag = refl }

kept_step : (text : List ℕ) (place : ℕ) (tag : Span) (close : ℕ) (b : Bool) (o : Option ℕ) → Kept text place tag (let s : Shortcode = elim b [ true ↦ shortcode_ending_at text place tag (close - 1) None (close + 1) | false ↦ with_content text place tag close o ] in s)
kept_step text place tag close true o = record { start = refl; lead = refl; tag = refl }
kept_step text place tag close false o = kept_content text place tag close o

kept_head : (text : List ℕ) (tags : List (List ℕ)) (place : ℕ) (s : Shortcode) → Kept text place (name_at text place) s → IsHead text tags place (has_lead text place) (name_at text place) → IsHead text tags place s.lead s.tag
kept_head text tags place s k head = subst (λ (b : Bool). IsHead text tags place b s.tag) (sym k.lead) (subst (λ (t : Span). IsHead text tags place (has_lead text place) t) (sym k.tag) head)

close_late : (text : List ℕ) (tags : List (List ℕ)) (place : ℕ) (lead : Bool) (tag : Span) (close : ℕ) → IsHead text tags place lead tag → IsFirst (At text 93) tag.end close → 0 < close
close_late text tags place lead tag close head closes =
    let a : tag.start < tag.end = head.name.some in
    let b : tag.end ≤ close = closes.after in
    omega arith

closed_is : (text : List ℕ) (tags : List (List ℕ)) (place close : ℕ) → IsHead text tags place (has_lead text place) (name_at text place) → IsFirst (At text 93) (name_at text place).end close → IsShortcode text tags place (with_close text place (name_at text place) close)
closed_is text tags place close head closes =
    let kept : Kept text place (name_at text place) (with_close text place (name_at text place) close) = kept_step text place (name_at text place) close (stands text 47 (close - 1)) (first_place (closes_tag text (cut text (name_at text place))) (close + 1) (length text)) in
    record {
      starts = kept.start;
      head = kept_head text tags place (with_close text place (name_at text place) close) kept head;
      rest = close_step text place (name_at text place) close (stands text 47 (close - 1)) refl (close_late text tags place (has_lead text place) (name_at text place) close head closes) closes;
    }

abbrev Answers : List ℕ → List (List ℕ) → ℕ → Option Shortcode → Type 0
Answers text tags place o = MatchOption o (HasShortcode text tags place → ⊥) (λ s. IsShortcode text tags place s)

not_closed : (text : List ℕ) (tags : List (List ℕ)) (place : ℕ) → NoneFrom (At text 93) (name_at text place).end → HasShortcode text tags place → ⊥
not_closed text tags place none (s, here) =
    let closes : IsFirst (At text 93) (name_at text place).end here.rest.close = subst (λ (t : Span). IsFirst (At text 93) t.end here.rest.close) (tag_is text tags place s.lead s.tag here.head) here.rest.closes in
    none here.rest.close closes.after closes.holds

closes_step : (text : List ℕ) (tags : List (List ℕ)) (place : ℕ) (o : Option ℕ) → IsHead text tags place (has_lead text place) (name_at text place) → MatchOption o (NoneFrom (At text 93) (name_at text place).end) (λ p. IsFirst (At text 93) (name_at text place).end p) → Answers text tags place (with_closes text place (name_at text place) o)
closes_step text tags place None head none = not_closed text tags place none
closes_step text tags place (Some close) head closes = closed_is text tags place close head closes

bracket_within : (text : List ℕ) (from k : ℕ) → At text 93 k → k < from + length text
bracket_within text from k here = (let b : k < length text = at_within text 93 k (omega arith) here in omega arith)

at_step : (text : List ℕ) (tags : List (List ℕ)) (place : ℕ) (b : Bool) → opens text tags place ≡ b → Answers text tags place (let o : Option Shortcode = elim b [ true ↦ with_closes text place (name_at text place) (first_place (stands text 93) (name_at text place).end (length text)) | false ↦ None ] in o)
at_step text tags place true e = closes_step text tags place (first_place (stands text 93) (name_at text place).end (length text)) (head_is text tags place e) (is_sought (stands text 93) (At text 93) (name_at text place).end (length text) (stands_tells text 93) (bracket_within text (name_at text place).end))
at_step text tags place false e = λ (s, here). both_ways (opens text tags place) e (opens_from text tags place s.lead s.tag here.head)

-- what is computed at a place stands there
pub at_place : (text : List ℕ) (tags : List (List ℕ)) (place : ℕ) → Answers text tags place (shortcode_at text tags place)
at_place text tags place = at_step text tags place (opens text tags place) refl

abbrev FirstOf : List ℕ → List (List ℕ) → ℕ → ℕ → Option Shortcode → Type 0
FirstOf text tags from n o = MatchOption o (NoneBetween (HasShortcode text tags) from (from + n)) (λ s. IsNext text tags from s)

not_here : (text : List ℕ) (tags : List (List ℕ)) (from to : ℕ) → (HasShortcode text tags from → ⊥) → NoneBetween (HasShortcode text tags) (from + 1) to → NoneBetween (HasShortcode text tags) from to
not_here text tags from to none rest k a b h = elim (cases_lt from k) [
  | inl lt ↦ rest k (omega arith) b h
  | inr ge ↦ (let same : k ≡ from = omega arith in none (subst (HasShortcode text tags) same h))
]

next_here : (text : List ℕ) (tags : List (List ℕ)) (from : ℕ) (s : Shortcode) → IsShortcode text tags from s → IsNext text tags from s
next_here text tags from s here = record {
  after = (let e : s.start ≡ from = here.starts in omega arith);
  stands = subst (λ (n : ℕ). IsShortcode text tags n s) (sym here.starts) here;
  none_before = subst (λ (n : ℕ). NoneBetween (HasShortcode text tags) from n) (sym here.starts) (none_yet (HasShortcode text tags) from);
}

next_later : (text : List ℕ) (tags : List (List ℕ)) (from n : ℕ) (o : Option Shortcode) → (HasShortcode text tags from → ⊥) → FirstOf text tags (from + 1) n o → FirstOf text tags from (suc n) o
next_later text tags from n None none rest =
    let same : from + 1 + n ≡ from + suc n = omega arith in
    subst (λ (m : ℕ). NoneBetween (HasShortcode text tags) from m) same (not_here text tags from (from + 1 + n) none rest)
next_later text tags from n (Some s) none rest =
    let early : from + 1 ≤ s.start = rest.after in
    record { after = omega arith; stands = rest.stands; none_before = not_here text tags from s.start none rest.none_before }

first_step : (text : List ℕ) (tags : List (List ℕ)) (from n : ℕ) (o : Option Shortcode) → Answers text tags from o → FirstOf text tags (from + 1) n (first_shortcode text tags (from + 1) n) → FirstOf text tags from (suc n) (let r : Option Shortcode = elim o [ Some s ↦ Some s | None ↦ first_shortcode text tags (from + 1) n ] in r)
first_step text tags from n None none rest = next_later text tags from n (first_shortcode text tags (from + 1) n) none rest
first_step text tags from n (Some s) here rest = next_here text tags from s here

first_is : (text : List ℕ) (tags : List (List ℕ)) (from n : ℕ) → FirstOf text tags from n (first_shortcode text tags from n)
first_is text tags from zero = λ k a b h. (let clash : k < from + 0 = b in absurd (omega arith))
first_is text tags from (suc n) = first_step text tags from n (shortcode_at text tags from) (at_place text tags from) (first_is text tags (from + 1) n)

abbrev pub IsAnswer : List ℕ → List (List ℕ) → ℕ → Option Shortcode → Type 0
IsAnswer text tags from o = MatchOption o (NoneFrom (HasShortcode text tags) from) (λ s. IsNext text tags from s)

all_places : (text : List ℕ) (tags : List (List ℕ)) (from : ℕ) (o : Option Shortcode) → FirstOf text tags from (length text) o → IsAnswer text tags from o
all_places text tags from None none = λ k a h. (let b : k < length text = shortcode_within text tags k h in none k a (omega arith) h)
all_places text tags from (Some s) next = next

-- what is computed is the first shortcode, or there is none
pub computed : (text : List ℕ) (tags : List (List ℕ)) (from : ℕ) → IsAnswer text tags from (shortcode_from text tags from)
unfolding shortcode_from
computed text tags from = all_places text tags from (first_shortcode text tags from (length text)) (first_is text tags from (length text))

same_start : (text : List ℕ) (tags : List (List ℕ)) (from : ℕ) (s t : Shortcode) → IsNext text tags from s → IsNext text tags from t → s.start ≡ t.start
same_start text tags from s t p q = one_first (HasShortcode text tags) from s.start t.start (record { after = p.after; holds = (s, p.stands); none_before = p.none_before }) (record { after = q.after; holds = (t, q.stands); none_before = q.none_before })

one_next_shortcode : (text : List ℕ) (tags : List (List ℕ)) (from : ℕ) (s t : Shortcode) → IsNext text tags from s → IsNext text tags from t → s ≡ t
one_next_shortcode text tags from s t p q = one_reading text tags t.start s t (subst (λ (n : ℕ). IsShortcode text tags n s) (same_start text tags from s t p q) p.stands) q.stands

one_answer : (text : List ℕ) (tags : List (List ℕ)) (from : ℕ) (o r : Option Shortcode) → IsAnswer text tags from o → IsAnswer text tags from r → o ≡ r
one_answer text tags from None None p q = refl
one_answer text tags from None (Some t) p q = absurd (p t.start q.after (t, q.stands))
one_answer text tags from (Some s) None p q = absurd (q s.start p.after (s, p.stands))
one_answer text tags from (Some s) (Some t) p q = ap (λ (x : Shortcode). Some x) (one_next_shortcode text tags from s t p q)

-- an answer by the relation is the one that is computed
pub is_computed : (text : List ℕ) (tags : List (List ℕ)) (from : ℕ) (o : Option Shortcode) → IsAnswer text tags from o → o ≡ shortcode_from text tags from
is_computed text tags from o p = one_answer text tags from o (shortcode_from text tags from) p (computed text tags from)

pub first_by_relation : (text : List ℕ) (tags : List (List ℕ)) (from : ℕ) (s : Shortcode) → shortcode_from text tags from ≡ Some s → IsNext text tags from s
first_by_relation text tags from s e = subst (IsAnswer text tags from) e (computed text tags from)

pub none_by_relation : (text : List ℕ) (tags : List (List ℕ)) (from : ℕ) → (let o : Option Shortcode = None in shortcode_from text tags from ≡ o) → NoneFrom (HasShortcode text tags) from
none_by_relation text tags from e = subst (IsAnswer text tags from) e (computed text tags from)
