-- The tests of a place, and what they tell.
use Rattle.std.proofs.Common.{◌≡◌, ℕ, ◌+◌, ◌≤◌, ◌&&◌, ◌||◌, List, length, get_or, Bool, true, false, not, leb, arith, inr, subst, sym, ap, refl, bytes_eq}
use Rattle.std.specs.Prelude.{slice_range}
use Rattle.std.proofs.lemmas.Bool.{not-true, and_parts, and_from, leb-true, le-leb}
use Rattle.std.proofs.lemmas.Bool.Decides.{Decides-eqb, Decides-or}
use Rattle.std.proofs.lemmas.List.{get_or_past}
use Rattle.std.proofs.lemmas.Slice.Eq.{bytes_eq-Decides}
use Rattle.press_text.specs.Names.{is_name_byte}
use Rattle.press_scan.specs.Places.{At, AtNoName}
use Rattle.press_scan.specs.Shortcodes.{IsClosing}
use Rattle.press_scan.specs.Tokens.{is_space, NoSpace, Ends, StopsBare}
use Rattle.press_scan.specs.FirstShortcode.{stands, stops_name, closes_after, closes_tag}
use Rattle.press_scan.specs.AttributesOf.{begins, may_end, stops_word}
use Rattle.press_scan.proofs.Sought.{Tells}

pub stands_tells : (text : List ℕ) (b : ℕ) → Tells (stands text b) (At text b)
stands_tells text b k = Decides-eqb (get_or text k 0) b

pub stops_tells : (text : List ℕ) → Tells (stops_name text) (AtNoName text)
stops_tells text k = (λ e. not-true (is_name_byte (get_or text k 0)) e, λ e. ap not e)

pub begins_tells : (text : List ℕ) → Tells (begins text) (NoSpace text)
begins_tells text k = (λ e. not-true (is_space (get_or text k 0)) e, λ e. ap not e)

pub may_end_tells : (text : List ℕ) → Tells (may_end text) (Ends text)
may_end_tells text k = Decides-or (is_space (get_or text k 0)) (leb (length text) k) (λ e. e, λ e. e) (leb-true (length text) k, le-leb (length text) k)

pub stops_word_tells : (text : List ℕ) → Tells (stops_word text) (StopsBare text)
stops_word_tells text k = Decides-or (may_end text k) (stands text 34 k || stands text 39 k) (may_end_tells text k) (Decides-or (stands text 34 k) (stands text 39 k) (stands_tells text 34 k) (stands_tells text 39 k))

closes_true : (text name : List ℕ) (k : ℕ) (b : Bool) → stands text 91 k ≡ b → (let r : Bool = elim b [ true ↦ closes_after text name k | false ↦ false ] in r) ≡ true → IsClosing text name k
closes_true text name k true e h =
    let p = and_parts (stands text 47 (k + 1)) (bytes_eq (slice_range text (k + 2) (k + 2 + length name)) name && stands text 93 (k + 2 + length name)) h in
    let q = and_parts (bytes_eq (slice_range text (k + 2) (k + 2 + length name)) name) (stands text 93 (k + 2 + length name)) p.1 in
    record {
      bracket = (stands_tells text 91 k).0 e;
      slash = (stands_tells text 47 (k + 1)).0 p.0;
      between = (bytes_eq-Decides (slice_range text (k + 2) (k + 2 + length name)) name).0 q.0;
      end = (stands_tells text 93 (k + 2 + length name)).0 q.1;
    }
closes_true text name k false e h = absurd (cc)

closes_from : (text name : List ℕ) (k : ℕ) → IsClosing text name k → closes_tag text name k ≡ true
closes_from text name k p =
    let rest : closes_after text name k ≡ true = and_from _ _ ((stands_tells text 47 (k + 1)).1 p.slash) (and_from _ _ ((bytes_eq-Decides (slice_range text (k + 2) (k + 2 + length name)) name).1 p.between) ((stands_tells text 93 (k + 2 + length name)).1 p.end)) in
    subst (λ (b : Bool). (let r : Bool = elim b [ true ↦ closes_after text name k | false ↦ false ] in r) ≡ true) (sym ((stands_tells text 91 k).1 p.bracket)) rest

pub closes_tells : (text name : List ℕ) → Tells (closes_tag text name) (IsClosing text name)
closes_tells text name k = (closes_true text name k (stands text 91 k) refl, closes_from text name k)

-- past the end stand no names and no spaces
pub no_name_past : (text : List ℕ) (from : ℕ) → AtNoName text (from + length text)
no_name_past text from =
    let z : get_or text (from + length text) 0 ≡ 0 = get_or_past text (from + length text) 0 (omega arith) in
    subst (λ (b : ℕ). is_name_byte b ≡ false) (sym z) refl

pub no_space_past : (text : List ℕ) (from : ℕ) → NoSpace text (from + length text)
no_space_past text from =
    let z : get_or text (from + length text) 0 ≡ 0 = get_or_past text (from + length text) 0 (omega arith) in
    subst (λ (b : ℕ). is_space b ≡ false) (sym z) refl

pub past_no_space : (text : List ℕ) → NoSpace text (length text)
past_no_space text =
    let z : get_or text (length text) 0 ≡ 0 = get_or_past text (length text) 0 (omega arith) in
    subst (λ (b : ℕ). is_space b ≡ false) (sym z) refl

pub ends_past : (text : List ℕ) (from : ℕ) → Ends text (from + length text)
ends_past text from = (let late : length text ≤ from + length text = omega arith in inr late)
