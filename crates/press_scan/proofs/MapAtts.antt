-- The attributes in a map, each value under its key.
use Rattle.std.proofs.Common.{◌≡◌, refl, sym, ◌∙◌, ap, ℕ, zero, suc, ◌+◌, ◌<◌, ◌≤◌, ◌==◌, Bool, true, false, cond, not, List, [], ◌∷◌, ◌++◌, length, arith, Option, Some, None}
use Rattle.std.specs.Prelude.{if◌then◌else◌, nat_lt, option_map, position, slice_get}
use Rattle.std.proofs.lemmas.Bool.{ltb-true, ltb-false, lt-ltb, le-ltb}
use Rattle.std.specs.Cmp.{unsigned_Decides}
use Rattle.std.specs.List.{position_or_len}
use Rattle.std.specs.Map.{lookup}
use Rattle.indexmap.specs.IndexMap.{insert_entry}
use Rattle.press_scan.specs.Attributes.{has_name, is_key, value_of, put_at, with_name}
use Rattle.press_scan.specs.Keys.{key_decides, key_equiv}
use Rattle.press_scan.specs.Entries.{att_of, atts_of, IsBefore, AreBefore}
use Rattle.press_scan.specs.declared.att.Att.{Att}
use Rattle.press_scan.specs.declared.att_key.AttKey.{AttKey}
use Rattle.press_scan.specs.declared.att_key.AttKey.TheVariants.{Name, Place}

abbrev Entry : Type 0
Entry = AttKey × List ℕ

abbrev named : List ℕ → List ℕ → Att
named name value = record { key = Name name; value = value }

abbrev numbered : ℕ → List ℕ → Att
numbered place value = record { key = Place place; value = value }

-- ---- what a put keeps

before_step : (b : Bool) (next : ℕ) (value : List ℕ) (e : Entry) (es rest : List Entry) → AreBefore next (e ∷ es) → AreBefore next rest → AreBefore next (if b then (e.0, value) ∷ es else e ∷ rest)
before_step true next value e es rest all more = (all.0, all.1)
before_step false next value e es rest all more = (all.0, more)

pub before_inserted : (next : ℕ) (es : List Entry) (key : AttKey) (value : List ℕ) → IsBefore next key → AreBefore next es → AreBefore next (insert_entry is_key es key value)
before_inserted next [] key value one all = (one, tt)
before_inserted next (e ∷ es) key value one all = before_step (is_key key e.0) next value e es (insert_entry is_key es key value) all (before_inserted next es key value one all.1)

one_later : (next : ℕ) (key : AttKey) → IsBefore next key → IsBefore (next + 1) key
one_later next (Name n) one = tt
one_later next (Place k) one = omega (arith, one)

all_later : (next : ℕ) (es : List Entry) → AreBefore next es → AreBefore (next + 1) es
all_later next [] all = tt
all_later next (e ∷ es) all = (one_later next e.0 all.0, all_later next es all.1)

pub before_numbered : (next : ℕ) (es : List Entry) (value : List ℕ) → AreBefore next es → AreBefore (next + 1) (insert_entry is_key es (Place next) value)
before_numbered next es value all = before_inserted (next + 1) es (Place next) value (let below : next < next + 1 = omega arith in below) (all_later next es all)

-- ---- what a put gives

-- where the first that passes a test stands, by what the first attribute and the others say
abbrev first_of : Bool → ℕ → ℕ → Option ℕ
first_of here later count = let q : ℕ = cond (not here) (1 + later) 0 in cond (nat_lt q count) (Some q) None

put_first : (x : Att) (xs : List Att) (test : Att → Bool) (att : Att) → test x ≡ true → put_at (x ∷ xs) (position test (x ∷ xs)) att ≡ att ∷ xs
put_first x xs test att e =
    let some : nat_lt 0 (length (x ∷ xs)) ≡ true = lt-ltb 0 (length (x ∷ xs)) (omega arith) in
    ap (λ b. put_at (x ∷ xs) (first_of b (position_or_len test xs) (length (x ∷ xs))) att) e
    ∙ ap (λ b. put_at (x ∷ xs) (cond b (Some 0) None) att) some

same_below : (b : Bool) (i n : ℕ) → nat_lt i n ≡ b → nat_lt (1 + i) (suc n) ≡ b
same_below true i n e = let below : i < n = ltb-true i n e in lt-ltb (1 + i) (suc n) (omega arith)
same_below false i n e = let above : n ≤ i = ltb-false i n e in le-ltb (1 + i) (suc n) (omega arith)

later_when : (b : Bool) (x : Att) (xs : List Att) (i : ℕ) (att : Att) → put_at (x ∷ xs) (cond b (Some (suc i)) None) att ≡ x ∷ put_at xs (cond b (Some i) None) att
later_when true x xs i att = refl
later_when false x xs i att = refl

put_later : (x : Att) (xs : List Att) (test : Att → Bool) (att : Att) → test x ≡ false → put_at (x ∷ xs) (position test (x ∷ xs)) att ≡ x ∷ put_at xs (position test xs) att
put_later x xs test att e =
    let i : ℕ = position_or_len test xs in
    let next : 1 + i ≡ suc i = omega arith in
    ap (λ b. put_at (x ∷ xs) (first_of b i (length (x ∷ xs))) att) e
    ∙ ap (λ b. put_at (x ∷ xs) (cond b (Some (1 + i)) None) att) (same_below (nat_lt i (length xs)) i (length xs) refl)
    ∙ ap (λ n. put_at (x ∷ xs) (cond (nat_lt i (length xs)) (Some n) None) att) next
    ∙ later_when (nat_lt i (length xs)) x xs i att

name_step : (b : Bool) (name value : List ℕ) (e : Entry) (es : List Entry) → is_key (Name name) e.0 ≡ b → atts_of (insert_entry is_key es (Name name) value) ≡ with_name (atts_of es) name value → atts_of (if b then (e.0, value) ∷ es else e ∷ insert_entry is_key es (Name name) value) ≡ with_name (atts_of (e ∷ es)) name value
name_step true name value e es same more =
    ap (λ k. att_of (k, value) ∷ atts_of es) (sym ((key_decides (Name name) e.0).0 same))
    ∙ sym (put_first (att_of e) (atts_of es) (λ a. has_name a.key name) (named name value) (key_equiv.symm e.0 (Name name) ∙ same))
name_step false name value e es same more =
    ap (λ (xs : List Att). att_of e ∷ xs) more
    ∙ sym (put_later (att_of e) (atts_of es) (λ a. has_name a.key name) (named name value) (key_equiv.symm e.0 (Name name) ∙ same))

pub name_inserted : (es : List Entry) (name value : List ℕ) → atts_of (insert_entry is_key es (Name name) value) ≡ with_name (atts_of es) name value
name_inserted [] name value = refl
name_inserted (e ∷ es) name value = name_step (is_key (Name name) e.0) name value e es refl (name_inserted es name value)

apart : (b : Bool) (j k : ℕ) → (j == k) ≡ b → k < j → b ≡ false
apart true j k e below = let same : j ≡ k = (unsigned_Decides j k).0 e in absurd (omega (arith, same, below))
apart false j k e below = refl

not_before : (next : ℕ) (key : AttKey) → IsBefore next key → is_key (Place next) key ≡ false
not_before next (Name n) one = refl
not_before next (Place k) one = apart (next == k) next k refl one

pub number_inserted : (next : ℕ) (es : List Entry) (value : List ℕ) → AreBefore next es → atts_of (insert_entry is_key es (Place next) value) ≡ atts_of es ++ numbered next value ∷ []
number_inserted next [] value all = refl
number_inserted next (e ∷ es) value all =
    ap (λ b. atts_of (if b then (e.0, value) ∷ es else e ∷ insert_entry is_key es (Place next) value)) (not_before next e.0 all.0)
    ∙ ap (λ (xs : List Att). att_of e ∷ xs) (number_inserted next es value all.1)

-- ---- what a look-up gives

step_up : (b : Bool) (value : List ℕ) (o r : Option (List ℕ)) → o ≡ r → cond b (Some value) o ≡ cond b (Some value) r
step_up true value o r e = refl
step_up false value o r e = e

pub looked_up : (key : AttKey) (es : List Entry) → lookup (is_key key) es ≡ value_of key (atts_of es)
looked_up key [] = refl
looked_up key (e ∷ es) =
    step_up (is_key key e.0) e.1 (lookup (is_key key) es) (value_of key (atts_of es)) (looked_up key es)
    ∙ ap (λ b. cond b (Some e.1) (value_of key (atts_of es))) (key_equiv.symm key e.0)

-- ---- the attribute at a place

pub as_many : (es : List Entry) → length (atts_of es) ≡ length es
as_many [] = refl
as_many (e ∷ es) = ap suc (as_many es)

pub att_at : (es : List Entry) (i : ℕ) (e : Entry) → slice_get es i ≡ Some e → slice_get (atts_of es) i ≡ Some (att_of e)
att_at [] i e at = absurd (cc)
att_at (x ∷ xs) zero e at = ap (option_map att_of) at
att_at (x ∷ xs) (suc i) e at = att_at xs i e at
