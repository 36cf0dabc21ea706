-- Whether a row stands outside the slots up to a number.
use Rattle.std.proofs.Common.{◌≡◌, ◌<◌, ◌≤◌, ◌+◌, ◌*◌, ℕ, ℤ, zero, suc, pos, negsuc, List, [], ◌∷◌, filter, true, false, Bool, None, Option, Some, Ok, Err, Result, Vec, refl, sym, ap, ap₂, subst, ◌∙◌, inl, inr, arith}
use Rattle.std.specs.Prelude.{IfOk, IsSome, ◌⊎◌, unwrap_or}
use Rattle.std.specs.declared.alloc.Global.{Global}
use Rattle.std.specs.List.Sorted.{IsPermutation}
use Rattle.std.proofs.lemmas.Bool.{cases_Bool, lt-ltb}
use Rattle.std.proofs.lemmas.Bool.Decides.{leb_tells}
use Rattle.std.specs.Ordering.{is_eq, is_gt, is_lt, ordering_reverse}
use Rattle.std.specs.declared.cmp.Ordering.TheVariants.{Less, Greater}
use Rattle.sqlite.specs.declared.error.Error.{Error}
use Rattle.sqlite.specs.declared.types.Value.{Value}
use Rattle.sqlite.specs.declared.types.Value.TheVariants.{Null, Int, Real, Text, Blob}
use Rattle.sqlite.specs.Order.{Row, column, value_cmp}
use Rattle.sqlite.specs.Tree.{Trees, has_rowid}
use Rattle.sqlite.specs.Term.{col, eval_all, holds}
use Rattle.sqlite.specs.Ops.{binary, is_true, from_truth, truth, or3}
use Rattle.sqlite_sql.specs.declared.ops.BinaryOp.TheVariants as by
use Rattle.sqlite_sql.specs.declared.ops.CompareOp.TheVariants.{Lt, Gt}
use Rattle.sqlite.specs.Collation.TheVariants.{Binary}
use Rattle.sqlite.specs.Effect.{Database, Answers}
use Rattle.sqlite.specs.Listing.{understood}
use Rattle.sqlite.specs.State.{State, Shown}
use Rattle.sqlite.proofs.Callers.{IsPlain, reads_as}
use Rattle.sqlite_value.proofs.OrderLemmas.{value_cmp-Null, value_cmp-Int, value_cmp_total}
use Rattle.press_wire.specs.Ranges.{last_slot}
use Rattle.press_store.specs.Tables.{Moved, schema_of, outside_text}
use Rattle.press_store.specs.Slots.{damaged_row, read_in, read_at, no_row, greatest_to, greater, ballot_of_row}
use Rattle.press_store.specs.Moving.{IsOutside, EndAt, ShowsOutside, BlocksMoved, all_blocks, first_behind}
use Rattle.press_store.proofs.Inside.{shown_same}
use Rattle.press_store.proofs.Put.{is_equal}
use Rattle.press_store.proofs.Queries.{back, none_of, picked}
use Rattle.press_store.proofs.Texts.{is_outside, outside_query, outside_select, outside_means}

-- ---- SQL's comparison

-- > of a value and a number
greater_int : (v : Value) (n : ℕ) → is_true (binary (by.Compare Gt Binary) v (Int (pos n))) ≡ is_gt (value_cmp v (Int (pos n)))
unfolding binary
greater_int Null n = rw (value_cmp-Null (Int (pos n)))
greater_int (Int m) n = back _
greater_int (Real x) n = back _
greater_int (Text t) n = back _
greater_int (Blob b) n = back _

above : (n s : ℕ) → n < s → value_cmp (Int (pos s)) (Int (pos n)) ≡ Greater
above n s less =
    let below : value_cmp (Int (pos n)) (Int (pos s)) ≡ Less = rw (value_cmp-Int, lt-ltb n s less) in
    value_cmp_total.antisymm (Int (pos s)) (Int (pos n)) ∙ ap ordering_reverse below

is_behind : (n s : ℕ) (r : Row) → n < s → has_rowid (pos s) r ≡ true → is_true (binary (by.Compare Gt Binary) (column r 0) (Int (pos n))) ≡ true
is_behind n s r less own = greater_int (column r 0) n ∙ ap is_gt (value_cmp_total.congr (column r 0) (Int (pos s)) (Int (pos n)) (is_equal _ own) ∙ above n s less)

-- < of a number and the first slot
less_first : (v : Value) (id : ℤ) → is_eq (value_cmp v (Int id)) ≡ true → is_true (binary (by.Compare Lt Binary) v (Int (pos 1))) ≡ is_lt (value_cmp v (Int (pos 1)))
unfolding binary
less_first Null id own = absurd (let e = rw (value_cmp-Null (Int id)) at own in cc)
less_first (Int m) id own = back _
less_first (Real x) id own = back _
less_first (Text t) id own = back _
less_first (Blob b) id own = back _

-- a number before the first slot
abbrev IsBefore : ℤ → Type 0
IsBefore (pos n) = n ≡ 0
IsBefore (negsuc n) = Unit {0}

below : (id : ℤ) → IsBefore id → value_cmp (Int id) (Int (pos 1)) ≡ Less
below (pos n) none = rw none (value_cmp-Int (pos 0) (pos 1))
below (negsuc n) _ = value_cmp-Int (negsuc n) (pos 1)

is_before : (id : ℤ) (r : Row) → IsBefore id → has_rowid id r ≡ true → is_true (binary (by.Compare Lt Binary) (column r 0) (Int (pos 1))) ≡ true
is_before id r before own = less_first (column r 0) id own ∙ ap is_lt (value_cmp_total.congr (column r 0) (Int id) (Int (pos 1)) (is_equal _ own) ∙ below id before)

or_true : (a b : Option Bool) → unwrap_or b false ≡ true → is_true (from_truth (or3 a b)) ≡ true
or_true a None h = absurd (let e = h in cc)
or_true a (Some false) h = absurd (let e = h in cc)
or_true None (Some true) h = refl
or_true (Some true) (Some true) h = refl
or_true (Some false) (Some true) h = refl

or_first : (a b : Option Bool) → unwrap_or a false ≡ true → is_true (from_truth (or3 a b)) ≡ true
or_first None b h = absurd (let e = h in cc)
or_first (Some false) b h = absurd (let e = h in cc)
or_first (Some true) None h = refl
or_first (Some true) (Some true) h = refl
or_first (Some true) (Some false) h = refl

first_holds : (v w : Value) → is_true v ≡ true → is_true (binary by.Or v w) ≡ true
unfolding binary
first_holds v w h = or_first (truth v) (truth w) h

-- what the second side says is said by both
second_holds : (v w : Value) → is_true w ≡ true → is_true (binary by.Or v w) ≡ true
unfolding binary
second_holds v w h = or_true (truth v) (truth w) h

-- ---- the rows

none_passes : (p q : Row → Bool) (rows : List Row) → ((r : Row) → p r ≡ true → q r ≡ true) → filter q rows ≡ [] → filter p rows ≡ []
none_passes p q [] so none = refl
none_passes p q (r ∷ rows) so none = elim (cases_Bool (p r)) [
  | inl on ↦ absurd (let e = rw (so r on) at none in cc)
  | inr off ↦ rw (off, none_passes p q rows so (rest (cases_Bool (q r)) none))
]
  where
    rest : (q r ≡ true) ⊎ (q r ≡ false) → filter q (r ∷ rows) ≡ [] → filter q rows ≡ []
    rest (inl on) h = absurd (let e = rw on at h in cc)
    rest (inr off) h = rw off at h

holds_outside : (n : ℕ) (id : ℤ) (r : Row) → IsOutside n id → has_rowid id r ≡ true → holds ((Int (pos n) ∷ []) ∷ r ∷ []) is_outside ≡ true
holds_outside n (pos s) r (inl none) own = first_holds _ _ (is_before (pos s) r none own)
holds_outside n (pos s) r (inr less) own = second_holds _ _ (is_behind n s r less own)
holds_outside n (negsuc s) r _ own = first_holds _ _ (is_before (negsuc s) r tt own)

none_outside : (db : Database) (n : ℕ) (rows : List Row) → Answers db (record { lets = []; body = outside_query }) (Int (pos n) ∷ []) rows → rows ≡ [] → EndAt n (db.trees 0)
none_outside db n rows h none id out =
    let params = Int (pos n) ∷ [] in
    let test : Row → Bool = λ r. holds (params ∷ r ∷ []) is_outside in
    let f : Row → Row = λ r. eval_all (col 1 0 ∷ []) (params ∷ r ∷ []) in
    let found = picked 0 is_outside (col 1 0 ∷ []) db params rows refl h in
    let left : filter test (db.trees 0) ≡ [] = none_of f (filter test (db.trees 0)) (subst (IsPermutation (Rattle.std.proofs.Common.map f (filter test (db.trees 0)))) none found) in
    none_passes (has_rowid id) test (db.trees 0) (λ r own. holds_outside n id r out own) left

pub outside_shown : (old new : State) (n : ℕ) (result : Result (Vec Row Global) Error) → old.now.schema ≡ schema_of Moved → IfOk result (λ rows. Shown outside_text (Int (pos n) ∷ []) old new rows.items)
    → IfOk result (λ rows. (new.now.schema ≡ schema_of Moved) × ShowsOutside n old.now.trees new.now.trees rows.items)
outside_shown old new n (Err e) has shown = tt
outside_shown old new n (Ok rows) has shown =
    let params = Int (pos n) ∷ [] in
    let plain = subst (λ s. IsPlain (understood s outside_text)) (sym has) outside_means.1 in
    let same = (shown_same outside_text params old new plain rows.items shown).0.now_is in
    let read = reads_as outside_text params old new (schema_of Moved) has outside_select outside_means.0 outside_means.1 outside_means.2 rows.items shown in
    (ap (λ (d : Database). d.schema) same ∙ has, record { same = ap (λ (d : Database). d.trees) same; none = none_outside old.now n rows.items read })

-- ---- blocks behind the last row

greatest_none : (slots : List Row) (first n : ℕ) → ((k : ℕ) → k < n → read_at slots (first + k) ≡ Some no_row) → greatest_to slots first n ≡ None
unfolding greatest_to
greatest_none slots first zero none = refl
greatest_none slots first (suc n) none = ap₂ greater (greatest_none slots first n (λ k low. none k (omega (arith, low)))) (ap (λ o. ballot_of_row (unwrap_or o damaged_row)) (none n (omega arith)))

free_read : (slots : List Row) (s : ℕ) → filter (has_rowid (pos s)) slots ≡ [] → read_at slots s ≡ Some no_row
unfolding read_at
free_read slots s free = ap read_in free

further : (m n : ℕ) (id : ℤ) → m ≤ n → IsOutside n id → IsOutside m id
further m n (pos s) more (inl none) = inl none
further m n (pos s) more (inr less) = inr (omega (arith, more, less))
further m n (negsuc s) more out = tt

-- where no row stands behind so many blocks, all are moved
pub rest_moved : (count : ℕ) (old mid new : Trees) → count ≤ all_blocks → BlocksMoved count old mid → new ≡ mid → EndAt (16 * count) (mid 0) → BlocksMoved all_blocks old new × EndAt last_slot (old 0)
rest_moved count old mid new few h same none =
    let ends : EndAt (16 * count) (old 0) = subst (EndAt (16 * count)) h.stay.slots none in
    let before = λ (s : ℕ) (far : 16 * count < s). free_read (old 0) s (ends (pos s) (inr far)) in (
      subst (BlocksMoved all_blocks old) (sym same) (record {
        stay = h.stay;
        promises = λ j low. elim (leb_tells count j) [
          | inl past ↦ h.no_promise j past.1 ∙ sym (greatest_none (old 0) (first_behind j) 16 (λ k less. before (first_behind j + k) (omega (arith, past.1))))
          | inr early ↦ h.promises j (omega (arith, early.1))
        ];
        no_promise = λ j high. h.no_promise j (omega (arith, few, high));
        votes = λ s low high. elim (leb_tells (first_behind count) s) [
          | inl past ↦ h.no_vote s past.1 ∙ sym (ap (λ o. (unwrap_or o damaged_row).vote) (before s (omega (arith, past.1))))
          | inr early ↦ h.votes s low (omega (arith, early.1))
        ];
        no_vote = λ s high. h.no_vote s (omega (arith, few, high));
        sound = λ s low high. elim (leb_tells (first_behind count) s) [
          | inl past ↦ subst IsSome (sym (before s (omega (arith, past.1)))) refl
          | inr early ↦ h.sound s low (omega (arith, early.1))
        ];
      }),
      λ id out. ends id (further (16 * count) last_slot id (omega (arith, few)) out),
    )
