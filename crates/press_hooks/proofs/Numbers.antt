-- The rows that stand in order are the set of numbered rows in the order of hook, priority and number.
use Rattle.std.proofs.Common.{◌≡◌, refl, sym, ◌∙◌, ap, ℕ, suc, ℤ, ◌+◌, ◌<◌, ◌≤◌, List, [], ◌∷◌, map, filter, length, insert, unwrap_or, Option, Some, None, Bool, true, false, cond, not, ◌||◌, ltb, nat_lt, int_lt, int_eq, bytes_eq, nat_cmp, int_cmp, is_lt, Ordering, Less, Equal, Greater, arith, codes, pos}
use Rattle.std.specs.Ordering.{ordering_then}
use Rattle.std.specs.Cmp.{IsTotalOrder, signed_Decides, first_so, second_so}
use Rattle.std.specs.Cmp.Lexicographic.{slice_cmp}
use Rattle.std.specs.List.{list_any, position_or_len}
use Rattle.std.proofs.lemmas.Cmp.{on_total, then_total, nat_list_cmp_total, int_cmp_total, nat_cmp_total, tied_itself, ranked}
use Rattle.std.proofs.lemmas.Int.{ints}
use Rattle.std.proofs.lemmas.Slice.Eq.{bytes_eq-Decides}
use Rattle.press_hooks.specs.declared.row.Row.{Row}
use Rattle.press_hooks.specs.HookRows.{is_row, most_rows, accepted_as, adds_row, put_row, stands_after, is_at, is_at_any, is_of_callback, least_priority, least_with, lesser, priority_of, is_of_hook, has_rows, entry_of}
use Rattle.press_hooks.specs.NextEntry.{entries_at, is_ahead}
use Rattle.press_hooks.specs.Numbered.{NumberedRow, NumberedTable, rows_of, numbered_stands, numbered_has_room, numbered_accept, numbered_put, number_cmp, key_cmp, put_sorted, sorted_by, in_order, rows_in_order, numbered_entries, Edit, Add, Remove, RemoveAll, numbered_edit, ordered_edit, numbered_after, ordered_after, Agrees}
use Rattle.press_hooks.proofs.NumbersSort.{Every, every_weaker, Every-map, Every-filter, every_passes, Every-sorted_by, sorting_keeps, sorted_by-map, sorted_by-filter, sorted_same}

-- ---- the rows of a set in order, and the rows of the set

key_total : IsTotalOrder key_cmp
key_total = then_total (on_total (λ (e : NumberedRow). e.row.hook) nat_list_cmp_total) (then_total (on_total (λ (e : NumberedRow). e.row.priority) int_cmp_total) (on_total (λ (e : NumberedRow). e.number) nat_cmp_total))

or_swaps : (a b c : Bool) → (a || (b || c)) ≡ (b || (a || c))
or_swaps true true c = refl
or_swaps true false c = refl
or_swaps false true c = refl
or_swaps false false c = refl

any_rows : (p : Row → Bool) (rows : List NumberedRow) → list_any (λ (e : NumberedRow). p e.row) rows ≡ list_any p (rows_of rows)
any_rows p [] = refl
any_rows p (e ∷ es) = ap (λ b. p e.row || b) (any_rows p es)

any_in_order : (p : Row → Bool) (rows : List NumberedRow) → list_any (λ (e : NumberedRow). p e.row) rows ≡ list_any p (rows_of (in_order rows))
any_in_order p rows =
    sym (sorting_keeps key_cmp (list_any (λ (e : NumberedRow). p e.row)) (λ e b. p e.row || b) (λ x xs. refl) (λ a b y. or_swaps (p a.row) (p b.row) y) rows) ∙ any_rows p (in_order rows)

length_in_order : (rows : List NumberedRow) → length rows ≡ length (rows_of (in_order rows))
length_in_order rows = sym (sorting_keeps key_cmp (λ xs. length (rows_of xs)) (λ e n. suc n) (λ x xs. refl) (λ a b y. refl) rows ∙ length_rows rows)
  where
    length_rows : (xs : List NumberedRow) → length (rows_of xs) ≡ length xs
    length_rows [] = refl
    length_rows (x ∷ xs) = ap suc (length_rows xs)

abbrev pick : Bool → ℤ → ℤ → ℤ
pick b p q = elim b [ true ↦ q | false ↦ p ]

two_by : (a b : Bool) (p q : ℤ) → int_lt q p ≡ a → int_lt p q ≡ b → pick a p q ≡ pick b q p
two_by true true p q h k = grind (arith, ints)
two_by true false p q h k = refl
two_by false true p q h k = refl
two_by false false p q h k = grind (arith, ints)

three_by : (a b : Bool) (p q r : ℤ) → int_lt r q ≡ a → int_lt r p ≡ b → pick (int_lt (pick a q r) p) p (pick a q r) ≡ pick (int_lt (pick b p r) q) q (pick b p r)
three_by true true p q r h k = ap (λ v. pick v p r) k ∙ ap (λ v. pick v q r) (sym h)
three_by true false p q r h k = let less : int_lt p q ≡ true = grind (arith, ints) in ap (λ v. pick v p r) k ∙ ap (λ v. pick v q p) (sym less)
three_by false true p q r h k = let less : int_lt q p ≡ true = grind (arith, ints) in ap (λ v. pick v p q) less ∙ ap (λ v. pick v q r) (sym h)
three_by false false p q r h k = two_by (int_lt q p) (int_lt p q) p q refl refl

lesser_swaps : (p q : ℤ) (o : Option ℤ) → lesser p (Some (lesser q o)) ≡ lesser q (Some (lesser p o))
lesser_swaps p q None = two_by (int_lt q p) (int_lt p q) p q refl refl
lesser_swaps p q (Some r) = three_by (int_lt r q) (int_lt r p) p q r refl refl

least_by : (a b : Bool) (p q : ℤ) (o : Option ℤ) → cond a (Some (lesser p (cond b (Some (lesser q o)) o))) (cond b (Some (lesser q o)) o) ≡ cond b (Some (lesser q (cond a (Some (lesser p o)) o))) (cond a (Some (lesser p o)) o)
least_by true true p q o = ap Some (lesser_swaps p q o)
least_by true false p q o = refl
least_by false true p q o = refl
least_by false false p q o = refl

least_in_order : (test : Row → Bool) (rows : List NumberedRow) → least_priority test (rows_of rows) ≡ least_priority test (rows_of (in_order rows))
least_in_order test rows =
    sym (sorting_keeps key_cmp (λ xs. least_priority test (rows_of xs)) (λ e o. least_with test e.row o) (λ x xs. refl) (λ a b y. least_by (test a.row) (test b.row) a.row.priority b.row.priority y) rows)

filter_by : (b : Bool) (x : NumberedRow) (xs : List NumberedRow) → rows_of (cond b (x ∷ xs) xs) ≡ cond b (x.row ∷ rows_of xs) (rows_of xs)
filter_by true x xs = refl
filter_by false x xs = refl

filter_rows : (p : Row → Bool) (rows : List NumberedRow) → rows_of (filter (λ (e : NumberedRow). p e.row) rows) ≡ filter p (rows_of rows)
filter_rows p [] = refl
filter_rows p (e ∷ es) = filter_by (p e.row) e (filter (λ (e : NumberedRow). p e.row) es) ∙ ap (λ rs. cond (p e.row) (e.row ∷ rs) rs) (filter_rows p es)

filter_in_order : (p : Row → Bool) (rows : List NumberedRow) → rows_of (in_order (filter (λ (e : NumberedRow). p e.row) rows)) ≡ filter p (rows_of (in_order rows))
filter_in_order p rows = ap rows_of (sorted_by-filter key_total (λ (e : NumberedRow). p e.row) rows) ∙ filter_rows p (in_order rows)

-- ---- add

abbrev accepted_row : List ℕ → ℤ → List ℕ → ℕ → NumberedRow → NumberedRow
accepted_row hook priority callback accepted e = record e { row = accepted_as hook priority callback accepted e.row }

module _ (hook : List ℕ) (priority : ℤ) (callback : List ℕ) (accepted : ℕ) where
  hook_by : (b : Bool) (r : Row) → (let x : Row = elim b [ true ↦ record r { accepted = accepted } | false ↦ r ] in x.hook) ≡ r.hook
  hook_by true r = refl
  hook_by false r = refl

  priority_by : (b : Bool) (r : Row) → (let x : Row = elim b [ true ↦ record r { accepted = accepted } | false ↦ r ] in x.priority) ≡ r.priority
  priority_by true r = refl
  priority_by false r = refl

  accepted-hook : (r : Row) → (accepted_as hook priority callback accepted r).hook ≡ r.hook
  accepted-hook r = hook_by (is_row hook priority callback r) r

  accepted-priority : (r : Row) → (accepted_as hook priority callback accepted r).priority ≡ r.priority
  accepted-priority r = priority_by (is_row hook priority callback r) r

  unseen : (a b : NumberedRow) → key_cmp (accepted_row hook priority callback accepted a) (accepted_row hook priority callback accepted b) ≡ key_cmp a b
  unseen a b = λ i. ordering_then (slice_cmp nat_cmp (accepted-hook a.row i) (accepted-hook b.row i)) (ordering_then (int_cmp (accepted-priority a.row i) (accepted-priority b.row i)) (number_cmp a b))

  accepted_rows : (rows : List NumberedRow) → rows_of (map (accepted_row hook priority callback accepted) rows) ≡ map (accepted_as hook priority callback accepted) (rows_of rows)
  accepted_rows [] = refl
  accepted_rows (e ∷ es) = ap (λ rs. accepted_as hook priority callback accepted e.row ∷ rs) (accepted_rows es)

  accepted_in_order : (rows : List NumberedRow) → rows_of (in_order (map (accepted_row hook priority callback accepted) rows)) ≡ map (accepted_as hook priority callback accepted) (rows_of (in_order rows))
  accepted_in_order rows = ap rows_of (sorted_by-map key_cmp (accepted_row hook priority callback accepted) unseen rows) ∙ accepted_rows (in_order rows)

-- before the first row that passes, or last
abbrev pub put_before : (Row → Bool) → Row → List Row → List Row
put_before t r [] = r ∷ []
put_before t r (x ∷ xs) = cond (t x) (r ∷ x ∷ xs) (x ∷ put_before t r xs)

inserted_by : (b : Bool) (t : Row → Bool) (r x : Row) (xs : List Row) → insert xs (position_or_len t xs) r ≡ put_before t r xs → insert (x ∷ xs) (cond (not b) (1 + position_or_len t xs) 0) r ≡ cond b (r ∷ x ∷ xs) (x ∷ put_before t r xs)
inserted_by true t r x xs e = refl
inserted_by false t r x xs e =
    let k : 1 + position_or_len t xs ≡ suc (position_or_len t xs) = omega arith in
    rw k (ap (λ zs. x ∷ zs) e)

inserted : (t : Row → Bool) (r : Row) (xs : List Row) → insert xs (position_or_len t xs) r ≡ put_before t r xs
inserted t r [] = refl
inserted t r (x ∷ xs) = inserted_by (t x) t r x xs (inserted t r xs)

len_by : (b : Bool) (n m : ℕ) → n ≤ m → cond (not b) (1 + n) 0 ≤ suc m
len_by true n m h = omega arith
len_by false n m h = omega arith

within : (t : Row → Bool) (xs : List Row) → position_or_len t xs ≤ length xs
within t [] = omega arith
within t (x ∷ xs) = len_by (t x) (position_or_len t xs) (length xs) (within t xs)

place_by : (b : Bool) (n m : ℕ) → nat_lt n m ≡ b → n ≤ m → unwrap_or (cond b (Some n) None) m ≡ n
place_by true n m e h = refl
place_by false n m e h = grind arith

pub put_is : (r : Row) (xs : List Row) → put_row r xs ≡ put_before (stands_after r.hook r.priority) r xs
put_is r xs =
    let t : Row → Bool = stands_after r.hook r.priority in
    ap (λ n. insert xs n r) (place_by (nat_lt (position_or_len t xs) (length xs)) (position_or_len t xs) (length xs) refl (within t xs)) ∙ inserted t r xs

later_by : (x y : ℕ) (o : Ordering) → o ≡ nat_cmp x y → y < x → is_lt o ≡ false
later_by x y Less e h = let k : x < y = ranked x y Less e in absurd (omega arith)
later_by x y Equal e h = refl
later_by x y Greater e h = refl

priority_then : (a b : Bool) (o : Ordering) → is_lt o ≡ false → is_lt (ordering_then (cond a Less (cond b Greater Equal)) o) ≡ a
priority_then true b o h = refl
priority_then false true o h = refl
priority_then false false o h = h

hook_then : (k o : Ordering) (b : Bool) → is_lt o ≡ b → is_lt (ordering_then k o) ≡ elim k [ Less ↦ true | Equal ↦ b | Greater ↦ false ]
hook_then Less o b h = refl
hook_then Equal o b h = h
hook_then Greater o b h = refl

stands_after_is : (new e : NumberedRow) → e.number < new.number → is_lt (key_cmp new e) ≡ stands_after new.row.hook new.row.priority e.row
stands_after_is new e h =
    hook_then (slice_cmp nat_cmp new.row.hook e.row.hook) (ordering_then (int_cmp new.row.priority e.row.priority) (number_cmp new e)) (int_lt new.row.priority e.row.priority)
    (priority_then (int_lt new.row.priority e.row.priority) (int_lt e.row.priority new.row.priority) (number_cmp new e) (later_by new.number e.number (number_cmp new e) refl h))

put_rows_by : (b : Bool) (new x : NumberedRow) (xs : List NumberedRow) (zs : List Row) → rows_of (put_sorted key_cmp new xs) ≡ zs → rows_of (cond b (new ∷ x ∷ xs) (x ∷ put_sorted key_cmp new xs)) ≡ cond b (new.row ∷ x.row ∷ rows_of xs) (x.row ∷ zs)
put_rows_by true new x xs zs e = refl
put_rows_by false new x xs zs e = ap (λ rs. x.row ∷ rs) e

put_rows : (new : NumberedRow) (xs : List NumberedRow) → Every (λ (e : NumberedRow). e.number < new.number) xs → rows_of (put_sorted key_cmp new xs) ≡ put_before (stands_after new.row.hook new.row.priority) new.row (rows_of xs)
put_rows new [] h = refl
put_rows new (x ∷ xs) h =
    let zs : List Row = put_before (stands_after new.row.hook new.row.priority) new.row (rows_of xs) in
    put_rows_by (is_lt (key_cmp new x)) new x xs zs (put_rows new xs h.1) ∙ ap (λ b. cond b (new.row ∷ x.row ∷ rows_of xs) (x.row ∷ zs)) (stands_after_is new x h.0)

abbrev Numbers : NumberedTable → Type 0
Numbers n = Every (λ (e : NumberedRow). e.number < n.counter) n.rows

put_in_order : (r : Row) (n : NumberedTable) → Numbers n → rows_in_order (numbered_put r n) ≡ put_row r (rows_in_order n)
put_in_order r n h =
    let new : NumberedRow = record { number = n.counter; row = r } in
    put_rows new (in_order n.rows) (Every-sorted_by key_cmp (λ (e : NumberedRow). e.number < n.counter) n.rows h) ∙ sym (put_is r (rows_in_order n))

add_by : (s t : Bool) (hook callback : List ℕ) (priority : ℤ) (accepted : ℕ) (n : NumberedTable) → Numbers n →
    let r : Row = record { hook = hook; priority = priority; callback = callback; accepted = accepted } in
    rows_in_order (cond s (numbered_accept hook callback priority accepted n) (cond t (numbered_put r n) n)) ≡ cond s (map (accepted_as hook priority callback accepted) (rows_in_order n)) (cond t (put_row r (rows_in_order n)) (rows_in_order n))
add_by true t hook callback priority accepted n h = accepted_in_order hook priority callback accepted n.rows
add_by false true hook callback priority accepted n h = put_in_order (record { hook = hook; priority = priority; callback = callback; accepted = accepted }) n h
add_by false false hook callback priority accepted n h = refl

stands_same : (hook callback : List ℕ) (priority : ℤ) (n : NumberedTable) → numbered_stands hook callback priority n ≡ list_any (is_row hook priority callback) (rows_in_order n)
stands_same hook callback priority n = any_in_order (is_row hook priority callback) n.rows

room_same : (n : NumberedTable) → numbered_has_room n ≡ ltb (length (rows_in_order n)) most_rows
room_same n = ap (λ k. ltb k most_rows) (length_in_order n.rows)

-- ---- each edit

rows_step : (e : Edit) (n : NumberedTable) → Numbers n → rows_in_order (numbered_edit e n) ≡ ordered_edit e (rows_in_order n)
rows_step (Add hook callback priority accepted) n h =
    let rows : List Row = rows_in_order n in
    let r : Row = record { hook = hook; priority = priority; callback = callback; accepted = accepted } in
    add_by (numbered_stands hook callback priority n) (numbered_has_room n) hook callback priority accepted n h
    ∙ (λ i. cond (stands_same hook callback priority n i) (map (accepted_as hook priority callback accepted) rows) (cond (room_same n i) (put_row r rows) rows))
rows_step (Remove hook callback priority) n h = filter_in_order (λ r. not (is_row hook priority callback r)) n.rows
rows_step (RemoveAll hook priority) n h = filter_in_order (λ r. not (is_at_any hook priority r)) n.rows

numbers_by : (s t : Bool) (hook callback : List ℕ) (priority : ℤ) (accepted : ℕ) (n : NumberedTable) (r : Row) → Numbers n → Numbers (cond s (numbered_accept hook callback priority accepted n) (cond t (numbered_put r n) n))
numbers_by true t hook callback priority accepted n r h = Every-map (λ (e : NumberedRow). e.number < n.counter) (accepted_row hook priority callback accepted) (λ e k. k) n.rows h
numbers_by false true hook callback priority accepted n r h =
    (omega arith, every_weaker (λ (e : NumberedRow). e.number < n.counter) (λ (e : NumberedRow). e.number < n.counter + 1) (λ e k. omega arith) n.rows h)
numbers_by false false hook callback priority accepted n r h = h

numbers_step : (e : Edit) (n : NumberedTable) → Numbers n → Numbers (numbered_edit e n)
numbers_step (Add hook callback priority accepted) n h = numbers_by (numbered_stands hook callback priority n) (numbered_has_room n) hook callback priority accepted n (record { hook = hook; priority = priority; callback = callback; accepted = accepted }) h
numbers_step (Remove hook callback priority) n h = Every-filter (λ (e : NumberedRow). e.number < n.counter) (λ (e : NumberedRow). not (is_row hook priority callback e.row)) n.rows h
numbers_step (RemoveAll hook priority) n h = Every-filter (λ (e : NumberedRow). e.number < n.counter) (λ (e : NumberedRow). not (is_at_any hook priority e.row)) n.rows h

-- every number is below the counter
numbers_below : (edits : List Edit) → Numbers (numbered_after edits)
numbers_below [] = tt
numbers_below (e ∷ es) = numbers_step e (numbered_after es) (numbers_below es)

same_rows : (edits : List Edit) → rows_in_order (numbered_after edits) ≡ ordered_after edits
same_rows [] = refl
same_rows (e ∷ es) = rows_step e (numbered_after es) (numbers_below es) ∙ ap (ordered_edit e) (same_rows es)

-- ---- the entries at a priority

module _ (hook : List ℕ) (priority : ℤ) where
  hook_is : (r : Row) → is_at hook priority r ≡ true → r.hook ≡ hook
  hook_is r h = (bytes_eq-Decides r.hook hook).0 (first_so (bytes_eq r.hook hook) (int_eq r.priority priority) h)

  priority_is : (r : Row) → is_at hook priority r ≡ true → r.priority ≡ priority
  priority_is r h = (signed_Decides r.priority priority).0 (second_so (bytes_eq r.hook hook) (int_eq r.priority priority) h)

  by_number : (a b : NumberedRow) → is_at hook priority a.row ≡ true → is_at hook priority b.row ≡ true → key_cmp a b ≡ number_cmp a b
  by_number a b h k =
      (λ i. ordering_then (slice_cmp nat_cmp (hook_is a.row h i) (hook_is b.row k i)) (ordering_then (int_cmp (priority_is a.row h i) (priority_is b.row k i)) (number_cmp a b)))
      ∙ (λ i. ordering_then (tied_itself nat_list_cmp_total hook i) (ordering_then (tied_itself int_cmp_total priority i) (number_cmp a b)))

  entries_same : (n : NumberedTable) → numbered_entries hook priority n ≡ entries_at (rows_in_order n) hook priority
  entries_same n =
      let at : NumberedRow → Bool = λ (e : NumberedRow). is_at hook priority e.row in
      let some : List NumberedRow = filter at n.rows in
      let keyed : sorted_by key_cmp some ≡ sorted_by number_cmp some = sorted_same key_cmp number_cmp (λ e. at e ≡ true) by_number some (every_passes at n.rows) in
      ap (λ rs. map entry_of (rows_of rs)) (sym keyed) ∙ ap (map entry_of) (filter_in_order (is_at hook priority) n.rows)

-- ---- the law

pub numbers_agree : (edits : List Edit) → Agrees edits
numbers_agree edits =
    let n : NumberedTable = numbered_after edits in
    let e : rows_in_order n ≡ ordered_after edits = same_rows edits in
    record {
      rows = e;
      adds = λ hook callback priority. (λ i. stands_same hook callback priority n i || room_same n i) ∙ ap (adds_row hook callback priority) e;
      finds = λ hook callback priority. stands_same hook callback priority n ∙ ap (list_any (is_row hook priority callback)) e;
      has = λ hook callback. least_in_order (is_of_callback hook callback) n.rows ∙ ap (priority_of hook callback) e;
      has_any = λ hook. any_in_order (is_of_hook hook) n.rows ∙ ap (has_rows hook) e;
      ahead = λ hook reached. least_in_order (is_ahead hook reached) n.rows ∙ ap (least_priority (is_ahead hook reached)) e;
      entries = λ hook priority. entries_same hook priority n ∙ ap (λ rows. entries_at rows hook priority) e;
    }

-- a and b at 10, and then a at 10 again: it changes `accepted` and keeps its place in front
abbrev row_at_10 : List ℕ → ℕ → Row
row_at_10 callback accepted = record { hook = codes "init"; priority = pos 10; callback = callback; accepted = accepted }

abbrev a_again : List Edit
a_again = Add (codes "init") (codes "a") (pos 10) 2 ∷ Add (codes "init") (codes "b") (pos 10) 1 ∷ Add (codes "init") (codes "a") (pos 10) 1 ∷ []

kept_place : rows_in_order (numbered_after a_again) ≡ row_at_10 (codes "a") 2 ∷ row_at_10 (codes "b") 1 ∷ []
kept_place = refl

counted_twice : (numbered_after a_again).counter ≡ 2
counted_twice = refl

-- a taken out and added again is a new row, which stands last
abbrev a_anew : List Edit
a_anew = Add (codes "init") (codes "a") (pos 10) 1 ∷ Remove (codes "init") (codes "a") (pos 10) ∷ Add (codes "init") (codes "b") (pos 10) 1 ∷ Add (codes "init") (codes "a") (pos 10) 1 ∷ []

new_place : rows_in_order (numbered_after a_anew) ≡ row_at_10 (codes "b") 1 ∷ row_at_10 (codes "a") 1 ∷ []
new_place = refl
