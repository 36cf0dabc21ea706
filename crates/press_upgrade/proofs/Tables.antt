-- Which callbacks stand in the tables: an edit puts in only the one that it is given.
use Rattle.std.proofs.Common.{ℕ, zero, suc, ℤ, List, [], ◌∷◌, ◌++◌, map, filter, insert, length, Bool, true, false, not, cond, ltb, Option, Some, None}
use Rattle.std.specs.Prelude.{IfSome, slice_get}
use Rattle.std.specs.List.{AllByRecursion, list_any}
use Rattle.press_hooks.specs.declared.row.Row.{Row}
use Rattle.press_hooks.specs.declared.entry.Entry.{Entry}
use Rattle.press_hooks.specs.declared.open_run.OpenRun.{OpenRun}
use Rattle.press_hooks.specs.HookRows.{accepted_as, add_row, entry_of, is_at, is_at_any, is_row, most_rows, place_in, put_row, remove_row, remove_rows}
use Rattle.press_hooks.specs.NextEntry.{entries_at, first_of, next_entry, next_priority, next_run, refilled_by, refilled_run, run_at_priority, without_first}
use Rattle.press_scan.specs.declared.tag_row.TagRow.{TagRow}
use Rattle.press_scan.specs.Tags.{add_tag, answered_by, callback_of, is_tag, remove_tag, takes_tag}

-- ---- lists, each of which a word holds

pub either : {A : Type 0} (P : A → Type 0) (b : Bool) (x y : A) → P x → P y → P (cond b x y)
either P true x y p q = p
either P false x y p q = q

pub each_filtered : {A : Type 0} (P : A → Type 0) (test : A → Bool) (xs : List A) → AllByRecursion P xs → AllByRecursion P (filter test xs)
each_filtered P test [] a = tt
each_filtered P test (x ∷ xs) a = either (AllByRecursion P) (test x) (x ∷ filter test xs) (filter test xs) (a.0, each_filtered P test xs a.1) (each_filtered P test xs a.1)

pub each_inserted : {A : Type 0} (P : A → Type 0) (x : A) (xs : List A) (i : ℕ) → P x → AllByRecursion P xs → AllByRecursion P (insert xs i x)
each_inserted P x [] zero p a = (p, tt)
each_inserted P x [] (suc i) p a = (p, tt)
each_inserted P x (y ∷ ys) zero p a = (p, a)
each_inserted P x (y ∷ ys) (suc i) p a = (a.0, each_inserted P x ys i p a.1)

pub each_mapped : {A B : Type 0} (P : B → Type 0) (f : A → B) (xs : List A) → AllByRecursion (λ x. P (f x)) xs → AllByRecursion P (map f xs)
each_mapped P f [] a = tt
each_mapped P f (x ∷ xs) a = (a.0, each_mapped P f xs a.1)

pub each_under : {A B : Type 0} (P : B → Type 0) (f : A → B) (xs : List A) → AllByRecursion P (map f xs) → AllByRecursion (λ x. P (f x)) xs
each_under P f [] a = tt
each_under P f (x ∷ xs) a = (a.0, each_under P f xs a.1)

pub each_as : {A : Type 0} (P Q : A → Type 0) (xs : List A) → ((x : A) → P x → Q x) → AllByRecursion P xs → AllByRecursion Q xs
each_as P Q [] f a = tt
each_as P Q (x ∷ xs) f a = (f x a.0, each_as P Q xs f a.1)

each_last : {A : Type 0} (P : A → Type 0) (x : A) (xs : List A) → P x → AllByRecursion P xs → AllByRecursion P (xs ++ x ∷ [])
each_last P x [] p a = (p, tt)
each_last P x (y ∷ ys) p a = (a.0, each_last P x ys p a.1)

pub each_at : {A : Type 0} (P : A → Type 0) (xs : List A) (i : ℕ) → AllByRecursion P xs → IfSome (slice_get xs i) P
each_at P [] i a = tt
each_at P (x ∷ xs) zero a = a.0
each_at P (x ∷ xs) (suc i) a = each_at P xs i a.1

-- ---- tables whose callbacks are of one kind

module _ (P : List ℕ → Type 0) where
  abbrev pub OfRow : Row → Type 0
  OfRow r = P r.callback

  abbrev pub OfTag : TagRow → Type 0
  OfTag r = P r.callback

  abbrev pub OfEntry : Entry → Type 0
  OfEntry e = P e.callback

  abbrev pub RowsAre : List Row → Type 0
  RowsAre rows = AllByRecursion OfRow rows

  abbrev pub TagsAre : List TagRow → Type 0
  TagsAre rows = AllByRecursion OfTag rows

  abbrev pub RunIs : OpenRun → Type 0
  RunIs run = AllByRecursion OfEntry run.rest

  -- ---- rows

  accepted : (hook callback : List ℕ) (priority : ℤ) (count : ℕ) (r : Row) → OfRow r → OfRow (accepted_as hook priority callback count r)
  accepted hook callback priority count r p = go (is_row hook priority callback r)
    where
      go : (b : Bool) → OfRow (elim b [ true ↦ record r { accepted = count } | false ↦ r ])
      go true = p
      go false = p

  pub rows_added : (hook callback : List ℕ) (priority : ℤ) (count : ℕ) (rows : List Row) → P callback → RowsAre rows → RowsAre (add_row hook callback priority count rows)
  rows_added hook callback priority count rows p a =
      let row : Row = record { hook = hook; priority = priority; callback = callback; accepted = count } in
      either RowsAre (list_any (is_row hook priority callback) rows) (map (accepted_as hook priority callback count) rows) (cond (ltb (length rows) most_rows) (put_row row rows) rows)
      (each_mapped OfRow (accepted_as hook priority callback count) rows (each_as OfRow (λ r. OfRow (accepted_as hook priority callback count r)) rows (accepted hook callback priority count) a))
      (either RowsAre (ltb (length rows) most_rows) (put_row row rows) rows (each_inserted OfRow row rows (place_in hook priority rows) p a) a)

  pub row_removed : (hook callback : List ℕ) (priority : ℤ) (rows : List Row) → RowsAre rows → RowsAre (remove_row hook callback priority rows)
  row_removed hook callback priority rows a = each_filtered OfRow (λ r. not (is_row hook priority callback r)) rows a

  pub rows_removed : (hook : List ℕ) (priority : Option ℤ) (rows : List Row) → RowsAre rows → RowsAre (remove_rows hook priority rows)
  rows_removed hook priority rows a = each_filtered OfRow (λ r. not (is_at_any hook priority r)) rows a

  -- ---- open runs

  entries_are : (rows : List Row) (hook : List ℕ) (priority : ℤ) → RowsAre rows → AllByRecursion OfEntry (entries_at rows hook priority)
  entries_are rows hook priority a = each_mapped OfEntry entry_of (filter (is_at hook priority) rows) (each_filtered OfRow (is_at hook priority) rows a)

  at_priority : (rows : List Row) (run : OpenRun) (o : Option ℤ) → RowsAre rows → RunIs run → RunIs (run_at_priority rows run o)
  at_priority rows run None a b = b
  at_priority rows run (Some p) a b = entries_are rows run.hook p a

  refilled_where : (rows : List Row) (run : OpenRun) (rest : List Entry) → RowsAre rows → RunIs run → RunIs (refilled_by rows run rest)
  refilled_where rows run [] a b = at_priority rows run (next_priority rows run) a b
  refilled_where rows run (e ∷ es) a b = b

  refilled : (rows : List Row) (run : OpenRun) → RowsAre rows → RunIs run → RunIs (refilled_run rows run)
  refilled rows run a b = refilled_where rows run run.rest a b

  first_is : (es : List Entry) → AllByRecursion OfEntry es → IfSome (first_of es) OfEntry
  first_is [] a = tt
  first_is (e ∷ es) a = a.0

  rest_is : (es : List Entry) → AllByRecursion OfEntry es → AllByRecursion OfEntry (without_first es)
  rest_is [] a = tt
  rest_is (e ∷ es) a = a.1

  pub entry_is : (rows : List Row) (run : OpenRun) → RowsAre rows → RunIs run → IfSome (next_entry rows run) OfEntry
  entry_is rows run a b = first_is (refilled_run rows run).rest (refilled rows run a b)

  pub run_goes_on : (rows : List Row) (run : OpenRun) → RowsAre rows → RunIs run → RunIs (next_run rows run)
  run_goes_on rows run a b = rest_is (refilled_run rows run).rest (refilled rows run a b)

  -- ---- tags

  answered : (name callback : List ℕ) (r : TagRow) → P callback → OfTag r → OfTag (answered_by name callback r)
  answered name callback r p q = go (is_tag name r)
    where
      go : (b : Bool) → OfTag (elim b [ true ↦ record r { callback = callback } | false ↦ r ])
      go true = p
      go false = q

  pub tags_added : (name callback : List ℕ) (rows : List TagRow) → P callback → TagsAre rows → TagsAre (add_tag name callback rows)
  tags_added name callback rows p a =
      let row : TagRow = record { name = name; callback = callback } in
      either TagsAre (list_any (is_tag name) rows) (map (answered_by name callback) rows) (cond (takes_tag name rows) (rows ++ row ∷ []) rows)
      (each_mapped OfTag (answered_by name callback) rows (each_as OfTag (λ r. OfTag (answered_by name callback r)) rows (λ r q. answered name callback r p q) a))
      (either TagsAre (takes_tag name rows) (rows ++ row ∷ []) rows (each_last OfTag row rows p a) a)

  pub tag_removed : (name : List ℕ) (rows : List TagRow) → TagsAre rows → TagsAre (remove_tag name rows)
  tag_removed name rows a = each_filtered OfTag (λ r. not (is_tag name r)) rows a

  pub callback_is : (name : List ℕ) (rows : List TagRow) → TagsAre rows → IfSome (callback_of name rows) P
  callback_is name [] a = tt
  callback_is name (r ∷ rs) a = either (λ o. IfSome o P) (is_tag name r) (Some r.callback) (callback_of name rs) a.0 (callback_is name rs a.1)
