-- The innermost run, which is the last of the runs in the order in which they began, and the cursors of runs.
use Rattle.std.proofs.Common.{◌≡◌, refl, sym, ◌∙◌, ap, ap₂, subst, ℕ, zero, suc, ◌+◌, ◌<◌, List, [], ◌∷◌, map, length, get_or, set, take, arith, reverse, Bool, true, false, cond, bytes_eq}
use Rattle.std.proofs.Math.ListN.{get_or-map}
use Rattle.std.proofs.lemmas.List.{map-set}
use Rattle.std.proofs.lemmas.List.{length-reverse}
use Rattle.std.proofs.lemmas.Bool.{eqb-true}
use Rattle.press_hooks.specs.declared.row.Row.{Row}
use Rattle.press_hooks.specs.declared.open_run.OpenRun.{OpenRun}
use Rattle.press_hooks.specs.declared.open_run.PlacedRun.{PlacedRun}
use Rattle.press_hooks.specs.Hooked.{HookView, IsEach, KeepsOthers, groups_named, table_rows, up_to}
use Rattle.press_hooks.specs.Placed.{IsInPlace, mend_cursor, open_runs_of}
use Rattle.press_hooks.proofs.Cuts.{length_mapped}
use Rattle.press_hooks.proofs.ByPriority.{none_counted}
use Rattle.press_hooks.specs.NextEntry.{Table, with_rows, new_run, is_innermost, next_entry, next_run, entry_next, run_advanced, runs_next}
use Rattle.press_hooks.proofs.Lists.{reverse-last, reverse-set_last}

pub innermost_length : (i : ℕ) (runs : List OpenRun) → is_innermost i runs ≡ true → length runs ≡ i + 1
innermost_length i [] h = cc
innermost_length i (r ∷ rs) h = let e : i ≡ length rs = eqb-true i (length rs) h in omega arith

abbrev shown : List Row → List OpenRun → Table
shown rows runs = record { rows = rows; open_runs = runs }

advanced_shown : (rows : List Row) (runs : List OpenRun) (i : ℕ) (r r' : OpenRun) → is_innermost i (reverse runs) ≡ true → r ≡ get_or runs i r → r' ≡ next_run rows r → shown rows (reverse (set runs i r')) ≡ run_advanced (shown rows (reverse runs))
advanced_shown rows runs i r r' h e n =
    let k : length runs ≡ i + 1 = sym (length-reverse runs) ∙ innermost_length i (reverse runs) h in
    let first : reverse runs ≡ r ∷ reverse (take i runs) = reverse-last runs i r k ∙ ap (λ z. z ∷ reverse (take i runs)) (sym e) in
    let after : reverse (set runs i r') ≡ next_run rows r ∷ reverse (take i runs) = reverse-set_last runs i r r' k ∙ ap (λ z. z ∷ reverse (take i runs)) n in
    ap (shown rows) (after ∙ sym (ap (runs_next rows) first))

pub advanced : (rows : List Row) (runs : List OpenRun) (i : ℕ) (r r' : OpenRun) (t : Table) → shown rows (reverse runs) ≡ t → is_innermost i t.open_runs ≡ true → r ≡ get_or runs i r → r' ≡ next_run rows r → shown rows (reverse (set runs i r')) ≡ run_advanced t
advanced rows runs i r r' t v h e n =
    let P : Table → Type 0 = λ t. shown rows (reverse (set runs i r')) ≡ run_advanced t in
    let h' : is_innermost i (reverse runs) ≡ true = rw (ap (λ (w : Table). w.open_runs) v) h in
    subst P v (advanced_shown rows runs i r r' h' e n)

handed_shown : (rows : List Row) (runs : List OpenRun) (i : ℕ) (r : OpenRun) → is_innermost i (reverse runs) ≡ true → r ≡ get_or runs i r → next_entry rows r ≡ entry_next rows (reverse runs)
handed_shown rows runs i r h e =
    let k : length runs ≡ i + 1 = sym (length-reverse runs) ∙ innermost_length i (reverse runs) h in
    let first : reverse runs ≡ r ∷ reverse (take i runs) = reverse-last runs i r k ∙ ap (λ z. z ∷ reverse (take i runs)) (sym e) in
    sym (ap (entry_next rows) first)

pub handed : (rows : List Row) (runs : List OpenRun) (i : ℕ) (r : OpenRun) (t : Table) → shown rows (reverse runs) ≡ t → is_innermost i t.open_runs ≡ true → r ≡ get_or runs i r → next_entry rows r ≡ entry_next t.rows t.open_runs
handed rows runs i r t v h e =
    let P : Table → Type 0 = λ t. next_entry rows r ≡ entry_next t.rows t.open_runs in
    let h' : is_innermost i (reverse runs) ≡ true = rw (ap (λ (w : Table). w.open_runs) v) h in
    subst P v (handed_shown rows runs i r h' e)

-- ---- runs with their cursors

pub advanced_placed : (rows : List Row) (runs : List PlacedRun) (i : ℕ) (r r' : PlacedRun) (t : Table) → shown rows (open_runs_of runs) ≡ t → is_innermost i t.open_runs ≡ true → r ≡ get_or runs i r → r'.run ≡ next_run rows r.run → shown rows (open_runs_of (set runs i r')) ≡ run_advanced t
advanced_placed rows runs i r r' t v h e n =
    let run : PlacedRun → OpenRun = λ x. x.run in
    ap (λ xs. shown rows (reverse xs)) (map-set run runs i r') ∙ advanced rows (map run runs) i r.run r'.run t v h (ap run e ∙ sym (get_or-map run runs i r)) n

pub handed_placed : (rows : List Row) (runs : List PlacedRun) (i : ℕ) (r : PlacedRun) (t : Table) → shown rows (open_runs_of runs) ≡ t → is_innermost i t.open_runs ≡ true → r ≡ get_or runs i r → next_entry rows r.run ≡ entry_next t.rows t.open_runs
handed_placed rows runs i r t v h e =
    let run : PlacedRun → OpenRun = λ x. x.run in
    handed rows (map run runs) i r.run t v h (ap run e ∙ sym (get_or-map run runs i r))

pub innermost_within : (rows : List Row) (runs : List PlacedRun) (i : ℕ) (t : Table) → shown rows (open_runs_of runs) ≡ t → is_innermost i t.open_runs ≡ true → i < length runs
innermost_within rows runs i t v h =
    let run : PlacedRun → OpenRun = λ x. x.run in
    let h' : is_innermost i (reverse (map run runs)) ≡ true = rw (ap (λ (w : Table). w.open_runs) v) h in
    let k : length runs ≡ i + 1 = sym (length_mapped run runs) ∙ (sym (length-reverse (map run runs)) ∙ innermost_length i (reverse (map run runs)) h') in
    omega arith

pub each_set : {X : Type 0} (P : X → Type 0) (xs : List X) (i : ℕ) (y : X) → P y → IsEach P xs → IsEach P (set xs i y)
each_set P [] zero y p h = tt
each_set P [] (suc i) y p h = tt
each_set P (x ∷ xs) zero y p h = (p, h.1)
each_set P (x ∷ xs) (suc i) y p h = (h.0, each_set P xs i y p h.1)

pub begun_placed : (hs : List HookView) (hook : List ℕ) (r : PlacedRun) → r.run ≡ new_run hook → r.cursor ≡ 0 → IsInPlace hs r
begun_placed hs hook r e k = k ∙ (none_counted (groups_named hook hs) ∙ ap (λ (x : OpenRun). up_to x.reached (groups_named x.hook hs)) (sym e))

-- ---- cursors after an edit of a hook

module _ (n : List ℕ) (old new : List HookView) (keeps : KeepsOthers n old new) where
  mended_one : (r : PlacedRun) (b : Bool) → bytes_eq r.run.hook n ≡ b → IsInPlace old r → IsInPlace new (cond b (record r { cursor = up_to r.run.reached (groups_named r.run.hook new) }) r)
  mended_one r true e at = refl
  mended_one r false e at = at ∙ ap (up_to r.run.reached) (sym (keeps r.run.hook e))

  pub all_mended : (runs : List PlacedRun) → IsEach (IsInPlace old) runs → IsEach (IsInPlace new) (map (mend_cursor n new) runs)
  all_mended [] at = tt
  all_mended (r ∷ rs) at = (mended_one r (bytes_eq r.run.hook n) refl at.0, all_mended rs at.1)

run_kept : (r : PlacedRun) (k : ℕ) (b : Bool) → (let x : PlacedRun = cond b (record r { cursor = k }) r in x.run) ≡ r.run
run_kept r k true = refl
run_kept r k false = refl

runs_kept : (n : List ℕ) (hs : List HookView) (runs : List PlacedRun) → map (λ (r : PlacedRun). r.run) (map (mend_cursor n hs) runs) ≡ map (λ (r : PlacedRun). r.run) runs
runs_kept n hs [] = refl
runs_kept n hs (r ∷ rs) = ap₂ (λ (x : OpenRun) xs. x ∷ xs) (run_kept r (up_to r.run.reached (groups_named r.run.hook hs)) (bytes_eq r.run.hook n)) (runs_kept n hs rs)

pub edited_view : (n : List ℕ) (old new : List HookView) (runs after : List PlacedRun) (t : Table) (f : List Row → List Row) → shown (table_rows old) (open_runs_of runs) ≡ t → after ≡ map (mend_cursor n new) runs → table_rows new ≡ f (table_rows old) → shown (table_rows new) (open_runs_of after) ≡ with_rows (f t.rows) t
edited_view n old new runs after t f v e k =
    ap (λ (xs : List PlacedRun). shown (table_rows new) (open_runs_of xs)) e
    ∙ (ap (λ xs. shown (table_rows new) (reverse xs)) (runs_kept n new runs)
    ∙ (ap (λ rs. shown rs (open_runs_of runs)) k ∙ ap (λ (w : Table). with_rows (f w.rows) w) v))
