-- From what is written to what is seen of a store whose saves are counted.
use Rattle.std.proofs.Common.{◌≡◌, ℕ, List, true, Option, Some, None, Ok, Err, Result, refl, sym, ap, subst, ◌∙◌, inl, inr, arith}
use Rattle.std.specs.Prelude.{IsTrue, IfSome}
use Rattle.sqlite.specs.declared.error.Error.{Error}
use Rattle.sqlite.specs.Store.{Ghosts}
use Rattle.sqlite.specs.Tree.{Trees}
use Rattle.sqlite.specs.Effect.{Database}
use Rattle.sqlite.specs.State.{State, HasCleanDisk}
use Rattle.sqlite.specs.Held.{Held, state}
use Rattle.press_acceptor.specs.StoreMap.{StoreMap}
use Rattle.press_acceptor.specs.Seen.{Looks}
use Rattle.press_starts.specs.declared.mark.Mark.{Mark}
use Rattle.press_starts.specs.declared.sighting.Sighting.{Sighting}
use Rattle.press_store.specs.Stands.{store_in}
use Rattle.press_store.specs.Starts.{HasMark, is_start, starts_in}
use Rattle.press_store.specs.Kept.{Kept, kept_by, seen_of}
use Rattle.press_store.specs.Attempt.{Doubts, IsReady, Ready, Saved}
use Rattle.press_store.specs.Counting.{Counts, HasRunning, IsCounted, IsOfStart, IsRunning, WritesAll, BeginsStart, counted, first_mark, next_mark, starts_by}
use Rattle.press_store.proofs.Counted.{as_saved, begun_mark, counted_mark}

-- ---- the same of another result that ended alike

pub writes_ok : {A F B G : Type 0} (R : Trees → Trees → Type 0) (old new : State) (x : A) (y : B) → WritesAll {A = A} {F = F} R old new (Ok x) → WritesAll {A = B} {F = G} R old new (Ok y)
writes_ok R old new x y h = record { done = h.done; failed = tt; only = h.only; crash = h.crash }

pub writes_err : {A F B G : Type 0} (R : Trees → Trees → Type 0) (old new : State) (e : F) (f : G) → WritesAll {A = A} {F = F} R old new (Err e) → WritesAll {A = B} {F = G} R old new (Err f)
writes_err R old new e f h = record { done = tt; failed = h.failed; only = h.only; crash = h.crash }

-- nothing was written
pub writes_none : {S A F : Type 0} (g : Ghosts S) (law : (s : S) (db : Trees) → IsTrue (g.view s).is_open → g.recovers s db → db ≡ (g.view s).committed) (R : Trees → Trees → Type 0) (h : Held S) (f : F) → WritesAll {A = A} {F = F} R (state g h) (state g h) (Err f)
writes_none g law R h f = record { done = tt; failed = λ is. (is, refl); only = λ is db may. law h.store db is may; crash = λ db may. inl may }

-- ---- a start that begins

-- a write that leaves what the tables stand for is seen as a look
module _ {S : Type 0} (g : Ghosts S) (stays : (s : S) → IsTrue (g.view s).is_open → g.recovers s (g.view s).committed) (old new : Kept S) (R : Trees → Trees → Type 0) (stands : (a b : Trees) → R a b → store_in b ≡ store_in a) where
  pub begun_looks : {A F : Type 0} (result : Result A F) → WritesAll R (state g old.conn) (state g new.conn) result → Looks (seen_of g old) (seen_of g new)
  begun_looks (Ok x) h = record {
    was_open = λ _. h.done.0;
    same = λ _. stands (state g old.conn).committed.trees (state g new.conn).committed.trees h.done.2;
    crash = λ left may. elim (h.crash may.0 may.1) [
      | inl was ↦ (may.0, was, may.2)
      | inr by ↦ ((g.view old.conn.store).committed, stays old.conn.store by.0, may.2 ∙ stands (state g old.conn).committed.trees may.0 by.1)
    ];
  }
  begun_looks (Err e) h = record {
    was_open = λ is. (h.failed is).0;
    same = λ is. ap (λ (d : Database). store_in d.trees) (h.failed is).1;
    crash = λ left may. elim (h.crash may.0 may.1) [
      | inl was ↦ (may.0, was, may.2)
      | inr by ↦ ((g.view old.conn.store).committed, stays old.conn.store by.0, may.2 ∙ stands (state g old.conn).committed.trees may.0 by.1)
    ];
  }

-- the start that begins runs then
pub begins_running : {A F : Type 0} (start : ℕ) (old new : State) (x : A) → is_start start ≡ true → WritesAll {A = A} {F = F} (BeginsStart start) old new (Ok x) → IsRunning new (Some (first_mark start))
begins_running start old new x ok h is = begun_mark (λ store. store) (first_mark start) old.committed.trees new.committed.trees ok h.done.2

-- where nothing was written, the start that ran runs
pub failed_running : {A F : Type 0} (R : Trees → Trees → Type 0) (old new : State) (e : F) (mark : Option Mark) → WritesAll {A = A} {F = F} R old new (Err e) → IsRunning old mark → IsRunning new mark
failed_running R old new e None h was is = tt
failed_running R old new e (Some mark) h was is = subst (λ (d : Database). HasMark mark (starts_in d.trees)) (sym (h.failed is).1) (was (h.failed is).0)

-- ---- a save that is counted

-- the file has the start that the save is counted for
pub known_of : (s : State) (mark next : Mark) → next ≡ next_mark mark → IsRunning s (Some mark) → IsTrue s.is_open → (n : ℕ) × HasMark (record { start = next.start; saves = n }) (starts_by s)
known_of s mark next is running up = (mark.saves, subst (λ (start : ℕ). HasMark (record { start = start; saves = mark.saves }) (starts_by s)) (sym (ap (λ (m : Mark). m.start) is)) (running up))

pub counts_running : {A F : Type 0} (turn : StoreMap → StoreMap) (mark : Mark) (heard : List Sighting) (old new : State) (x : A) → is_start mark.start ≡ true → WritesAll {A = A} {F = F} (IsCounted turn (counted mark heard)) old new (Ok x) → IsRunning new (Some mark)
counts_running turn mark heard old new x ok h is = counted_mark turn mark heard old.committed.trees new.committed.trees ok h.done.2

module _ {S : Type 0} (g : Ghosts S) (old new : Held S) (mark : Option Mark) (was next : Mark) (turn : StoreMap → StoreMap) (heard : List Sighting) (is : mark ≡ Some was) (e : next ≡ next_mark was) (of : IsOfStart mark) (doubts : Doubts g old new) where
  start : is_start next.start ≡ true
  start = subst (λ (m : Mark). is_start m.start ≡ true) (sym e) (subst IsOfStart is of)

  abbrev R : Trees → Trees → Type 0
  R = IsCounted turn (counted next heard)

  module _ {A : Type 0} (result : Result A Error) (counts : Counts g old new next.start R result) where
    written : IsReady g old → HasRunning g old mark → HasCleanDisk (state g new) → Ready (state g new) × WritesAll R (state g old) (state g new) result
    written ready running clean =
        let early : HasCleanDisk (state g old) = omega (arith, doubts, clean) in
        let runs : IsRunning (state g old) (Some was) = subst (IsRunning (state g old)) is (running early) in
        counts clean ready (λ up. known_of (state g old) was next e runs up)

    pub count_saved : IsReady g old → HasRunning g old mark → HasCleanDisk (state g new) → Saved turn (state g old) (state g new) result
    count_saved ready running clean =
        let it = written ready running clean in
        as_saved turn R (λ a b h. h.stands) (state g old) (state g new) result it.0 it.1

    pub count_told : IsReady g old → HasRunning g old mark → HasCleanDisk (state g new) → IfSome mark (λ before. (heard : List Sighting) × WritesAll (IsCounted turn (counted (next_mark before) heard)) (state g old) (state g new) result)
    count_told ready running clean =
        let it = (written ready running clean).1 in
        subst (λ m. IfSome m (λ before. (heard : List Sighting) × WritesAll (IsCounted turn (counted (next_mark before) heard)) (state g old) (state g new) result)) (sym is)
        (heard, subst (λ (m : Mark). WritesAll (IsCounted turn (counted m heard)) (state g old) (state g new) result) e it)

  module _ {A : Type 0} where
    pub count_goes_on : (x : A) → Counts g old new {A = A} {F = Error} next.start R (Ok x) → {O : Type 0} → (O → IsReady g old × HasRunning g old mark) → IsOfStart (Some next) × (O → IsReady g new × HasRunning g new (Some next))
    count_goes_on x counts ours = (
      start,
      λ o. (
        λ clean. (written (Ok x) counts (ours o).0 (ours o).1 clean).0,
        λ clean. counts_running turn next heard (state g old) (state g new) x start (written (Ok x) counts (ours o).0 (ours o).1 clean).1,
      ),
    )

    pub count_stays : (error : Error) → Counts g old new {A = A} {F = Error} next.start R (Err error) → {O : Type 0} → (O → IsReady g old × HasRunning g old mark) → IsOfStart mark × (O → IsReady g new × HasRunning g new mark)
    count_stays error counts ours = (
      of,
      λ o. (
        λ clean. (written {A = A} (Err error) counts (ours o).0 (ours o).1 clean).0,
        λ clean. failed_running {A = A} R (state g old) (state g new) error mark (written {A = A} (Err error) counts (ours o).0 (ours o).1 clean).1 ((ours o).1 (omega (arith, doubts, clean))),
      ),
    )

-- the same of a store's result
pub told_ok : (A B F G : Type 0) (g_old g_new : State) (turn : StoreMap → StoreMap) (mark : Option Mark) (x : A) (y : B) → IfSome mark (λ before. (heard : List Sighting) × WritesAll {A = A} {F = F} (IsCounted turn (counted (next_mark before) heard)) g_old g_new (Ok x))
    → IfSome mark (λ before. (heard : List Sighting) × WritesAll {A = B} {F = G} (IsCounted turn (counted (next_mark before) heard)) g_old g_new (Ok y))
told_ok A B F G old new turn None x y h = tt
told_ok A B F G old new turn (Some mark) x y h = (h.0, writes_ok (IsCounted turn (counted (next_mark mark) h.0)) old new x y h.1)

pub told_err : (A B F G : Type 0) (g_old g_new : State) (turn : StoreMap → StoreMap) (mark : Option Mark) (e : F) (f : G) → IfSome mark (λ before. (heard : List Sighting) × WritesAll {A = A} {F = F} (IsCounted turn (counted (next_mark before) heard)) g_old g_new (Err e))
    → IfSome mark (λ before. (heard : List Sighting) × WritesAll {A = B} {F = G} (IsCounted turn (counted (next_mark before) heard)) g_old g_new (Err f))
told_err A B F G old new turn None e f h = tt
told_err A B F G old new turn (Some mark) e f h = (h.0, writes_err (IsCounted turn (counted (next_mark mark) h.0)) old new e f h.1)
