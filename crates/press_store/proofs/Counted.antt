-- From what is done in a transaction to what is kept.
use Rattle.std.proofs.Common.{◌≡◌, ◌≤◌, ◌<◌, ◌+◌, ℕ, List, [], ◌∷◌, length, drop, codes, true, false, Option, Some, None, Ok, Err, Result, refl, sym, ap, subst, subst₂, ◌∙◌, inl, inr, arith}
use Rattle.std.specs.Prelude.{◌⊎◌, ◌==◌, IsTrue, IfSome, OnOk, get_or}
use Rattle.std.proofs.lemmas.List.{drop_more}
use Rattle.std.proofs.Math.ListN.{drop_of_length-le}
use Rattle.std.proofs.lemmas.Bool.Decides.{eqb_tells}
use Rattle.sqlite.specs.declared.error.Error.{Error}
use Rattle.sqlite.specs.Store.{Ghosts}
use Rattle.sqlite.specs.Tree.{Trees}
use Rattle.sqlite.specs.Effect.{Database}
use Rattle.sqlite.specs.State.{State, HasCleanDisk, Survives}
use Rattle.sqlite.specs.Held.{Held, state}
use Rattle.press_acceptor.specs.StoreMap.{StoreMap}
use Rattle.press_starts.specs.declared.mark.Mark.{Mark}
use Rattle.press_starts.specs.declared.sighting.Sighting.{Sighting}
use Rattle.press_store.specs.Tables.{Layout, Fresh, Moved, FreshStarts, MovedStarts, HasStarts, schema_of, with_starts}
use Rattle.press_store.specs.Shown.{IsOurVersion}
use Rattle.press_store.specs.Stands.{store_in}
use Rattle.press_store.specs.Starts.{HasMark, StartMap, saves_at, is_start, starts_in, with_mark, with_heard, with_all_heard}
use Rattle.sqlite.specs.Schema.{Schema}
use Rattle.sqlite_schema.specs.Names.{same_name}
use Rattle.press_store.specs.Adopted.{has_table}
use Rattle.press_store.specs.Kept.{kept_by}
use Rattle.press_store.specs.Attempt.{AreTables, Doubts, IsReady, Looks, Ready, Saved}
use Rattle.press_store.specs.Counting.{IsActed, IsCounted, IsRunning, IsWritten, CommitsAll, LacksStarts, WritesAll, counted, starts_by}
use Rattle.press_store.specs.Steps.{Undone, WasOpen}
use Rattle.press_store.proofs.Standing.{stand}

-- ---- one write after another

pub written_then : (t u : StoreMap → StoreMap) (c d : StartMap → StartMap) (a b e : Trees) → IsWritten t c a b → IsWritten u d b e → IsWritten (λ store. u (t store)) (λ map. d (c map)) a e
written_then t u c d a b e one two = record {
  stands = two.stands ∙ ap u one.stands;
  starts = two.starts ∙ ap d one.starts;
  version = λ it. two.version (one.version it);
}

-- ---- a file that has a start

-- the tables of starts are there
pub marks_there : (l : Layout) (db : Database) (mark : Mark) → AreTables l db → HasMark mark (starts_in db.trees) → HasStarts l
unfolding starts_in saves_at
marks_there Fresh db mark has it = absurd (
    let none : saves_at [] mark.start ≡ Some None = rw it.start refl in
    let some = subst (λ rows. saves_at rows mark.start ≡ Some (Some mark.saves)) (stand Fresh db.trees has.listed).starts it.saves in
    let bad = sym none ∙ some in cc)
marks_there Moved db mark has it = absurd (
    let none : saves_at [] mark.start ≡ Some None = rw it.start refl in
    let some = subst (λ rows. saves_at rows mark.start ≡ Some (Some mark.saves)) (stand Moved db.trees has.listed).starts it.saves in
    let bad = sym none ∙ some in cc)
marks_there FreshStarts db mark has it = tt
marks_there MovedStarts db mark has it = tt

own_mark : (n : ℕ) → (n == n) ≡ true
own_mark n = elim (eqb_tells n n) [ inl is ↦ is.0 | inr other ↦ absurd (other.1 refl) ]

-- what was heard of others leaves the starts
saves_stay : (heard : List Sighting) (map : StartMap) → (with_all_heard heard map).saves ≡ map.saves
unfolding with_all_heard
saves_stay [] map = refl
saves_stay (it ∷ more) map = saves_stay more (with_heard it map)

-- a file in which a save was counted has that mark
pub counted_mark : (turn : StoreMap → StoreMap) (mark : Mark) (heard : List Sighting) (old new : Trees) → is_start mark.start ≡ true → IsCounted turn (counted mark heard) old new → HasMark mark (starts_in new)
counted_mark turn mark heard old new start h = record {
  start = start;
  saves = ap (λ (m : StartMap). m.saves mark.start) h.starts ∙ ap (λ (f : ℕ → Option (Option ℕ)). f mark.start) (saves_stay heard (with_mark mark (starts_in old))) ∙ rw (own_mark mark.start) refl;
}

pub begun_mark : (turn : StoreMap → StoreMap) (mark : Mark) (old new : Trees) → is_start mark.start ≡ true → IsWritten turn (with_mark mark) old new → HasMark mark (starts_in new)
begun_mark turn mark old new start h = record { start = start; saves = ap (λ (m : StartMap). m.saves mark.start) h.starts ∙ rw (own_mark mark.start) refl }

-- ---- from a commit to what it writes

module _ {S : Type 0} (g : Ghosts S) (law : (s : S) (db : Trees) → IsTrue (g.view s).is_open → g.recovers s db → db ≡ (g.view s).committed) (Has : Layout → Type 0) (R : Trees → Trees → Type 0) (old new : Held S)
    (r : Ready (state g old)) (known : IsTrue (state g old).is_open → (l : Layout) → AreTables l (state g old).now → Has l) (clean : HasCleanDisk (state g new)) (ended : (state g new).in_transaction ≡ false)
    (survives : Survives (state g old) (state g new) (IsActed Has R (state g old))) where
  seen : IsTrue (state g old).is_open → (state g old).now.trees ≡ (state g old).committed.trees
  seen up = ap (λ (d : Database). d.trees) (r.settled up)

  left : (db : Trees) → (state g new).may_leave db → (state g old).may_leave db ⊎ (IsTrue (state g old).is_open × R (state g old).committed.trees db)
  left db may = elim (survives.crash clean db may) [
    | inl was ↦ inl was
    | inr by ↦ let t = r.tables by.0 in inr (by.0, subst (λ (d : Trees). R d db) (seen by.0) (by.1 t.0 (known by.0 t.0 t.1) t.1))
  ]

  pub transacted : {A : Type 0} (result : Result A Error) → WasOpen g old new result → CommitsAll g Has R old new result → Undone g old new result → Ready (state g new) × WritesAll R (state g old) (state g new) result
  transacted (Ok x) open_was done undone =
      let up = open_was clean in
      let t = r.tables up in
      let it = done clean t.0 (known up t.0 t.1) t.1 in (
        record { autocommit = ended; unlimited = survives.limit ∙ r.unlimited; tables = λ _. (with_starts t.0, it.1); settled = λ _. it.3 },
        record {
          done = (up, it.0, subst₂ R (seen up) (ap (λ (d : Database). d.trees) it.3) it.2);
          failed = tt;
          only = λ is db may. law new.store db is may;
          crash = left;
        },
      )
  transacted (Err e) open_was done undone =
      let back = λ (is : IsTrue (state g new).is_open). undone clean is in (
        record {
          autocommit = ended;
          unlimited = survives.limit ∙ r.unlimited;
          tables = λ is. let t = r.tables (back is).0 in (t.0, subst (AreTables t.0) (sym ((back is).1 ∙ sym (r.settled (back is).0))) t.1);
          settled = λ is. (back is).1 ∙ sym (back is).2;
        },
        record {
          done = tt;
          failed = λ is. ((back is).0, (back is).2);
          only = λ is db may. law new.store db is may;
          crash = left;
        },
      )

-- a save of what the tables stand for, with a count behind it
pub counted_then : (turn : StoreMap → StoreMap) (count : StartMap → StartMap) (a b e : Trees) → store_in b ≡ turn (store_in a) → starts_in b ≡ starts_in a → IsWritten (λ store. store) count b e → IsCounted turn count a e
counted_then turn count a b e stands starts two = record { stands = two.stands ∙ stands; starts = two.starts ∙ ap count starts }

-- ---- a write that turns what the tables stand for is a save of it

pub as_saved : {A : Type 0} (turn : StoreMap → StoreMap) (R : Trees → Trees → Type 0) → ((a b : Trees) → R a b → store_in b ≡ turn (store_in a)) → (old new : State) (result : Result A Error) → Ready new → WritesAll R old new result → Saved turn old new result
as_saved turn R stands old new (Ok x) r h = record {
  ready = r;
  saved = (h.done.1, h.done.0, stands old.committed.trees new.committed.trees h.done.2);
  failed = tt;
  only = λ is l may. may.2 ∙ ap store_in (h.only is may.0 may.1);
  crash = λ l may. elim (h.crash may.0 may.1) [ inl was ↦ inl (may.0, was, may.2) | inr by ↦ inr (by.0, may.2 ∙ stands old.committed.trees may.0 by.1) ];
}
as_saved turn R stands old new (Err e) r h = record {
  ready = r;
  saved = tt;
  failed = λ is. ((h.failed is).0, ap (λ (d : Database). store_in d.trees) (h.failed is).1);
  only = λ is l may. may.2 ∙ ap store_in (h.only is may.0 may.1);
  crash = λ l may. elim (h.crash may.0 may.1) [ inl was ↦ inl (may.0, was, may.2) | inr by ↦ inr (by.0, may.2 ∙ stands old.committed.trees may.0 by.1) ];
}

-- a connection that says of starts what it said still has the mark
pub running_still : (old new : State) (mark : Option Mark) → (IsTrue new.is_open → IsTrue old.is_open × (starts_by new ≡ starts_by old)) → IsRunning old mark → IsRunning new mark
running_still old new None same h is = tt
running_still old new (Some mark) same h is = subst (HasMark mark) (sym (same is).1) (h (same is).0)

-- a start that the file has says that the tables of starts are there
pub there_by : (s : State) (start : ℕ) → Ready s → (IsTrue s.is_open → (n : ℕ) × HasMark (record { start = start; saves = n }) (starts_by s)) → IsTrue s.is_open → (l : Layout) → AreTables l s.now → HasStarts l
there_by s start r has up l tables =
    let it = has up in
    marks_there l s.now (record { start = start; saves = it.0 }) tables (subst (λ (d : Database). HasMark (record { start = start; saves = it.0 }) (starts_in d.trees)) (sym (r.settled up)) it.1)

-- ---- steps after one another

pub on_ok : {X E P Q : Type 0} (result : Result X E) → (P → Q) → OnOk result P → OnOk result Q
on_ok (Ok x) so p = so p
on_ok (Err e) so p = tt

pub there_with : (l : Layout) → HasStarts (with_starts l)
there_with Fresh = tt
there_with Moved = tt
there_with FreshStarts = tt
there_with MovedStarts = tt

-- a store that may have looked still has the mark
pub still_running : {S : Type 0} (g : Ghosts S) (old new : Held S) (mark : Option Mark) → Doubts g old new → Looks g old new → IsReady g old → (HasCleanDisk (state g old) → IsRunning (state g old) mark) → HasCleanDisk (state g new) → IsRunning (state g new) mark
still_running g old new mark doubts looks ready was clean =
    let it = looks clean ready in
    running_still (state g old) (state g new) mark (λ is. ((it.same is).0, it.starts is)) (was (omega (arith, doubts, clean)))

-- what is still to be kept of what was heard comes to all of it
pub record Hears (rest heard : List Sighting) (old new : Trees) : Type 0 where
  pub stands : store_in new ≡ store_in old
  pub left : with_all_heard rest (starts_in new) ≡ with_all_heard heard (starts_in old)
  pub version : IsOurVersion old → IsOurVersion new

pub hears_none : (heard : List Sighting) (db : Trees) → Hears heard heard db db
hears_none heard db = record { stands = refl; left = refl; version = λ it. it }

pub hears_one : (heard : List Sighting) (i : ℕ) (d : Sighting) → i < length heard → (a b e : Trees) → Hears (drop i heard) heard a b → IsWritten (λ store. store) (with_heard (get_or heard i d)) b e → Hears (drop (i + 1) heard) heard a e
unfolding with_all_heard
hears_one heard i d low a b e one two = record {
  stands = two.stands ∙ one.stands;
  left = ap (with_all_heard (drop (i + 1) heard)) two.starts ∙ sym (ap (λ xs. with_all_heard xs (starts_in b)) (drop_more heard i d low)) ∙ one.left;
  version = λ it. two.version (one.version it);
}

pub hears_all : (heard : List Sighting) (i : ℕ) → length heard ≤ i → (a b : Trees) → Hears (drop i heard) heard a b → IsWritten (λ store. store) (with_all_heard heard) a b
unfolding with_all_heard
hears_all heard i high a b h = record {
  stands = h.stands;
  starts = sym (ap (λ xs. with_all_heard xs (starts_in b)) (drop_of_length-le heard high)) ∙ h.left;
  version = h.version;
}

-- ---- which tables there are

pub has_there : (l : Layout) (schema : Schema) → schema ≡ schema_of l → has_table schema (codes "start") ≡ true → HasStarts l
unfolding same_name
has_there Fresh schema has start = absurd (let none : false ≡ true = ap (λ s. has_table s (codes "start")) (sym has) ∙ start in cc)
has_there Moved schema has start = absurd (let none : false ≡ true = ap (λ s. has_table s (codes "start")) (sym has) ∙ start in cc)
has_there FreshStarts schema has start = tt
has_there MovedStarts schema has start = tt

pub lacks_there : (l : Layout) (schema : Schema) → schema ≡ schema_of l → has_table schema (codes "start") ≡ false → LacksStarts l
unfolding same_name
lacks_there Fresh schema has start = tt
lacks_there Moved schema has start = tt
lacks_there FreshStarts schema has start = absurd (let none : true ≡ false = ap (λ s. has_table s (codes "start")) (sym has) ∙ start in cc)
lacks_there MovedStarts schema has start = absurd (let none : true ≡ false = ap (λ s. has_table s (codes "start")) (sym has) ∙ start in cc)
