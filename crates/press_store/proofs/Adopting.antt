-- What the calls of an adoption leave.
use Rattle.std.proofs.Common.{◌≡◌, codes, [], ◌∷◌, length, false, true, None, Ok, Err, Result, Vec, sym, ap, subst, ◌∙◌, inl, inr, arith}
use Rattle.std.specs.Prelude.{IsTrue, OnErr, OnOk, IfErr, is_ok}
use Rattle.std.specs.declared.alloc.Global.{Global}
use Rattle.sqlite.specs.declared.error.Error.{Error}
use Rattle.sqlite.specs.Store.{Ghosts}
use Rattle.sqlite.specs.Schema.{Schema}
use Rattle.sqlite_schema.specs.Names.{same_name}
use Rattle.sqlite.specs.Tree.{Trees}
use Rattle.sqlite.specs.Effect.{Database, IsDatabase}
use Rattle.sqlite.specs.State.{State, HasCleanDisk, IsUnchanged, IsRolledBack, IsLive, KeepsCommit, Survives}
use Rattle.sqlite.specs.Held.{Held, state}
use Rattle.sqlite.specs.Steps.{FailsToCommit}
use Rattle.sqlite_trees.specs.Objects.{catalog_tree}
use Rattle.sqlite_catalog.specs.Listing.{Lists}
use Rattle.sqlite.specs.Order.{Row}
use Rattle.press_acceptor.specs.StoreMap.{Only, new_store}
use Rattle.press_store.specs.Tables.{Layout, Fresh, Moved, FreshStarts, MovedStarts, schema_of, old_schema, no_schema, check_text, version_query_text, left_text}
use Rattle.press_store.specs.Shown.{IsKept, IsOurVersion, IsEmptied}
use Rattle.press_store.specs.Stands.{store_in}
use Rattle.press_store.specs.Kept.{kept_by, MayLeave}
use Rattle.press_store.specs.Attempt.{AreTables, Ready, IsSettled, Queries, Stays}
use Rattle.press_store.specs.Making.{IsFresh, IsNewIn}
use Rattle.press_store.specs.Migrated.{IsMigratedFrom, Migrated}
use Rattle.press_store.specs.Adopted.{Adopts, HandsBack, IsMade, IsOurs, has_table}
use Rattle.press_store.specs.Adopting.{IsOneNumber, IsOneTwo, IsMoved, OnlyLooks}
use Rattle.press_store.proofs.Carried.{carried, was_old, was_sound}
use Rattle.press_store.proofs.Checked.{checked_kept, checked_version}
use Rattle.press_store.proofs.Emptied.{emptied}
use Rattle.press_store.proofs.Looked.{sees, looks_only}
use Rattle.press_store.proofs.Saved.{after_same}
use Rattle.press_store.proofs.Standing.{stand}
use Rattle.press_store.proofs.Versions.{nothing_stands}
use Rattle.press_store.proofs.Texts.{select, check_select, check_means, version_select, version_query_means, left_query, left_means}

-- ---- one query

-- an open connection lists its tables
pub lists : (l : Layout) (s : State) → s.now.schema ≡ schema_of l → IsLive s → IsTrue s.is_open → Lists (s.now.trees catalog_tree) (schema_of l)
lists l s has live up = subst (λ (t : Schema). Lists (s.now.trees catalog_tree) t) has (live up).0.lists

module _ {S : Type 0} (g : Ghosts S) (old new : Held S) where
  pub round_looks : IsOurs (state g old).now.schema → (result : Result (Vec Row Global) Error) → HasCleanDisk (state g new) → Queries g old new check_text [] result → OnlyLooks (state g old) (state g new)
  round_looks (l, has) result clean asked = looks_only g check_text [] (schema_of l) (check_select l) (check_means l) old new result clean has asked

  pub round_same : IsOurs (state g old).now.schema → (rows : Vec Row Global) → Queries g old new check_text [] (Ok rows) → IsUnchanged (state g old) (state g new)
  round_same (l, has) rows asked = (sees g check_text [] (schema_of l) (check_select l) (check_means l) old new rows has asked).0

  pub round_kept : IsOurs (state g old).now.schema → IsLive (state g old) → (rows : Vec Row Global) → Queries g old new check_text [] (Ok rows) → IsOneNumber rows.items → IsKept (state g old).now.trees
  round_kept (l, has) live rows asked one =
      let seen = sees g check_text [] (schema_of l) (check_select l) (check_means l) old new rows has asked in
      checked_kept l (state g old).now (lists l (state g old) has live seen.0.0.was_open) rows.items one seen.1

  pub version_looks : IsOurs (state g old).now.schema → (result : Result (Vec Row Global) Error) → HasCleanDisk (state g new) → Queries g old new version_query_text [] result → OnlyLooks (state g old) (state g new)
  version_looks (l, has) result clean asked = looks_only g version_query_text [] (schema_of l) (version_select l) (version_query_means l) old new result clean has asked

  pub version_same : IsOurs (state g old).now.schema → (rows : Vec Row Global) → Queries g old new version_query_text [] (Ok rows) → IsUnchanged (state g old) (state g new)
  version_same (l, has) rows asked = (sees g version_query_text [] (schema_of l) (version_select l) (version_query_means l) old new rows has asked).0

  pub version_kept : IsOurs (state g old).now.schema → IsLive (state g old) → (rows : Vec Row Global) → Queries g old new version_query_text [] (Ok rows) → IsOneTwo rows.items → IsOurVersion (state g old).now.trees
  version_kept (l, has) live rows asked one =
      let seen = sees g version_query_text [] (schema_of l) (version_select l) (version_query_means l) old new rows has asked in
      checked_version l (state g old).now (lists l (state g old) has live seen.0.0.was_open) rows.items one seen.1

  pub left_looks : IsMoved (state g old).now.schema → (result : Result (Vec Row Global) Error) → HasCleanDisk (state g new) → Queries g old new left_text [] result → OnlyLooks (state g old) (state g new)
  left_looks (l, moved, has) result clean asked = looks_only g left_text [] (schema_of l) (select left_query (codes "slot" ∷ [])) (left_means l moved) old new result clean has asked

  pub left_same : IsMoved (state g old).now.schema → (rows : Vec Row Global) → Queries g old new left_text [] (Ok rows) → IsUnchanged (state g old) (state g new)
  left_same (l, moved, has) rows asked = (sees g left_text [] (schema_of l) (select left_query (codes "slot" ∷ [])) (left_means l moved) old new rows has asked).0

  pub left_none : IsMoved (state g old).now.schema → IsLive (state g old) → (rows : Vec Row Global) → Queries g old new left_text [] (Ok rows) → rows.items ≡ [] → IsEmptied (state g old).now.trees
  left_none (l, moved, has) live rows asked none =
      let seen = sees g left_text [] (schema_of l) (select left_query (codes "slot" ∷ [])) (left_means l moved) old new rows has asked in
      emptied l moved (state g old).now rows.items (lists l (state g old) has live seen.0.0.was_open) seen.1 none

-- ---- queries after one another

-- a connection that waited for no commit is as it was
pub handed_back : (old new : State) → IsSettled old → OnlyLooks old new → HandsBack old new
handed_back old new settled looks = record { same = same_of looks.stays; crash = λ db may. inl (looks.crash db may); maps = λ left may. (may.0, looks.crash may.0 may.1, may.2) }
  where
    same_of : Stays old new → IsTrue new.is_open → IsTrue old.is_open × (new.now ≡ old.now)
    same_of (inl same) is = (same.0.was_open, same.0.now_is)
    same_of (inr back) is = (back.was_open is, (back.undone is).0 ∙ sym (settled (back.was_open is)))

pub looks_then : (old mid new : State) → IsUnchanged old mid → OnlyLooks old mid → OnlyLooks mid new → OnlyLooks old new
looks_then old mid new same one two = record {
  stays = after_same old mid new same two.stays;
  limit = two.limit ∙ one.limit;
  crash = λ db may. one.crash db (two.crash db may);
}

-- what is so of the schema and the trees of an unchanged connection was so before
pub schema_still : (Has : Schema → Type 0) (old mid : State) → IsUnchanged old mid → Has old.now.schema → Has mid.now.schema
schema_still Has old mid same has = subst (λ (d : Database). Has d.schema) (sym same.0.now_is) has

pub trees_still : (Is : Trees → Type 0) (old mid : State) → IsUnchanged old mid → Is mid.now.trees → Is old.now.trees
trees_still Is old mid same is = subst (λ (d : Database). Is d.trees) same.0.now_is is

pub live_still : (old mid : State) → IsUnchanged old mid → IsLive old → IsLive mid
live_still old mid same live _ =
    let was = live same.0.was_open in
    (subst (λ (d : Database). IsDatabase d) (sym same.0.now_is) was.0, subst (λ (d : Database). IsDatabase d) (sym same.0.committed_is) was.1)

-- where the table of version 1 is there, the tables stand behind it
pub has_old_moved : (schema : Schema) → IsOurs schema → has_table schema (codes "promise") ≡ true → IsMoved schema
unfolding same_name
has_old_moved schema (Fresh, has) old = absurd (let none : false ≡ true = ap (λ s. has_table s (codes "promise")) (sym has) ∙ old in cc)
has_old_moved schema (Moved, has) old = (Moved, tt, has)
has_old_moved schema (FreshStarts, has) old = absurd (let none : false ≡ true = ap (λ s. has_table s (codes "promise")) (sym has) ∙ old in cc)
has_old_moved schema (MovedStarts, has) old = (MovedStarts, tt, has)

pub no_old_emptied : (s : State) → IsOurs s.now.schema → has_table s.now.schema (codes "promise") ≡ false → IsLive s → IsTrue s.is_open → IsEmptied s.now.trees
unfolding same_name
no_old_emptied s (Fresh, has) old live up = (stand Fresh s.now.trees (lists Fresh s has live up)).old
no_old_emptied s (Moved, has) old live up = absurd (let none : true ≡ false = ap (λ t. has_table t (codes "promise")) (sym has) ∙ old in cc)
no_old_emptied s (FreshStarts, has) old live up = (stand FreshStarts s.now.trees (lists FreshStarts s has live up)).old
no_old_emptied s (MovedStarts, has) old live up = absurd (let none : true ≡ false = ap (λ t. has_table t (codes "promise")) (sym has) ∙ old in cc)

-- ---- which tables there are

-- schemas with other numbers of tables are different
other_number : {A : Type 0} (s t : Schema) → (length s.tables ≡ length t.tables → ⊥) → s ≡ t → A
other_number s t apart same = absurd (apart (ap (λ (u : Schema). length u.tables) same))

pub differs : {A : Type 0} (l : Layout) → no_schema ≡ schema_of l → A
differs Fresh same = other_number no_schema (schema_of Fresh) (λ e. omega (arith, e)) same
differs Moved same = other_number no_schema (schema_of Moved) (λ e. omega (arith, e)) same
differs FreshStarts same = other_number no_schema (schema_of FreshStarts) (λ e. omega (arith, e)) same
differs MovedStarts same = other_number no_schema (schema_of MovedStarts) (λ e. omega (arith, e)) same

pub old_differs : {A : Type 0} (l : Layout) → old_schema ≡ schema_of l → A
old_differs Fresh same = other_number old_schema (schema_of Fresh) (λ e. omega (arith, e)) same
old_differs Moved same = other_number old_schema (schema_of Moved) (λ e. omega (arith, e)) same
old_differs FreshStarts same = other_number old_schema (schema_of FreshStarts) (λ e. omega (arith, e)) same
old_differs MovedStarts same = other_number old_schema (schema_of MovedStarts) (λ e. omega (arith, e)) same

pub none_differs : {A : Type 0} → no_schema ≡ old_schema → A
none_differs same = other_number no_schema old_schema (λ e. omega (arith, e)) same

-- ---- what is adopted

-- a database with nothing in it keeps what a new store keeps
pub none_kept : (s : State) → IsLive s → IsSettled s → IsTrue s.is_open → s.now.schema ≡ no_schema → kept_by s ≡ new_store
none_kept s live settled up has =
    ap (λ (d : Database). store_in d.trees) (sym (settled up)) ∙ nothing_stands s.now.trees (subst (λ (t : Schema). Lists (s.now.trees catalog_tree) t) has (live up).0.lists)

-- what a commit may leave stands for what was kept
made_kept : (old : State) (db : Trees) → IsLive old → IsSettled old → IsTrue old.is_open → IsMade old db → store_in db ≡ kept_by old
made_kept old db live settled up (inl (has, fresh)) = fresh.new ∙ sym (none_kept old live settled up has)
made_kept old db live settled up (inr (has, migrated, version, sound)) = migrated.same ∙ ap (λ (d : Database). store_in d.trees) (settled up)

module _ {S : Type 0} (g : Ghosts S) (law : (s : S) (db : Trees) → IsTrue (g.view s).is_open → g.recovers s db → db ≡ (g.view s).committed) where
  -- what is so of an open connection is so of what a crash leaves, where nothing waits for a commit
  left_so : (Is : Trees → Type 0) (new : Held S) → IsTrue (state g new).is_open → (state g new).now ≡ (state g new).committed → Is (state g new).now.trees → (db : Trees) → (state g new).may_leave db → Is db
  left_so Is new up settled is db may = subst Is (ap (λ (d : Database). d.trees) settled ∙ sym (law new.store db up may)) is

  pub only_kept : (new : Held S) → IsTrue (state g new).is_open → Only (kept_by (state g new)) (MayLeave (state g new))
  only_kept new up left may = may.2 ∙ ap store_in (law new.store may.0 up may.1)

  pub whole_seen : (old new : Held S) → (state g old).in_transaction ≡ false → (state g old).step_limit ≡ None → IsSettled (state g old) → IsLive (state g old) → IsOurs (state g old).now.schema → IsKept (state g old).now.trees
      → IsOurVersion (state g old).now.trees → IsEmptied (state g old).now.trees → IsUnchanged (state g old) (state g new) → OnlyLooks (state g old) (state g new) → Ready (state g new) × Adopts (state g old) (state g new)
  whole_seen old new quiet unlimited settled live (l, has) kept version none same looks =
      let now = same.0.now_is in
      let up = same.0.is_open in
      let still = now ∙ settled same.0.was_open ∙ sym same.0.committed_is in
      let tables : AreTables l (state g old).now = record { schema = has; listed = lists l (state g old) has live same.0.was_open; emptied = none; kept = kept } in
      let shown = subst (λ (d : Database). IsOurVersion d.trees) (sym now) version in
      let bare = subst (λ (d : Database). IsEmptied d.trees) (sym now) none in (
        record {
          autocommit = same.0.mode ∙ quiet;
          unlimited = looks.limit ∙ unlimited;
          tables = λ _. (l, subst (AreTables l) (sym now) tables);
          settled = λ _. still;
        },
        record {
          is_open = up;
          served = inr (inl (l, has));
          kept = ap (λ (d : Database). store_in d.trees) same.0.committed_is;
          begins = λ empty. differs l (sym empty ∙ has);
          version = λ _. version;
          old_version = λ is. old_differs l (sym is ∙ has);
          emptied = λ _. none;
          had_round = λ _. kept;
          sound = λ is. old_differs l (sym is ∙ has);
          moved = λ is. old_differs l (sym is ∙ has);
          durable = only_kept new up;
          version_shown = shown;
          version_left = left_so IsOurVersion new up still shown;
          emptied_shown = bare;
          emptied_left = left_so IsEmptied new up still bare;
        },
      )

  -- tables that were made in one commit, where there were none or those of version 1
  pub new_made : (old new : Held S) → (state g old).step_limit ≡ None → (state g new).step_limit ≡ (state g old).step_limit → (state g new).in_transaction ≡ false → IsLive (state g old) → IsSettled (state g old) → (state g old).now.schema ≡ no_schema
      → IsTrue (state g old).is_open × IsTrue (state g new).is_open × IsFresh (state g new).now × ((state g new).now ≡ (state g new).committed) → Ready (state g new) × Adopts (state g old) (state g new)
  new_made old new unlimited limit quiet live settled has (was_up, up, fresh, still) =
      let new_kept : kept_by (state g new) ≡ new_store = ap (λ (d : Database). store_in d.trees) (sym still) ∙ fresh.new in (
        record {
          autocommit = quiet;
          unlimited = limit ∙ unlimited;
          tables = λ _. (Fresh, fresh.tables);
          settled = λ _. still;
        },
        record {
          is_open = up;
          served = inl has;
          kept = new_kept ∙ sym (none_kept (state g old) live settled was_up has);
          begins = λ _. new_kept;
          version = λ ours. differs ours.0 (sym has ∙ ours.1);
          old_version = λ is. none_differs (sym has ∙ is);
          sound = λ is. none_differs (sym has ∙ is);
          moved = λ is. none_differs (sym has ∙ is);
          emptied = λ ours. differs ours.0 (sym has ∙ ours.1);
          had_round = λ ours. differs ours.0 (sym has ∙ ours.1);
          durable = only_kept new up;
          version_shown = fresh.version;
          version_left = left_so IsOurVersion new up still fresh.version;
          emptied_shown = fresh.tables.emptied;
          emptied_left = left_so IsEmptied new up still fresh.tables.emptied;
        },
      )

  -- the trees of a database are those of its tables, whatever its schema is called
  tables_as : (d : Database) → d.schema ≡ schema_of Moved → AreTables Moved (record { schema = schema_of Moved; trees = d.trees }) → AreTables Moved d
  tables_as d has t = record { schema = has; listed = t.listed; emptied = t.emptied; kept = t.kept }

  pub old_moved : (old new : Held S) → (state g old).step_limit ≡ None → (state g new).step_limit ≡ (state g old).step_limit → (state g new).in_transaction ≡ false → IsLive (state g old) → IsSettled (state g old) → (state g old).now.schema ≡ old_schema
      → IsTrue (state g old).is_open × IsTrue (state g new).is_open × ((state g new).now.schema ≡ schema_of Moved) × Migrated (state g old).now.trees (state g new).now.trees × ((state g new).now ≡ (state g new).committed)
      → Ready (state g new) × Adopts (state g old) (state g new)
  old_moved old new unlimited limit quiet live settled has (was_up, up, schema, migrated, still) =
      let had : Lists ((state g old).now.trees catalog_tree) old_schema = subst (λ (t : Schema). Lists ((state g old).now.trees catalog_tree) t) has (live was_up).0.lists in
      let is = carried (state g old).now.trees (state g new).now.trees had migrated in (
        record {
          autocommit = quiet;
          unlimited = limit ∙ unlimited;
          tables = λ _. (Moved, tables_as (state g new).now schema is.tables);
          settled = λ _. still;
        },
        record {
          is_open = up;
          served = inr (inr has);
          kept = ap (λ (d : Database). store_in d.trees) (sym still) ∙ is.same ∙ ap (λ (d : Database). store_in d.trees) (settled was_up);
          begins = λ empty. none_differs (sym empty ∙ has);
          version = λ ours. old_differs ours.0 (sym has ∙ ours.1);
          old_version = λ _. was_old (state g old).now.trees (state g new).now.trees had migrated;
          sound = λ _. was_sound (state g old).now.trees (state g new).now.trees had migrated;
          moved = λ _. schema;
          emptied = λ ours. old_differs ours.0 (sym has ∙ ours.1);
          had_round = λ ours. old_differs ours.0 (sym has ∙ ours.1);
          durable = only_kept new up;
          version_shown = is.version;
          version_left = left_so IsOurVersion new up still is.version;
          emptied_shown = is.tables.emptied;
          emptied_left = left_so IsEmptied new up still is.tables.emptied;
        },
      )

-- ---- what is handed back, where a commit may have been begun

module _ {S : Type 0} (g : Ghosts S) (stays : (s : S) → IsTrue (g.view s).is_open → g.recovers s (g.view s).committed) (old new : Held S) (live : IsLive (state g old)) (settled : IsSettled (state g old))
    (clean : HasCleanDisk (state g new)) (same : IsTrue (state g new).is_open → IsTrue (state g old).is_open × ((state g new).now ≡ (state g old).now)) where
  crashed : (P : Trees → Type 0) → Survives (state g old) (state g new) P → ((db : Trees) → P db → IsTrue (state g old).is_open × IsMade (state g old) db) → HandsBack (state g old) (state g new)
  crashed P survives so = record {
    same = same;
    crash = λ db may. elim (survives.crash clean db may) [ inl was ↦ inl was | inr by ↦ inr (so db by) ];
    maps = λ left may. elim (survives.crash clean may.0 may.1) [
      | inl was ↦ (may.0, was, may.2)
      | inr by ↦ let made = so may.0 by in ((g.view old.store).committed, stays old.store made.0, may.2 ∙ made_kept (state g old) may.0 live settled made.0 made.1)
    ];
  }

  pub new_back : (state g old).now.schema ≡ no_schema → Survives (state g old) (state g new) (IsNewIn (state g old)) → HandsBack (state g old) (state g new)
  new_back has survives = crashed (IsNewIn (state g old)) survives (λ db by. (by.0, inl (has, by.1 has)))

  pub old_back : (state g old).now.schema ≡ old_schema → Survives (state g old) (state g new) (IsMigratedFrom (state g old)) → HandsBack (state g old) (state g new)
  old_back has survives =
      let had = λ (up : IsTrue (state g old).is_open). subst (λ (t : Schema). Lists ((state g old).now.trees catalog_tree) t) has (live up).0.lists in
      let was = (state g old).now.trees in
      crashed (IsMigratedFrom (state g old)) survives (λ db by.
      let migrated = by.1 has in (by.0, inr (has, carried was db (had by.0) migrated, was_old was db (had by.0) migrated, was_sound was db (had by.0) migrated)))

-- ---- the making of the tables, taken back

pub unmade : (old mid new : State) → IsSettled old → KeepsCommit old mid → IsRolledBack mid new → IsTrue new.is_open → IsTrue old.is_open × (new.now ≡ old.now)
unmade old mid new settled kept back is =
    let up = back.was_open is in
    let was = kept.was_open up in
    (was, (back.undone is).0 ∙ kept.committed up ∙ sym (settled was))

-- a commit that fails takes it back too
pub commit_unmade : {X : Type 0} (old last new : State) (result : Result X Error) → IsSettled old → KeepsCommit old last → IsTrue last.in_transaction → IfErr result (FailsToCommit last new) → IsTrue new.is_open → OnErr result (IsTrue old.is_open × (new.now ≡ old.now))
commit_unmade old last new (Ok x) settled kept inside fails is = tt
commit_unmade old last new (Err e) settled kept inside (inl fails) is = unmade old last new settled kept fails.3 is
commit_unmade old last new (Err e) settled kept inside (inr late) is = absurd (let at = late.1 in let going = inside in cc)

pub on_err : {X E : Type 0} (result : Result X E) {P : Type 0} → P → OnErr result P
on_err (Ok x) p = tt
on_err (Err e) p = p

-- ---- an error that is told as a fault is one still

pub ok_through : {X E F P Q : Type 0} (a : Result X E) (b : Result X F) → is_ok b ≡ is_ok a → (P → Q) → OnOk a P → OnOk b Q
ok_through (Ok x) (Ok y) same so p = so p
ok_through (Ok x) (Err f) same so p = tt
ok_through (Err e) (Ok y) same so p = absurd (let bad = same in cc)
ok_through (Err e) (Err f) same so p = tt

pub on_ok : {X E P Q : Type 0} (result : Result X E) → (P → Q) → OnOk result P → OnOk result Q
on_ok (Ok x) so p = so p
on_ok (Err e) so p = tt

-- from what an error says of an open connection
pub back_through : {X E F U Q R : Type 0} (a : Result X E) (b : Result X F) → is_ok b ≡ is_ok a → (U → OnErr a Q) → ((U → Q) → R) → OnErr b R
back_through (Ok x) (Ok y) same says so = tt
back_through (Ok x) (Err f) same says so = absurd (let bad = same in cc)
back_through (Err e) (Ok y) same says so = tt
back_through (Err e) (Err f) same says so = so says

-- ---- a limit on steps doesn't tell

pub back_unlimited : {S : Type 0} (g : Ghosts S) (old mid new : Held S) → mid ≡ record old { step_limit = None } → HandsBack (state g mid) (state g new) → HandsBack (state g old) (state g new)
back_unlimited g old mid new is h =
    let b = subst (λ (m : Held _). HandsBack (state g m) (state g new)) is h in
    record { same = b.same; crash = b.crash; maps = b.maps }
