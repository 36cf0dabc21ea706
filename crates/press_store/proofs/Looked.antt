-- From what a query finds to what it leaves.
use Rattle.std.proofs.Common.{◌≡◌, ℕ, List, false, Ok, Err, Result, Vec, IfOk, OnOk, sym, ap, subst, ◌∙◌, inl, inr, arith}
use Rattle.std.specs.Prelude.{IsTrue}
use Rattle.std.specs.declared.alloc.Global.{Global}
use Rattle.sqlite.specs.declared.error.Error.{Error}
use Rattle.sqlite.specs.Store.{Ghosts}
use Rattle.sqlite.specs.Order.{Row}
use Rattle.sqlite.specs.Tree.{Trees}
use Rattle.sqlite.specs.Schema.{Schema}
use Rattle.sqlite.specs.Command.{Command}
use Rattle.sqlite.specs.Effect.{Database, Reads}
use Rattle.sqlite.specs.Listing.{understood, reads_listing}
use Rattle.sqlite.specs.State.{State, HasCleanDisk, IsUnchanged, Survives, Shown, ShowsRows, FailsToQuery, FailsToShow, CommitsShowing}
use Rattle.sqlite.specs.Held.{Held, state}
use Rattle.sqlite.specs.Clock.{timed}
use Rattle.sqlite.proofs.Callers.{IsPlain, command_of, reads_as, never_commits, unchanged_then}
use Rattle.press_store.specs.Tables.{Layout, schema_of}
use Rattle.press_store.specs.Attempt.{Queries, AreTables, Ready, IsReady, Looked, Stays}
use Rattle.press_store.specs.Adopting.{OnlyLooks}
use Rattle.press_store.specs.Starts.{starts_in}
use Rattle.press_store.specs.Tying.{IsUntouched}
use Rattle.press_store.proofs.Texts.{IsQuery}
use Rattle.press_store.proofs.Saved.{not_run, same_kept, same_ready, after_same}

shown_same : (sql : List ℕ) (params : Row) (a b : State) (rows : List Row) → IsPlain (understood a.now.schema sql) → Shown sql params a b rows → IsUnchanged a b
unfolding Shown
shown_same sql params a b rows plain h =
    let none = (subst IsPlain h.1.is plain).0 in
    (subst (ShowsRows a b sql h.0 (timed params h.0.formats h.1.now) rows) none h.2).3

fails_stay : (sql : List ℕ) (params : Row) (a b : State) (e : Error) → IsPlain (understood a.now.schema sql) → FailsToQuery sql params a b e → Stays a b
unfolding FailsToQuery
fails_stay sql params a b e plain (inl h) = not_run a b sql params e h
fails_stay sql params a b e plain (inr h) =
    let none = (subst IsPlain h.1.is plain).0 in
    inl (subst (FailsToShow a b sql h.0 (timed params h.0.formats h.1.now) e) none h.2).3

pub fewer : (a b : State) → Survives a b (λ _. ⊥) → HasCleanDisk b → (db : Trees) → b.may_leave db → a.may_leave db
fewer a b h clean db may = elim (h.crash clean db may) [ inl was ↦ was | inr none ↦ absurd none ]

showing : (sql : List ℕ) (params : Row) (a b : State) → IsPlain (understood a.now.schema sql) → Survives a b (CommitsShowing sql params a) → HasCleanDisk b → (db : Trees) → b.may_leave db → a.may_leave db
showing sql params a b plainly h clean db may = elim (h.crash clean db may) [ inl was ↦ was | inr by ↦ absurd (never_commits sql params a db plainly by) ]

pub same_committed : (a b : State) → Stays a b → IsTrue b.is_open → IsTrue a.is_open × (b.committed ≡ a.committed)
same_committed a b (inl h) is = (h.0.was_open, h.0.committed_is)
same_committed a b (inr h) is = (h.was_open is, (h.undone is).1)

as_untouched : (a b : State) → Stays a b → ((db : Trees) → b.may_leave db → a.may_leave db) → IsUntouched a b
as_untouched a b stays crash = record { same = same_committed a b stays; crash = crash }

-- ---- over one schema, whatever its rows are

module _ {S : Type 0} (g : Ghosts S) (sql : List ℕ) (params : Row) (schema : Schema) (command : Command) (means : (command_of (understood schema sql) ≡ command) × IsPlain (understood schema sql) × (reads_listing schema sql ≡ false)) where
  at_mid : (mid : State) → mid.now.schema ≡ schema → IsPlain (understood mid.now.schema sql)
  at_mid mid has = subst (λ s. IsPlain (understood s sql)) (sym has) means.1

  pub looks_only : (old new : Held S) (result : Result (Vec Row Global) Error) → HasCleanDisk (state g new) → (state g old).now.schema ≡ schema → Queries g old new sql params result → OnlyLooks (state g old) (state g new)
  looks_only old new result clean has (inr h) = record {
    stays = not_run (state g old) (state g new) sql h.given h.error h.why;
    limit = h.quiet.limit;
    crash = fewer (state g old) (state g new) h.quiet clean;
  }
  looks_only old new (Err e) clean has (inl h) =
      let was : HasCleanDisk (state g h.mid) = omega (arith, h.left.clean, clean) in
      let plainly = at_mid (state g h.mid) (ap (λ (d : Database). d.schema) h.same.0.now_is ∙ has) in
      record {
        stays = after_same (state g old) (state g h.mid) (state g new) h.same (fails_stay sql params (state g h.mid) (state g new) e plainly h.err);
        limit = h.left.limit ∙ h.quiet.limit;
        crash = λ db may. fewer (state g old) (state g h.mid) h.quiet was db (showing sql params (state g h.mid) (state g new) plainly h.left clean db may);
      }
  looks_only old new (Ok rows) clean has (inl h) =
      let was : HasCleanDisk (state g h.mid) = omega (arith, h.left.clean, clean) in
      let plainly = at_mid (state g h.mid) (ap (λ (d : Database). d.schema) h.same.0.now_is ∙ has) in
      let same = shown_same sql params (state g h.mid) (state g new) rows.items plainly h.ok in
      record {
        stays = inl (unchanged_then (state g old) (state g h.mid) (state g new) h.same same);
        limit = h.left.limit ∙ h.quiet.limit;
        crash = λ db may. fewer (state g old) (state g h.mid) h.quiet was db (showing sql params (state g h.mid) (state g new) plainly h.left clean db may);
      }

  -- a query that was answered has changed nothing
  pub sees : (old new : Held S) (rows : Vec Row Global) → (state g old).now.schema ≡ schema → Queries g old new sql params (Ok rows) → IsUnchanged (state g old) (state g new) × Reads command (state g old).now params rows.items
  sees old new rows has (inr h) = absurd (let e = h.is in cc)
  sees old new rows has (inl h) =
      let mid_has = ap (λ (d : Database). d.schema) h.same.0.now_is ∙ has in
      let plainly = at_mid (state g h.mid) mid_has in
      let same = shown_same sql params (state g h.mid) (state g new) rows.items plainly h.ok in (
        unchanged_then (state g old) (state g h.mid) (state g new) h.same same,
        subst (λ (d : Database). Reads command d params rows.items) h.same.0.now_is
            (reads_as sql params (state g h.mid) (state g new) schema mid_has command means.0 means.1 means.2 rows.items h.ok),
      )

-- ---- over the tables of a store

module _ {S : Type 0} (g : Ghosts S) (sql : List ℕ) (params : Row) (command : Layout → Command) (means : IsQuery sql command) where
  abbrev pub Finds : Held S → Held S → Result (Vec Row Global) Error → Type 0
  Finds old new result = Looked (state g old) (state g new) × IfOk result (λ rows. IsTrue (state g old).is_open × (l : Layout) × AreTables l (state g old).now × Reads (command l) (state g old).now params rows.items)

  left_as : (a b : State) → Ready a → b.step_limit ≡ a.step_limit → Stays a b → ((db : Trees) → b.may_leave db → a.may_leave db) → Looked a b
  left_as a b r limit stays crash = record {
    ready = same_ready a b r limit stays;
    same = same_kept a b stays;
    starts = λ is. ap (λ (d : Database). starts_in d.trees) (same_committed a b stays is).1;
    crash = λ left may. (may.0, crash may.0 may.1, may.2);
  }

  tables_at : (l : Layout) (s : State) → s.now.schema ≡ schema_of l → IsPlain (understood s.now.schema sql)
  tables_at l s has = subst (λ t. IsPlain (understood t sql)) (sym has) (means l).1

  pub finds : (old new : Held S) (result : Result (Vec Row Global) Error) → HasCleanDisk (state g new) → IsReady g old → Queries g old new sql params result → Finds old new result
  finds old new result clean ready (inr h) =
      let r = ready (omega (arith, h.quiet.clean, clean)) in
      subst (Finds old new) (sym h.is)
      (left_as (state g old) (state g new) r h.quiet.limit (not_run (state g old) (state g new) sql h.given h.error h.why) (fewer (state g old) (state g new) h.quiet clean), tt)
  finds old new (Err e) clean ready (inl h) =
      let was : HasCleanDisk (state g h.mid) = omega (arith, h.left.clean, clean) in
      let r = ready (omega (arith, h.quiet.clean, was)) in
      let m = same_ready (state g old) (state g h.mid) r h.quiet.limit (inl h.same) in
      let t = m.tables h.same.0.is_open in
      let plainly = tables_at t.0 (state g h.mid) t.1.schema in
      let back = fails_stay sql params (state g h.mid) (state g new) e plainly h.err in (
        left_as (state g old) (state g new) r (h.left.limit ∙ h.quiet.limit) (after_same (state g old) (state g h.mid) (state g new) h.same back)
            (λ db may. fewer (state g old) (state g h.mid) h.quiet was db (showing sql params (state g h.mid) (state g new) plainly h.left clean db may)),
        tt,
      )
  finds old new (Ok rows) clean ready (inl h) =
      let was : HasCleanDisk (state g h.mid) = omega (arith, h.left.clean, clean) in
      let r = ready (omega (arith, h.quiet.clean, was)) in
      let m = same_ready (state g old) (state g h.mid) r h.quiet.limit (inl h.same) in
      let t = m.tables h.same.0.is_open in
      let means_it = means t.0 in
      let plainly = tables_at t.0 (state g h.mid) t.1.schema in
      let same = shown_same sql params (state g h.mid) (state g new) rows.items plainly h.ok in
      let read = reads_as sql params (state g h.mid) (state g new) (schema_of t.0) t.1.schema (command t.0) means_it.0 means_it.1 means_it.2 rows.items h.ok in (
        left_as (state g old) (state g new) r (h.left.limit ∙ h.quiet.limit) (inl (unchanged_then (state g old) (state g h.mid) (state g new) h.same same))
            (λ db may. fewer (state g old) (state g h.mid) h.quiet was db (showing sql params (state g h.mid) (state g new) plainly h.left clean db may)),
        (h.same.0.was_open, t.0, subst (AreTables t.0) h.same.0.now_is t.1, subst (λ (d : Database). Reads (command t.0) d params rows.items) h.same.0.now_is read),
      )

  pub untouched : (old new : Held S) (result : Result (Vec Row Global) Error) → HasCleanDisk (state g new) → IsReady g old → Queries g old new sql params result → IsUntouched (state g old) (state g new)
  untouched old new result clean ready (inr h) = as_untouched (state g old) (state g new) (not_run (state g old) (state g new) sql h.given h.error h.why) (fewer (state g old) (state g new) h.quiet clean)
  untouched old new (Err e) clean ready (inl h) =
      let was : HasCleanDisk (state g h.mid) = omega (arith, h.left.clean, clean) in
      let t = (same_ready (state g old) (state g h.mid) (ready (omega (arith, h.quiet.clean, was))) h.quiet.limit (inl h.same)).tables h.same.0.is_open in
      let plainly = tables_at t.0 (state g h.mid) t.1.schema in
      as_untouched (state g old) (state g new) (after_same (state g old) (state g h.mid) (state g new) h.same (fails_stay sql params (state g h.mid) (state g new) e plainly h.err))
      (λ db may. fewer (state g old) (state g h.mid) h.quiet was db (showing sql params (state g h.mid) (state g new) plainly h.left clean db may))
  untouched old new (Ok rows) clean ready (inl h) =
      let was : HasCleanDisk (state g h.mid) = omega (arith, h.left.clean, clean) in
      let t = (same_ready (state g old) (state g h.mid) (ready (omega (arith, h.quiet.clean, was))) h.quiet.limit (inl h.same)).tables h.same.0.is_open in
      let plainly = tables_at t.0 (state g h.mid) t.1.schema in
      as_untouched (state g old) (state g new) (inl (unchanged_then (state g old) (state g h.mid) (state g new) h.same (shown_same sql params (state g h.mid) (state g new) rows.items plainly h.ok)))
      (λ db may. fewer (state g old) (state g h.mid) h.quiet was db (showing sql params (state g h.mid) (state g new) plainly h.left clean db may))

  -- where it was answered, the connection is open
  pub opens : (old new : Held S) (result : Result (Vec Row Global) Error) → HasCleanDisk (state g new) → IsReady g old → Queries g old new sql params result → OnOk result (IsTrue (state g new).is_open)
  opens old new result clean ready (inr h) = subst (λ r. OnOk r (IsTrue (state g new).is_open)) (sym h.is) tt
  opens old new (Err e) clean ready (inl h) = tt
  opens old new (Ok rows) clean ready (inl h) =
      let was : HasCleanDisk (state g h.mid) = omega (arith, h.left.clean, clean) in
      let r = ready (omega (arith, h.quiet.clean, was)) in
      let m = same_ready (state g old) (state g h.mid) r h.quiet.limit (inl h.same) in
      let t = m.tables h.same.0.is_open in
      (shown_same sql params (state g h.mid) (state g new) rows.items (tables_at t.0 (state g h.mid) t.1.schema) h.ok).0.is_open
