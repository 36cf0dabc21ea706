-- A query in a transaction commits nothing, whatever the tables are.
use Rattle.std.proofs.Common.{◌⊎◌, ℕ, List, cond, Option, Some, None, Ok, Err, Result, Vec, ap, subst, ◌∙◌, inl, inr}
use Rattle.std.specs.Prelude.{IsTrue, IfOk, IfErr, OnOk}
use Rattle.std.specs.declared.alloc.Global.{Global}
use Rattle.sqlite.specs.declared.error.Error.{Error}
use Rattle.sqlite.specs.Order.{Row}
use Rattle.sqlite.specs.Command.{Command}
use Rattle.sqlite_schema.specs.declared.command.Returning.{Returning}
use Rattle.sqlite_resolve.specs.declared.compiled.Compiled.{Compiled}
use Rattle.sqlite.specs.Listing.{understood}
use Rattle.sqlite.specs.Clock.{timed}
use Rattle.sqlite.specs.State.{State, IsUnchanged, IsRolledBack, KeepsCommit, IsNotRun, Shown, ShowsRows, FailsToQuery, FailsToShow, IsTooLate, Writes}
use Rattle.sqlite.proofs.Callers.{IsPlain}
use Rattle.sqlite.proofs.InsideLemmas.{unchanged_keeps}

-- ---- a query commits nothing

not_run : (a b : State) (sql : List ℕ) (params : Row) (e : Error) → IsNotRun a b sql params e → IsUnchanged a b ⊎ IsRolledBack a b
unfolding IsNotRun
not_run a b sql params e (inl h) = inl h.1
not_run a b sql params e (inr h) = inr h.3

-- a text that is a query over one schema may be a write with RETURNING over another, which commits nothing inside a transaction either
module _ (sql : List ℕ) (params : Row) (a b : State) where
  written_on : IsTrue a.in_transaction → (returning : Option Returning) (command : Command) (text : List ℕ) (given : Row) (count : ℕ) → Writes a b returning command text given count → KeepsCommit a b × IsTrue b.in_transaction
  written_on inside returning command text given count w = (
    record { was_open = λ _. w.shown.was_open; committed = λ _. w.shown.committed_is ∙ ap (λ t. cond t a.committed b.now) inside },
    w.shown.mode ∙ inside,
  )

  rows_on : IsTrue a.in_transaction → (c : Compiled) (given : Row) (rows : List Row) (returning : Option Returning) → ShowsRows a b sql c given rows returning → KeepsCommit a b × IsTrue b.in_transaction
  rows_on inside c given rows None h = (unchanged_keeps a b (inl h.3), h.3.0.mode ∙ inside)
  rows_on inside c given rows (Some what) h = written_on inside (Some what) c.command _ given h.0 h.1

  fails_on : (c : Compiled) (given : Row) (e : Error) (returning : Option Returning) → FailsToShow a b sql c given e returning → KeepsCommit a b
  fails_on c given e None h = unchanged_keeps a b (inl h.3)
  fails_on c given e (Some what) (inl refused) = unchanged_keeps a b (inl refused.1)
  fails_on c given e (Some what) (inr failed) = unchanged_keeps a b (inr failed.3)

  shown_on : IsTrue a.in_transaction → (rows : List Row) → Shown sql params a b rows → KeepsCommit a b × IsTrue b.in_transaction
  unfolding Shown
  shown_on inside rows h = rows_on inside h.0 (timed params h.0.formats h.1.now) rows h.0.returning h.2

  fails_keep : (e : Error) → FailsToQuery sql params a b e → KeepsCommit a b
  unfolding FailsToQuery
  fails_keep e (inl h) = unchanged_keeps a b (not_run a b sql params e h)
  fails_keep e (inr h) = fails_on h.0 (timed params h.0.formats h.1.now) e h.0.returning h.2

  pub query_keeps : (result : Result (Vec Row Global) Error) → IsTrue a.in_transaction → IfOk result (λ rows. Shown sql params a b rows.items) → IfErr result (λ e. FailsToQuery sql params a b e ⊎ IsTooLate sql params a b e) → KeepsCommit a b
  query_keeps (Ok rows) inside ok err = (shown_on inside rows.items ok).0
  query_keeps (Err e) inside ok (inl fails) = fails_keep e fails
  query_keeps (Err e) inside ok (inr late) = unchanged_keeps a b (inl late.5)

  pub query_goes_on : (result : Result (Vec Row Global) Error) → IsTrue a.in_transaction → IfOk result (λ rows. Shown sql params a b rows.items) → OnOk result (IsTrue b.in_transaction)
  query_goes_on (Ok rows) inside ok = (shown_on inside rows.items ok).1
  query_goes_on (Err e) inside ok = tt

  module _ (plain : IsPlain (understood a.now.schema sql)) where
    pub shown_same : (rows : List Row) → Shown sql params a b rows → IsUnchanged a b
    unfolding Shown
    shown_same rows h =
        let none = (subst IsPlain h.1.is plain).0 in
        (subst (ShowsRows a b sql h.0 (timed params h.0.formats h.1.now) rows) none h.2).3
