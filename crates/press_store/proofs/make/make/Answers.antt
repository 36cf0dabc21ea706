use Rattle.std.proofs.Common.{◌≡◌, IsTrue, OnOk, true, sym, subst, arith, rules}
use Rattle.std.specs.Prelude.{OnErr}
use Rattle.sqlite.specs.State.{HasCleanDisk, Survives}
use Rattle.sqlite.specs.Held.{state}
use Rattle.sqlite.proofs.StateLemmas.{survives_then}
use Rattle.sqlite.proofs.Callers.{survives_begin}
use Rattle.sqlite.proofs.InsideLemmas.{keeps_then}
use Rattle.press_store.specs.Tables.{no_schema}
use Rattle.press_store.specs.Making.{IsFresh, IsNewIn}
use Rattle.press_store.proofs.Made.{fresh_kept, fresh_left}
use Rattle.press_store.proofs.Adopting.{unmade, commit_unmade, on_err, on_ok}
use Rattle.press_store.proofs.make.make.Goals as goal

pub returns-clause-made : goal.returns-clause-made
returns-clause-made g c clean has =
    let last = c.make_rows.new.tx.conn.now in
    let begun = c.transaction-tx.ensures.begun in
    let end = c.commit.new.self.0 in
    let same : end ≡ c.conn-2-1.given.0 = search rules in
    let late : HasCleanDisk (state g.S.Store end) = search rules in
    let was : HasCleanDisk (state g.S.Store last) = omega (arith, c.commit.ensures.survives.clean, late) in
    let one = c.in_ok-make_tables.ensures.made (omega (arith, c.make_rows.ensures.survives.clean, was)) (rw begun) (rw begun has) in
    let two = c.in_ok-make_rows.ensures.made was one.1 one.0 in
    let up : IsTrue (state g.S.Store c.args.conn.now).is_open = rw begun at (c.in_ok-make_tables.ensures.up (omega (arith, c.make_rows.ensures.survives.clean, was)) (rw begun)) in
    subst (λ h. OnOk c.commit.result (IsTrue (state g.S.Store c.args.conn.now).is_open × IsTrue (state g.S.Store h).is_open × IsFresh (state g.S.Store h).now × ((state g.S.Store h).now ≡ (state g.S.Store h).committed))) same
    (on_ok c.commit.result (λ kept. (up, kept.0, kept.1, kept.2)) (fresh_kept (state g.S.Store last) (state g.S.Store end) c.commit.result two.0 (c.commit.ensures.ok late)))

pub returns-clause-survives : goal.returns-clause-survives
returns-clause-survives g c =
    let old = c.args.conn.now in
    let mid = c.make_tables.new.tx.conn.now in
    let last = c.make_rows.new.tx.conn.now in
    let end = c.commit.new.self.0 in
    let begun = c.transaction-tx.ensures.begun in
    let P = IsNewIn (state g.S.Store old) in
    let up = λ (was : HasCleanDisk (state g.S.Store last)). rw begun at (c.in_ok-make_tables.ensures.up (omega (arith, c.make_rows.ensures.survives.clean, was)) (rw begun)) in
    let made = λ (was : HasCleanDisk (state g.S.Store last)) (has : old.schema ≡ no_schema).
    let one = c.in_ok-make_tables.ensures.made (omega (arith, c.make_rows.ensures.survives.clean, was)) (rw begun) (rw begun has) in
    (c.in_ok-make_rows.ensures.made was one.1 one.0).0 in
    let inside = survives_then (state g.S.Store c.transaction-tx.result.conn.now) (state g.S.Store mid) (state g.S.Store last) _ _ (λ _. ⊥) (λ _ db none. none) (λ _ db none. none)
    c.make_tables.ensures.survives c.make_rows.ensures.survives in
    let whole = survives_then (state g.S.Store old) (state g.S.Store last) (state g.S.Store end) _ _ P (λ _ db none. absurd none)
    (λ clean db is. (up (omega (arith, c.commit.ensures.survives.clean, clean)), λ has. fresh_left (state g.S.Store last).now db (made (omega (arith, c.commit.ensures.survives.clean, clean)) has) is)) (survives_begin g.S.Store old (state g.S.Store last) _ (rw begun at inside)) c.commit.ensures.survives in
    let same : end ≡ c.conn-2-1.given.0 = search rules in
    subst (λ h. Survives (state g.S.Store old) (state g.S.Store h) P) same whole

pub returns-in_err-make_rows-clause-unmade : goal.returns-in_err-make_rows-clause-unmade
returns-in_err-make_rows-clause-unmade g c clean is =
    let old = c.args.conn.now in
    let last = c.make_rows.new.tx.conn.now in
    let end = c.drop-tx-in_err-make_rows.new.self.0 in
    let begun = c.transaction-tx.ensures.begun in
    let same : end ≡ c.conn-in_err-make_rows-1.given.0 = search rules in
    let late : HasCleanDisk (state g.S.Store end) = subst (λ h. HasCleanDisk (state g.S.Store h)) (sym same) clean in
    let up : IsTrue (state g.S.Store end).is_open = subst (λ h. IsTrue (state g.S.Store h).is_open) (sym same) is in
    let was : HasCleanDisk (state g.S.Store last) = omega (arith, c.drop-tx-in_err-make_rows.ensures.survives.clean, late) in
    let early : HasCleanDisk (state g.S.Store c.make_tables.new.tx.conn.now) = omega (arith, c.make_rows.ensures.survives.clean, was) in
    let one = rw begun at (c.in_ok-make_tables.ensures.kept early (rw begun)) in
    let kept = keeps_then _ _ _ one (c.make_rows.ensures.kept was (c.in_ok-make_tables.ensures.goes_on early (rw begun))) in
    on_err c.from_residual-in_err-make_rows.result (subst (λ h. IsTrue (state g.S.Store old).is_open × ((state g.S.Store h).now ≡ (state g.S.Store old).now)) same
    (unmade (state g.S.Store (record old { in_transaction = true })) (state g.S.Store last) (state g.S.Store end) c.requires.settled kept (c.drop-tx-in_err-make_rows.ensures.undone late) up))

pub returns-clause-unmade : goal.returns-clause-unmade
returns-clause-unmade g c clean is =
    let old = c.args.conn.now in
    let last = c.make_rows.new.tx.conn.now in
    let end = c.commit.new.self.0 in
    let begun = c.transaction-tx.ensures.begun in
    let same : end ≡ c.conn-2-1.given.0 = search rules in
    let late : HasCleanDisk (state g.S.Store end) = subst (λ h. HasCleanDisk (state g.S.Store h)) (sym same) clean in
    let up : IsTrue (state g.S.Store end).is_open = subst (λ h. IsTrue (state g.S.Store h).is_open) (sym same) is in
    let was : HasCleanDisk (state g.S.Store last) = omega (arith, c.commit.ensures.survives.clean, late) in
    let early : HasCleanDisk (state g.S.Store c.make_tables.new.tx.conn.now) = omega (arith, c.make_rows.ensures.survives.clean, was) in
    let one = rw begun at (c.in_ok-make_tables.ensures.kept early (rw begun)) in
    let inside = c.in_ok-make_tables.ensures.goes_on early (rw begun) in
    let kept = keeps_then _ _ _ one (c.in_ok-make_rows.ensures.kept was inside) in
    subst (λ h. OnErr c.commit.result (IsTrue (state g.S.Store old).is_open × ((state g.S.Store h).now ≡ (state g.S.Store old).now))) same
    (commit_unmade (state g.S.Store (record old { in_transaction = true })) (state g.S.Store last) (state g.S.Store end) c.commit.result c.requires.settled kept (c.in_ok-make_rows.ensures.goes_on was inside) (c.commit.ensures.err late) up)
