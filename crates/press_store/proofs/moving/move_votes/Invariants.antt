use Rattle.std.proofs.Common.{◌≡◌}
use Rattle.std.specs.Prelude.{IsTrue}
use Rattle.sqlite.specs.State.{HasCleanDisk, Survives}
use Rattle.sqlite.specs.Held.{state}
use Rattle.press_store.specs.Tables.{Moved, schema_of}
use Rattle.press_store.specs.Moving.{VotesMoved, first_behind}
use Rattle.press_store.specs.Steps.{Keeps}
use Rattle.press_store.proofs.moving.move_votes.Given as goal

abbrev pub invariant-loop-n : goal.invariant-loop-n
invariant-loop-n g l =
    let old = state g.S.Store l.fn.tx.conn.now in
    let new = state g.S.Store l.tx.conn.now in
    record {
      name : l.tx.conn.ghost_name ≡ l.fn.tx.conn.ghost_name;
      kept : Keeps g.S.Store l.fn.tx.conn.now l.tx.conn.now;
      goes_on : HasCleanDisk new → IsTrue old.in_transaction → IsTrue new.in_transaction;
      moved : HasCleanDisk new → IsTrue old.in_transaction → old.now.schema ≡ schema_of Moved → (new.now.schema ≡ schema_of Moved) × VotesMoved (first_behind l.count) l.n old.now.trees new.now.trees l.greatest;
      survives : Survives old new (λ _. ⊥);
    }
