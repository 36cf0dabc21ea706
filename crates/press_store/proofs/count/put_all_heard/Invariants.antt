use Rattle.std.proofs.Common.{◌≡◌, drop}
use Rattle.std.specs.Prelude.{IsTrue}
use Rattle.sqlite.specs.State.{HasCleanDisk, Survives}
use Rattle.sqlite.specs.Held.{state}
use Rattle.press_store.specs.Tables.{Layout, HasStarts}
use Rattle.press_store.specs.Attempt.{AreTables}
use Rattle.press_store.specs.Steps.{Keeps}
use Rattle.press_store.proofs.Counted.{Hears}
use Rattle.press_store.proofs.count.put_all_heard.Given as goal

abbrev pub invariant-loop-it : goal.invariant-loop-it
invariant-loop-it g l =
    let old = state g.S.Store l.fn.tx.conn.now in
    let new = state g.S.Store l.tx.conn.now in
    record {
      name : l.tx.conn.ghost_name ≡ l.fn.tx.conn.ghost_name;
      kept : Keeps g.S.Store l.fn.tx.conn.now l.tx.conn.now;
      goes_on : HasCleanDisk new → IsTrue old.in_transaction → IsTrue new.in_transaction;
      acts : HasCleanDisk new → IsTrue old.in_transaction → (at : Layout) → HasStarts at → AreTables at old.now → AreTables at new.now × Hears (drop l.it-index l.heard) l.heard old.now.trees new.now.trees;
      survives : Survives old new (λ _. ⊥);
    }
