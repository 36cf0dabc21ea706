use Rattle.std.proofs.Common.{◌≡◌, ◌∙◌, codes, true, false, sym, ap, arith}
use Rattle.sqlite.specs.Held.{state}
use Rattle.press_store.specs.Adopted.{has_table}
use Rattle.press_store.specs.Counting.{LacksStarts, PutsNote}
use Rattle.press_store.specs.Noted.{id_of}
use Rattle.press_store.specs.Tables.{HasStarts}
use Rattle.press_store.proofs.Counted.{has_there, lacks_there, transacted}
use Rattle.press_store.proofs.noting.put_note.Goals as goal

pub returns-clause-puts : goal.returns-clause-puts
returns-clause-puts g c clean ready =
    let old = state g.S.Store c.args.conn.now in
    let r = ready (omega (arith, c.commit_first.ensures.survives.clean, clean)) in
    let none : has_table old.now.schema (codes "start") ≡ false = ap (λ s. has_table s (codes "start")) (sym c.schema.ensures.value) ∙ sym c.has_starts.ensures ∙ c.if-has_starts.false in
    transacted g.S.Store g.met.S.Store.settled LacksStarts (PutsNote (id_of c.args.which) c.args.bytes.now) c.args.conn.now c.commit_first.new.conn
    r (λ _ l has. lacks_there l old.now.schema has.schema none) clean c.commit_first.ensures.ended c.commit_first.ensures.survives c.commit_first.result c.commit_first.ensures.up c.commit_first.ensures.commits c.commit_first.ensures.undone

pub returns-then-has_starts-clause-puts : goal.returns-then-has_starts-clause-puts
returns-then-has_starts-clause-puts g c clean ready =
    let old = state g.S.Store c.args.conn.now in
    let r = ready (omega (arith, c.commit_further.ensures.survives.clean, clean)) in
    let there : has_table old.now.schema (codes "start") ≡ true = ap (λ s. has_table s (codes "start")) (sym c.schema.ensures.value) ∙ sym c.has_starts.ensures ∙ c.if-has_starts.true in
    transacted g.S.Store g.met.S.Store.settled HasStarts (PutsNote (id_of c.args.which) c.args.bytes.now) c.args.conn.now c.commit_further.new.conn
    r (λ _ l has. has_there l old.now.schema has.schema there) clean c.commit_further.ensures.ended c.commit_further.ensures.survives c.commit_further.result c.commit_further.ensures.up c.commit_further.ensures.commits c.commit_further.ensures.undone
