use Rattle.std.proofs.Common.{◌≡◌, ◌∙◌, codes, true, false, sym, ap, arith}
use Rattle.sqlite.specs.Held.{state}
use Rattle.press_store.specs.Adopted.{has_table}
use Rattle.press_store.specs.Counting.{BeginsStart, LacksStarts}
use Rattle.press_store.specs.Tables.{HasStarts}
use Rattle.press_store.proofs.Counted.{has_there, lacks_there, transacted}
use Rattle.press_store.proofs.begin.begin.Goals as goal

pub returns-clause-begins : goal.returns-clause-begins
returns-clause-begins g c clean ready =
    let old = state g.S.Store c.args.conn.now in
    let r = ready (omega (arith, c.commit_first.ensures.survives.clean, clean)) in
    let none : has_table old.now.schema (codes "start") ≡ false = ap (λ s. has_table s (codes "start")) (sym c.schema.ensures.value) ∙ sym c.has_starts.ensures ∙ c.if-has_starts.false in
    transacted g.S.Store g.met.S.Store.settled LacksStarts (BeginsStart c.args.start) c.args.conn.now c.commit_first.new.conn
    r (λ _ l has. lacks_there l old.now.schema has.schema none) clean c.commit_first.ensures.ended c.commit_first.ensures.survives c.commit_first.result c.commit_first.ensures.up c.commit_first.ensures.commits c.commit_first.ensures.undone

pub returns-then-has_starts-clause-begins : goal.returns-then-has_starts-clause-begins
returns-then-has_starts-clause-begins g c clean ready =
    let old = state g.S.Store c.args.conn.now in
    let r = ready (omega (arith, c.commit_further.ensures.survives.clean, clean)) in
    let there : has_table old.now.schema (codes "start") ≡ true = ap (λ s. has_table s (codes "start")) (sym c.schema.ensures.value) ∙ sym c.has_starts.ensures ∙ c.if-has_starts.true in
    transacted g.S.Store g.met.S.Store.settled HasStarts (BeginsStart c.args.start) c.args.conn.now c.commit_further.new.conn
    r (λ _ l has. has_there l old.now.schema has.schema there) clean c.commit_further.ensures.ended c.commit_further.ensures.survives c.commit_further.result c.commit_further.ensures.up c.commit_further.ensures.commits c.commit_further.ensures.undone
