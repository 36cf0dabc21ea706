use Rattle.std.proofs.Common.{◌≡◌, ◌∙◌, Some, None, codes, false, sym, ap, subst}
use Rattle.sqlite.specs.Effect.{Database}
use Rattle.sqlite.specs.Held.{state}
use Rattle.press_store.specs.Adopted.{has_table}
use Rattle.press_store.specs.Starts.{starts_in}
use Rattle.press_store.proofs.Counted.{lacks_there}
use Rattle.press_store.proofs.StartShown.{looked_itself, no_mark}
use Rattle.press_store.proofs.starts.read_mark.Goals as goal

pub returns-then-not-has_starts-clause-looks : goal.returns-then-not-has_starts-clause-looks
returns-then-not-has_starts-clause-looks g c clean ready = looked_itself (state g.S.Store c.args.conn.now) (ready clean)

pub returns-then-not-has_starts-clause-mark : goal.returns-then-not-has_starts-clause-mark
returns-then-not-has_starts-clause-mark g c clean ready up =
    let old = state g.S.Store c.args.conn.now in
    let none : has_table old.now.schema (codes "start") ≡ false = ap (λ s. has_table s (codes "start")) (sym c.schema.ensures.value) ∙ sym c.has_starts.ensures ∙ c.if-not-has_starts.true in
    let r = ready clean in
    let t = r.tables up in
    subst (λ (d : Database). Some None ≡ (starts_in d.trees).heard c.args.member) (r.settled up) (no_mark t.0 old.now c.args.member (lacks_there t.0 old.now.schema t.1.schema none) t.1)
