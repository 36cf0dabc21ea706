use Rattle.std.proofs.Common.{◌≡◌, ◌∙◌, Some, None, codes, false, sym, ap, subst}
use Rattle.sqlite.specs.Effect.{Database}
use Rattle.sqlite.specs.Held.{state}
use Rattle.press_store.specs.Adopted.{has_table}
use Rattle.press_store.specs.Noted.{id_of}
use Rattle.press_store.specs.Starts.{starts_in}
use Rattle.press_store.proofs.Counted.{lacks_there}
use Rattle.press_store.proofs.StartShown.{looked_itself, no_note}
use Rattle.press_store.proofs.noting.read_note.Goals as goal

pub returns-then-not-has_starts-clause-looks : goal.returns-then-not-has_starts-clause-looks
returns-then-not-has_starts-clause-looks g c clean ready = looked_itself (state g.S.Store c.args.conn.now) (ready clean)

pub returns-then-not-has_starts-clause-note : goal.returns-then-not-has_starts-clause-note
returns-then-not-has_starts-clause-note g c clean ready up =
    let old = state g.S.Store c.args.conn.now in
    let none : has_table old.now.schema (codes "start") ≡ false = ap (λ s. has_table s (codes "start")) (sym c.schema.ensures.value) ∙ sym c.has_starts.ensures ∙ c.if-not-has_starts.true in
    let r = ready clean in
    let t = r.tables up in
    subst (λ (d : Database). Some None ≡ (starts_in d.trees).notes (id_of c.args.which)) (r.settled up) (no_note t.0 old.now (id_of c.args.which) (lacks_there t.0 old.now.schema t.1.schema none) t.1)
