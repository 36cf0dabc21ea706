use Rattle.std.proofs.Common.{◌≡◌, List, ℕ, [], ◌∷◌, Result, Vec, Ok, Err, IfOk, subst, arith}
use Rattle.std.specs.Prelude.{IsTrue}
use Rattle.std.specs.declared.alloc.Global.{Global}
use Rattle.sqlite.specs.declared.error.Error.{Error}
use Rattle.sqlite.specs.declared.types.Value.TheVariants.{Text}
use Rattle.sqlite.specs.Store.{Ghosts}
use Rattle.sqlite.specs.Effect.{Database}
use Rattle.sqlite.specs.Order.{Row}
use Rattle.sqlite.specs.Held.{Held, state}
use Rattle.press_store.specs.Tables.{entry_text}
use Rattle.press_store.specs.Attempt.{Ready}
use Rattle.press_store.specs.Owned.{entry_in, shown_entry}
use Rattle.press_store.proofs.Looked.{Finds, finds, opens, untouched}
use Rattle.press_store.proofs.OwnerRows.{entry_shown}
use Rattle.press_store.proofs.Texts.{entry_select, entry_means}
use Rattle.press_store.proofs.tying.find_entry.Goals as goal

shown : {S : Type 0} (g : Ghosts S) (old new : Held S) (name : List ℕ) (result : Result (Vec Row Global) Error) → Ready (state g old) → Finds g entry_text (Text name ∷ []) entry_select entry_means old new result
    → IfOk result (λ rows. IsTrue (state g old).is_open × (shown_entry rows.items ≡ entry_in name (state g old).committed.trees))
shown g old new name (Err e) r h = tt
shown g old new name (Ok rows) r h =
    let (_, (up, l, has, read)) = h in
    (up, subst (λ (d : Database). shown_entry rows.items ≡ entry_in name d.trees) (r.settled up) (entry_shown l (state g old).now name rows.items has read))

pub returns-clause-looks : goal.returns-clause-looks
returns-clause-looks g c clean ready =
    (finds g.S.Store entry_text (Text c.args.name.now ∷ []) entry_select entry_means c.args.conn.now c.read.new.conn c.read.result clean ready (rw c.name_value.ensures at (c.read.ensures.asked clean))).0

pub returns-clause-spares : goal.returns-clause-spares
returns-clause-spares g c clean ready =
    untouched g.S.Store entry_text (Text c.args.name.now ∷ []) entry_select entry_means c.args.conn.now c.read.new.conn c.read.result clean ready (rw c.name_value.ensures at (c.read.ensures.asked clean))

pub returns-clause-entry : goal.returns-clause-entry
returns-clause-entry g c clean ready =
    shown g.S.Store c.args.conn.now c.read.new.conn c.args.name.now c.read.result (ready (omega (arith, c.read.ensures.clean, clean)))
    (finds g.S.Store entry_text (Text c.args.name.now ∷ []) entry_select entry_means c.args.conn.now c.read.new.conn c.read.result clean ready (rw c.name_value.ensures at (c.read.ensures.asked clean)))

pub returns-clause-ready : goal.returns-clause-ready
returns-clause-ready g c ready clean = (returns-clause-looks g c clean ready).ready

pub returns-clause-opened : goal.returns-clause-opened
returns-clause-opened g c clean ready =
    opens g.S.Store entry_text (Text c.args.name.now ∷ []) entry_select entry_means c.args.conn.now c.read.new.conn c.read.result clean ready (rw c.name_value.ensures at (c.read.ensures.asked clean))
