use Rattle.std.proofs.Common.{[], Result, Vec, Ok, Err, IfOk, subst, arith}
use Rattle.std.specs.Prelude.{IsTrue}
use Rattle.std.specs.declared.alloc.Global.{Global}
use Rattle.sqlite.specs.declared.error.Error.{Error}
use Rattle.sqlite.specs.Store.{Ghosts}
use Rattle.sqlite.specs.Order.{Row, column}
use Rattle.sqlite.specs.Held.{Held, state}
use Rattle.press_store.specs.Tables.{round_text}
use Rattle.press_store.specs.Shown.{IsRoundRow}
use Rattle.press_store.specs.Stands.{store_in}
use Rattle.press_store.specs.Kept.{kept_by}
use Rattle.press_store.specs.Attempt.{Ready}
use Rattle.press_store.proofs.Looked.{Finds, finds, opens}
use Rattle.press_store.proofs.Rounds.{round_found, round_shown}
use Rattle.press_store.proofs.Saved.{as_kept}
use Rattle.press_store.proofs.Texts.{round_select, round_means}
use Rattle.press_store.proofs.meta.find_round.Goals as goal

one_row : {S : Type 0} (g : Ghosts S) (old new : Held S) (result : Result (Vec Row Global) Error) → Ready (state g old) → Finds g round_text [] round_select round_means old new result
    → IfOk result (λ rows. IsTrue (state g old).is_open × IsRoundRow (kept_by (state g old)) rows.items)
one_row g old new (Err e) r h = tt
one_row g old new (Ok rows) r h =
    let (_, (up, l, has, read)) = h in
    let seen : IsRoundRow (store_in (state g old).now.trees) rows.items = (column has.kept.row 2, round_found l (state g old).now rows.items has read, round_shown (state g old).now.trees has.kept) in
    (up, subst (λ store. IsRoundRow store rows.items) (as_kept (state g old) r up) seen)

pub returns-clause-looks : goal.returns-clause-looks
returns-clause-looks g c clean ready =
    (finds g.S.Store round_text [] round_select round_means c.args.conn.now c.read.new.conn c.read.result clean ready (c.read.ensures.asked clean)).0

pub returns-clause-round : goal.returns-clause-round
returns-clause-round g c clean ready =
    one_row g.S.Store c.args.conn.now c.read.new.conn c.read.result (ready (omega (arith, c.read.ensures.clean, clean)))
    (finds g.S.Store round_text [] round_select round_means c.args.conn.now c.read.new.conn c.read.result clean ready (c.read.ensures.asked clean))

pub returns-clause-ready : goal.returns-clause-ready
returns-clause-ready g c ready clean = (returns-clause-looks g c clean ready).ready

pub returns-clause-opened : goal.returns-clause-opened
returns-clause-opened g c clean ready =
    opens g.S.Store round_text [] round_select round_means c.args.conn.now c.read.new.conn c.read.result clean ready (c.read.ensures.asked clean)
