use Rattle.std.proofs.Common.{◌≡◌, ℕ, pos, [], ◌∷◌, true, Result, Vec, Ok, Err, IfOk, IfSome, subst, arith}
use Rattle.std.specs.Prelude.{IsTrue}
use Rattle.std.specs.declared.alloc.Global.{Global}
use Rattle.sqlite.specs.declared.error.Error.{Error}
use Rattle.sqlite.specs.declared.types.Value.TheVariants.{Int}
use Rattle.sqlite.specs.Store.{Ghosts}
use Rattle.sqlite.specs.Order.{Row}
use Rattle.sqlite.specs.Held.{Held, state}
use Rattle.press_wire.specs.Blocks.{is_first}
use Rattle.press_acceptor.proofs.Maps.{IsSlot}
use Rattle.press_store.specs.Tables.{promise_text}
use Rattle.press_store.specs.Shown.{shown_promise, IsPromiseShown}
use Rattle.press_store.specs.Kept.{kept_by}
use Rattle.press_store.specs.Attempt.{Ready}
use Rattle.press_store.proofs.Looked.{Finds, finds, opens}
use Rattle.press_store.proofs.PromiseRows.{promise_shown}
use Rattle.press_store.proofs.Saved.{as_kept}
use Rattle.press_store.proofs.Texts.{promise_select, promise_means}
use Rattle.press_store.proofs.block.find_promise.Goals as goal

shown : {S : Type 0} (g : Ghosts S) (old new : Held S) (first : ℕ) (result : Result (Vec Row Global) Error) → Ready (state g old) → IsSlot first → is_first first ≡ true → Finds g promise_text (Int (pos first) ∷ []) promise_select promise_means old new result
    → IfOk result (λ rows. IsTrue (state g old).is_open × IfSome (shown_promise rows.items) (IsPromiseShown (kept_by (state g old)) first))
shown g old new first (Err e) r i f h = tt
shown g old new first (Ok rows) r i f h =
    let (_, (up, l, has, read)) = h in
    (up, subst (λ store. IfSome (shown_promise rows.items) (IsPromiseShown store first)) (as_kept (state g old) r up) (promise_shown l (state g old).now first rows.items i f has read))

pub returns-clause-looks : goal.returns-clause-looks
returns-clause-looks g c clean ready =
    (finds g.S.Store promise_text (Int (pos c.args.first) ∷ []) promise_select promise_means c.args.conn.now c.read.new.conn c.read.result clean ready (rw c.slot_value.ensures.value at (c.read.ensures.asked clean))).0

pub returns-clause-promise : goal.returns-clause-promise
returns-clause-promise g c clean ready =
    shown g.S.Store c.args.conn.now c.read.new.conn c.args.first c.read.result (ready (omega (arith, c.read.ensures.clean, clean))) c.slot_value.ensures.range c.requires
    (finds g.S.Store promise_text (Int (pos c.args.first) ∷ []) promise_select promise_means c.args.conn.now c.read.new.conn c.read.result clean ready (rw c.slot_value.ensures.value at (c.read.ensures.asked clean)))

pub returns-clause-ready : goal.returns-clause-ready
returns-clause-ready g c ready clean = (returns-clause-looks g c clean ready).ready

pub returns-clause-opened : goal.returns-clause-opened
returns-clause-opened g c clean ready =
    opens g.S.Store promise_text (Int (pos c.args.first) ∷ []) promise_select promise_means c.args.conn.now c.read.new.conn c.read.result clean ready (rw c.slot_value.ensures.value at (c.read.ensures.asked clean))
