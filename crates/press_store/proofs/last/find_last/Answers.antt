use Rattle.std.proofs.Common.{[], Result, Vec, Ok, Err, IfOk, IfSome, subst, arith}
use Rattle.std.specs.Prelude.{IsTrue}
use Rattle.std.specs.declared.alloc.Global.{Global}
use Rattle.sqlite.specs.declared.error.Error.{Error}
use Rattle.sqlite.specs.Store.{Ghosts}
use Rattle.sqlite.specs.Order.{Row}
use Rattle.sqlite.specs.Held.{Held, state}
use Rattle.press_store.specs.Tables.{last_vote_text}
use Rattle.press_store.specs.Voted.{last_in, IsLastVote}
use Rattle.press_store.specs.Kept.{kept_by}
use Rattle.press_store.specs.Attempt.{Ready}
use Rattle.press_store.proofs.Lasts.{last_shown}
use Rattle.press_store.proofs.Looked.{Finds, finds}
use Rattle.press_store.proofs.Saved.{as_kept}
use Rattle.press_store.proofs.Texts.{last_vote_select, last_vote_means}
use Rattle.press_store.proofs.last.find_last.Goals as goal

shown : {S : Type 0} (g : Ghosts S) (old new : Held S) (result : Result (Vec Row Global) Error) → Ready (state g old) → Finds g last_vote_text [] last_vote_select last_vote_means old new result
    → IfOk result (λ rows. IsTrue (state g old).is_open × IfSome (last_in rows.items) (IsLastVote (kept_by (state g old))))
shown g old new (Err e) r h = tt
shown g old new (Ok rows) r h =
    let (_, (up, l, has, read)) = h in
    (up, subst (λ store. IfSome (last_in rows.items) (IsLastVote store)) (as_kept (state g old) r up) (last_shown l (state g old).now rows.items has read))

pub returns-clause-looks : goal.returns-clause-looks
returns-clause-looks g c clean ready = (finds g.S.Store last_vote_text [] last_vote_select last_vote_means c.args.conn.now c.read.new.conn c.read.result clean ready (c.read.ensures.asked clean)).0

pub returns-clause-last : goal.returns-clause-last
returns-clause-last g c clean ready =
    shown g.S.Store c.args.conn.now c.read.new.conn c.read.result (ready (omega (arith, c.read.ensures.clean, clean)))
    (finds g.S.Store last_vote_text [] last_vote_select last_vote_means c.args.conn.now c.read.new.conn c.read.result clean ready (c.read.ensures.asked clean))

pub returns-clause-ready : goal.returns-clause-ready
returns-clause-ready g c ready clean = (returns-clause-looks g c clean ready).ready
