use Rattle.std.specs.Prelude.{◌^◌}
use Rattle.std.proofs.Common.{◌≤◌, pos, [], ◌∷◌, refl}
use Rattle.sqlite.specs.declared.types.Value.TheVariants.{Int}
use Rattle.press_acceptor.specs.StoreMap.{with_round}
use Rattle.press_store.specs.Tables.{save_round_text}
use Rattle.press_store.proofs.Rounds.{round_put}
use Rattle.press_store.proofs.Saved.{saves}
use Rattle.press_store.proofs.Texts.{round_update, save_round_means}
use Rattle.press_store.proofs.meta.put_round.Goals as goal

pub returns-clause-saves : goal.returns-clause-saves
returns-clause-saves g c clean ready =
    let n = c.args.round in
    let small : n ≤ 2 ^ 40 = c.round_value.ensures.range.1 in
    saves g.S.Store g.met.S.Store.settled save_round_text (Int (pos n) ∷ []) round_update save_round_means
    (λ l a b text count ran. ran) (λ l e. absurd (cc)) (λ l name e. absurd (cc)) (λ store. with_round store n)
    (λ l limit mode now after tally text has does. round_put l limit mode (Int (pos n) ∷ []) n now after tally refl small has text does)
    c.args.conn.now c.write.new.conn c.write.result clean ready (rw c.round_value.ensures.value at (c.write.ensures.ran clean))

pub returns-clause-ready : goal.returns-clause-ready
returns-clause-ready g c ready clean = (returns-clause-saves g c clean ready).ready
