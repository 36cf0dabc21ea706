use Rattle.std.proofs.Common.{[], arith}
use Rattle.sqlite.specs.Held.{state}
use Rattle.press_store.specs.Tables.{starts_text}
use Rattle.press_store.proofs.Counted.{has_there}
use Rattle.press_store.proofs.StartShown.{looks_there}
use Rattle.press_store.proofs.Texts.{starts_select, starts_means}
use Rattle.press_store.proofs.starts.find_names.Goals as goal

pub returns-clause-looks : goal.returns-clause-looks
returns-clause-looks g c clean ready =
    let old = state g.S.Store c.args.conn.now in
    looks_there g.S.Store starts_text [] starts_select starts_means c.args.conn.now c.read.new.conn (ready (omega (arith, c.read.ensures.clean, clean))) (λ l has. has_there l old.now.schema has.schema c.requires)
    c.read.result clean (c.read.ensures.asked clean)
