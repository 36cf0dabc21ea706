use Rattle.press_store.proofs.Adopting.{back_through, old_back, old_moved, ok_through}
use Rattle.press_store.proofs.adopt.prepare_old.Goals as goal

pub returns-clause-adopts : goal.returns-clause-adopts
returns-clause-adopts g c clean has =
    ok_through c.migrate.result c.map_err.result c.map_err.ensures.variant
    (old_moved g.D.Store g.met.D.Store.settled c.args.conn.now c.migrate.new.conn c.requires.unlimited c.migrate.ensures.survives.limit c.migrate.ensures.ended c.requires.live c.requires.settled has)
    (c.migrate.ensures.migrated clean has)

pub returns-clause-back : goal.returns-clause-back
returns-clause-back g c clean has =
    back_through c.migrate.result c.map_err.result c.map_err.ensures.variant (c.migrate.ensures.unmade clean)
    (λ same. old_back g.D.Store g.met.D.Store.stays c.args.conn.now c.migrate.new.conn c.requires.live c.requires.settled clean same has c.migrate.ensures.survives)
