use Rattle.press_store.proofs.Adopting.{back_through, new_back, new_made, ok_through}
use Rattle.press_store.proofs.adopt.prepare_empty.Goals as goal

pub returns-clause-adopts : goal.returns-clause-adopts
returns-clause-adopts g c clean has =
    ok_through c.make.result c.map_err.result c.map_err.ensures.variant
    (new_made g.D.Store g.met.D.Store.settled c.args.conn.now c.make.new.conn c.requires.unlimited c.make.ensures.survives.limit c.make.ensures.ended c.requires.live c.requires.settled has)
    (c.make.ensures.made clean has)

pub returns-clause-back : goal.returns-clause-back
returns-clause-back g c clean has =
    back_through c.make.result c.map_err.result c.map_err.ensures.variant (c.make.ensures.unmade clean)
    (λ same. new_back g.D.Store g.met.D.Store.stays c.args.conn.now c.make.new.conn c.requires.live c.requires.settled clean same has c.make.ensures.survives)
