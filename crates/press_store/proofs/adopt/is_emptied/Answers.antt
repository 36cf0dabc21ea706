use Rattle.std.proofs.Common.{◌≡◌, sym, ◌∙◌, rules}
use Rattle.press_store.proofs.Adopting.{left_looks, left_same, left_none}
use Rattle.press_store.proofs.adopt.is_emptied.Goals as goal

pub returns-clause-looks : goal.returns-clause-looks
returns-clause-looks g c clean has = left_looks g.D.Store c.args.conn.now c.read.new.conn has c.read.result clean (c.read.ensures.asked clean)

pub returns-in_err-rows-clause-looks : goal.returns-in_err-rows-clause-looks
returns-in_err-rows-clause-looks g c clean has = left_looks g.D.Store c.args.conn.now c.read.new.conn has c.read.result clean (c.read.ensures.asked clean)

pub returns-clause-shows : goal.returns-clause-shows
returns-clause-shows g c clean has = left_same g.D.Store c.args.conn.now c.read.new.conn has c.in_ok-rows.rows (c.in_ok-rows.ensures.asked clean)

pub returns-clause-tells : goal.returns-clause-tells
returns-clause-tells g c clean has live found =
    let same : c.deref.result.now ≡ c.in_ok-rows.rows.items = search rules in
    left_none g.D.Store c.args.conn.now c.read.new.conn has live c.in_ok-rows.rows (c.in_ok-rows.ensures.asked clean) (sym same ∙ c.is_none.ensures found)
