use Rattle.std.proofs.Common.{rules, ◌≡◌, Some, subst}
use Rattle.press_net.specs.Talking.{MakesPlace}
use Rattle.press_net.proofs.connections.Connections.enter.Goals as goal

pub returns-clause-entered : goal.returns-clause-entered
returns-clause-entered g c =
    let is : c.in_ok-place.field-0 ≡ Some c.in-Some.place = search rules in
    let Makes = MakesPlace c.args.self.now.most c.args.connection.arrival.group c.args.intake c.args.self.now.places.items c.place.new.self.places.items in
    (c.place.new.self.places.items, subst Makes is c.in_ok-place.ensures.made, c.put.ensures)
