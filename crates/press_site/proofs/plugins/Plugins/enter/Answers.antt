use Rattle.std.proofs.Common.{◌≡◌, true}
use Rattle.press_site.specs.InOrder.{in_order}
use Rattle.press_site.proofs.Halves.{in_order_insert}
use Rattle.press_site.proofs.plugins.Plugins.enter.Goals as goal

pub invariant_of-self-2 : goal.invariant_of-self-2
invariant_of-self-2 c =
    let held : in_order c.insert.new.self.items ≡ true =
    rw (c.in_ok-insert.ensures.items, c.place_of-place.ensures.place, c.as_slice.ensures.value) (in_order_insert c.args.plugin c.self.inside.names.items c.self.invariant) in
    held
