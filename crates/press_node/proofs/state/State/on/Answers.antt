use Rattle.std.proofs.Common.{Option, sym, ap, ◌∙◌}
use Rattle.press_acceptor.specs.Turned.{store_move}
use Rattle.press_node.specs.States.{NodeState}
use Rattle.press_node.specs.Views.{view_up}
use Rattle.press_node.specs.declared.up.Up.{Up}
use Rattle.press_node.proofs.Playing.{stopped_plays}
use Rattle.press_node.proofs.state.State.on.Goals as goal

pub returns-else-not-stops-clause-plays : goal.returns-else-not-stops-clause-plays
returns-else-not-stops-clause-plays g c =
    let at : Option Up → NodeState = λ up. record { id = c.self.inside.id; members = c.self.inside.members; up = view_up up } in
    stopped_plays (store_move g.S.PromiseStore.seen c.args.store.now c.on-done.new.store) c.self.inside.id c.self.inside.members c.in-Some.up c.on-done.new.self
    c.args.self.now (at c.take.new.self) c.args.event c.in-Err.fault
    (sym c.self.view_is ∙ ap at c.in-Some.is) (ap at c.take.ensures.after) (sym c.if-not-stops.ensures) c.in-Err.ensures.plays
