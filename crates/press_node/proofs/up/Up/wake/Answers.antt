use Rattle.std.proofs.Common.{Some, sym, subst, ◌∙◌}
use Rattle.press_acceptor.specs.Turned.{store_move}
use Rattle.press_proposer.specs.Wakes.{Wakes}
use Rattle.press_node.specs.Views.{running_of}
use Rattle.press_node.proofs.Waking.{wake_fails}
use Rattle.press_node.proofs.up.Up.wake.Goals as goal

pub returns-in-Err-clause-plays : goal.returns-in-Err-clause-plays
returns-in-Err-clause-plays g c =
    let store = store_move g.S.PromiseStore.seen c.args.store.now c.wake.new.store in
    let p = c.args.self.now.proposer in
    let w = subst (λ k. Wakes p c.args.self.now.learner.applied k store (Some c.in-Err.fault)) c.has_gap-gap.ensures.value (subst (λ k. Wakes p k c.has_gap-gap.result store (Some c.in-Err.fault)) c.applied-applied.ensures.value c.in-Err.ensures.wakes) in
    rw c.of_proposer.ensures (wake_fails c.args.members c.args.id (running_of c.args.self.now) store _ _ c.in-Err.fault (sym c.is_at_end.ensures.value ∙ c.if-is_at_end.false)
    (λ i. record { proposer = c.in-Err.ensures.unchanged i; learner = c.args.self.now.learner; values = c.args.self.now.values; site = c.args.self.now.site }) w)
