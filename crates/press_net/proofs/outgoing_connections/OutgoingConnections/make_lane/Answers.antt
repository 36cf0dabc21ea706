use Rattle.std.proofs.Common.{rules, None, arith, map, ◌≡◌, ◌≤◌, ◌+◌, ◌-◌, ◌∙◌, length, ap, sym, refl, append-nil}
use Rattle.std.proofs.lemmas.List.{length-map}
use Rattle.press_net.specs.Lanes.{empty_queue, queue_of, queues}
use Rattle.press_net.proofs.Lanes.{grows}
use Rattle.press_net.proofs.outgoing_connections.OutgoingConnections.make_lane.Goals as goal

pub loop-self-init : goal.loop-self-init
loop-self-init c = (0, sym (append-nil _), search rules, sym (length-map c.args.self.now.lanes.items queue_of) ∙ search rules, refl, λ there. refl)

pub loop-self-smaller : goal.loop-self-smaller
loop-self-smaller c = search rules

pub loop-self-preserved : goal.loop-self-preserved
loop-self-preserved c =
    let i = c.loop-self.invariant in
    let is : queue_of (record { waiting = c.new.result; «open» = 0; kept = None }) ≡ empty_queue = ap (λ waiting. record { waiting = waiting; «open» = 0 }) c.new.ensures.items in
    let fits : i.0 + 1 ≤ c.args.place + 1 - length (queues c.args.self.now) = search rules in
    let more : length c.push.new.self.items ≡ length (queues c.args.self.now) + (i.0 + 1) = search rules in
    let len_is : length c.args.self.now.lanes.items ≤ c.args.place = search rules in
    (i.0 + 1, ap (map queue_of) c.in_ok-push.ensures.items ∙ grows c.loop-self.self.lanes.items (queues c.args.self.now) i.0 _ i.1 is, fits, more, i.4, λ there. absurd (omega (arith, there, len_is)))

pub returns-in_err-push-clause-grown : goal.returns-in_err-push-clause-grown
returns-in_err-push-clause-grown c = search rules

pub returns-in_err-push-clause-same : goal.returns-in_err-push-clause-same
returns-in_err-push-clause-same c = search rules

pub returns-clause-made : goal.returns-clause-made
returns-clause-made c = search rules

pub returns-clause-same : goal.returns-clause-same
returns-clause-same c = search rules
