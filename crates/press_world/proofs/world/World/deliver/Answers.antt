use Rattle.std.proofs.Common.{◌≡◌, length, slice_get, Some, Err, refl, sym, subst, ap, ◌∙◌, arith}
use Rattle.press_wire.specs.declared.message.Message.{Message}
use Rattle.press_node.specs.declared.event.Event.TheVariants as event
use Rattle.press_node.specs.declared.fault.NodeFault.TheVariants.{NoMemory}
use Rattle.press_world.specs.Models.{model, size}
use Rattle.press_world.specs.Seats.{place_of, static_of}
use Rattle.press_world.specs.Worlds.{index_of}
use Rattle.press_world.specs.declared.fault.WorldFault.TheVariants.{Node}
use Rattle.press_world.specs.declared.step.Step.TheVariants.{Deliver}
use Rattle.press_world.proofs.Changed.{found}
use Rattle.press_world.proofs.Members.{same_size}
use Rattle.press_world.proofs.Refused.{passes, refused_happens, wanting_happens, when_wanting}
use Rattle.press_world.proofs.Steps.{deliver_is, deliver_refused, deliver_steps, numbered}
use Rattle.press_world.proofs.world.World.deliver.Goals as goal

pub returns-in-Some-refusal_of_message-clause-steps : goal.returns-in-Some-refusal_of_message-clause-steps
returns-in-Some-refusal_of_message-clause-steps g c kit =
    let w = c.args.self.now in
    let sent = (model w).sent in
    let which = c.in-Some.message_index in
    let index = c.in-Some-index.index in
    let message = c.index-sent.result.now in
    let n : c.len.result ≡ length sent = omega (arith, c.len.ensures) in
    let e : Some which ≡ index_of (length sent) c.args.number = subst (λ k. Some which ≡ index_of k c.args.number) n c.in-Some.ensures in
    let at : slice_get sent which ≡ Some message = found sent which message (numbered (length sent) c.args.number which e).1 c.index-sent.ensures in
    let to : Some index ≡ index_of (length (model w).places) message.to = c.in-Some-index.ensures ∙ ap (index_of (length (model w).places)) c.number.ensures.value in
    let fault = c.in-Some-refusal_of_message.fault in
    deliver_steps kit (size w) (model w) (model w) c.args.number index c.args.cut (Err (Node fault)) refl which message e at to
    (refused_happens (size w) (model w) which index (place_of c.seat.result.now) (event.Deliver message) c.args.cut fault c.seat.ensures (c.in-Some-refusal_of_message.ensures message))

pub returns-in_default-copy-clause-memory : goal.returns-in_default-copy-clause-memory
returns-in_default-copy-clause-memory g c =
    let w = c.args.self.now in
    let sent = (model w).sent in
    let which = c.in-Some.message_index in
    let index = c.in-Some-index.index in
    let message = c.index-sent.result.now in
    let n : c.len.result ≡ length sent = omega (arith, c.len.ensures) in
    let e : Some which ≡ index_of (length sent) c.args.number = subst (λ k. Some which ≡ index_of k c.args.number) n c.in-Some.ensures in
    let at : slice_get sent which ≡ Some message = found sent which message (numbered (length sent) c.args.number which e).1 c.index-sent.ensures in
    let to : Some index ≡ index_of (length (model w).places) message.to = c.in-Some-index.ensures ∙ ap (index_of (length (model w).places)) c.number.ensures.value in
    let passed = passes (model w) index (place_of c.seat.result.now) (event.Deliver message) c.args.cut c.seat.ensures (c.in_default-refusal_of_message.ensures message) in
    λ _. deliver_refused (model w) c.args.number which index message c.args.cut e at to ∙ passed

pub returns-in_default-copy-clause-steps : goal.returns-in_default-copy-clause-steps
returns-in_default-copy-clause-steps g c kit =
    let w = c.args.self.now in
    let sent = (model w).sent in
    let which = c.in-Some.message_index in
    let index = c.in-Some-index.index in
    let message = c.index-sent.result.now in
    let n : c.len.result ≡ length sent = omega (arith, c.len.ensures) in
    let e : Some which ≡ index_of (length sent) c.args.number = subst (λ k. Some which ≡ index_of k c.args.number) n c.in-Some.ensures in
    let at : slice_get sent which ≡ Some message = found sent which message (numbered (length sent) c.args.number which e).1 c.index-sent.ensures in
    let to : Some index ≡ index_of (length (model w).places) message.to = c.in-Some-index.ensures ∙ ap (index_of (length (model w).places)) c.number.ensures.value in
    let passed = passes (model w) index (place_of c.seat.result.now) (event.Deliver message) c.args.cut c.seat.ensures (c.in_default-refusal_of_message.ensures message) in
    deliver_steps kit (size w) (model w) (model w) c.args.number index c.args.cut (Err (Node NoMemory)) refl which message e at to
    (wanting_happens (size w) (model w) which index (event.Deliver message) c.args.cut passed)

pub happen-requires-clause-step : goal.happen-requires-clause-step
happen-requires-clause-step g c =
    let w = c.args.self.now in
    let sent = (model w).sent in
    let which = c.in-Some.message_index in
    let index = c.in-Some-index.index in
    let message = c.index-sent.result.now in
    let n : c.len.result ≡ length sent = omega (arith, c.len.ensures) in
    let e : Some which ≡ index_of (length sent) c.args.number = subst (λ k. Some which ≡ index_of k c.args.number) n c.in-Some.ensures in
    let at : slice_get sent which ≡ Some message = found sent which message (numbered (length sent) c.args.number which e).1 c.index-sent.ensures in
    let to : Some index ≡ index_of (length (model w).places) message.to = c.in-Some-index.ensures ∙ ap (index_of (length (model w).places)) c.number.ensures.value in
    let copied = c.in-Ok.message in
    let at_copied : slice_get sent which ≡ Some copied = at ∙ ap Some (sym c.in-Ok.ensures.same) in
    let to_copied : Some index ≡ index_of (length (model w).places) copied.to = to ∙ ap (λ (m : Message). index_of (length (model w).places) m.to) (sym c.in-Ok.ensures.same) in
    λ stop. (Deliver c.args.number stop, deliver_is (size w) (model w) c.args.number which index copied e at_copied to_copied stop)

pub returns-clause-memory : goal.returns-clause-memory
returns-clause-memory g c =
    let w = c.args.self.now in
    let sent = (model w).sent in
    let which = c.in-Some.message_index in
    let index = c.in-Some-index.index in
    let message = c.index-sent.result.now in
    let n : c.len.result ≡ length sent = omega (arith, c.len.ensures) in
    let e : Some which ≡ index_of (length sent) c.args.number = subst (λ k. Some which ≡ index_of k c.args.number) n c.in-Some.ensures in
    let at : slice_get sent which ≡ Some message = found sent which message (numbered (length sent) c.args.number which e).1 c.index-sent.ensures in
    let to : Some index ≡ index_of (length (model w).places) message.to = c.in-Some-index.ensures ∙ ap (index_of (length (model w).places)) c.number.ensures.value in
    let passed = passes (model w) index (place_of c.seat.result.now) (event.Deliver message) c.args.cut c.seat.ensures (c.in_default-refusal_of_message.ensures message) in
    when_wanting c.happen.result (deliver_refused (model w) c.args.number which index message c.args.cut e at to ∙ passed)

pub returns-clause-steps : goal.returns-clause-steps
returns-clause-steps g c kit =
    let w = c.args.self.now in
    let sent = (model w).sent in
    let which = c.in-Some.message_index in
    let index = c.in-Some-index.index in
    let message = c.index-sent.result.now in
    let n : c.len.result ≡ length sent = omega (arith, c.len.ensures) in
    let e : Some which ≡ index_of (length sent) c.args.number = subst (λ k. Some which ≡ index_of k c.args.number) n c.in-Some.ensures in
    let at : slice_get sent which ≡ Some message = found sent which message (numbered (length sent) c.args.number which e).1 c.index-sent.ensures in
    let to : Some index ≡ index_of (length (model w).places) message.to = c.in-Some-index.ensures ∙ ap (index_of (length (model w).places)) c.number.ensures.value in
    let copied = c.in-Ok.message in
    let at_copied : slice_get sent which ≡ Some copied = at ∙ ap Some (sym c.in-Ok.ensures.same) in
    let to_copied : Some index ≡ index_of (length (model w).places) copied.to = to ∙ ap (λ (m : Message). index_of (length (model w).places) m.to) (sym c.in-Ok.ensures.same) in
    deliver_steps kit (size w) (model w) (model c.happen.new.self) c.args.number index c.args.cut c.happen.result
    (same_size place_of static_of w.cluster.seats.items c.happen.new.self.cluster.seats.items c.happen.ensures.statics)
    which copied e at_copied to_copied c.happen.ensures.happens
