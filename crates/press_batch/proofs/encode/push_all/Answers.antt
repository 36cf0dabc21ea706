use Rattle.std.proofs.Common.{◌≡◌, ◌++◌, length, true, false, sym, ap, ◌∙◌}
use Rattle.std.proofs.lemmas.Result.{err_from_is_err_and}
use Rattle.press_wire.specs.Spelling.{spelled_message}
use Rattle.press_batch.specs.Spelling.{fits, spelled_piece}
use Rattle.press_batch.proofs.Pushing.{starts, at, one_put, is_full, is_refused, over, all_written, none_refused, all_back}
use Rattle.press_batch.proofs.encode.push_all.Goals as goal

pub loop-message-init : goal.loop-message-init
loop-message-init c = starts c.args.writer.now.bytes c.args.messages.now

pub returns-in_err-push-clause-fault : goal.returns-in_err-push-clause-fault
returns-in_err-push-clause-fault c =
    let p = err_from_is_err_and c.from_residual.result c.from_residual.ensures.1 in
    let here = at c.loop-message.writer.bytes c.args.writer.now.bytes c.args.messages.now c.loop-message.message-index c.message-item.result c.loop-message-test.true c.message-item.is c.loop-message.invariant in
    rw (p.1, p.2) (is_refused c.loop-message.writer.bytes c.args.writer.now.bytes c.args.messages.now c.loop-message.message-index c.message-item.result _ here c.in_err-push.ensures.fault)

pub returns-then-not-branch-clause-fault : goal.returns-then-not-branch-clause-fault
returns-then-not-branch-clause-fault c =
    let here = at c.loop-message.writer.bytes c.args.writer.now.bytes c.args.messages.now c.loop-message.message-index c.message-item.result c.loop-message-test.true c.message-item.is c.loop-message.invariant in
    let full : fits (length c.loop-message.writer.bytes) c.message-item.result ≡ false = sym c.in_ok-push.ensures.fits ∙ c.if-not-branch.true in
    is_full c.loop-message.writer.bytes c.args.writer.now.bytes c.args.messages.now c.loop-message.message-index c.message-item.result here c.in_ok-push.ensures.short full

pub loop-message-preserved : goal.loop-message-preserved
loop-message-preserved c =
    let here = at c.loop-message.writer.bytes c.args.writer.now.bytes c.args.messages.now c.loop-message.message-index c.message-item.result c.loop-message-test.true c.message-item.is c.loop-message.invariant in
    let fitting : fits (length c.loop-message.writer.bytes) c.message-item.result ≡ true = sym c.in_ok-push.ensures.fits ∙ c.if-not-branch.false in
    let put : c.push.new.self.bytes ≡ c.loop-message.writer.bytes ++ spelled_piece (spelled_message c.message-item.result) = rw c.if-not-branch.false at (ap (λ w. w.bytes) c.in_ok-push.ensures.put) in
    one_put c.loop-message.writer.bytes c.push.new.self.bytes c.args.writer.now.bytes c.args.messages.now c.loop-message.message-index c.message-item.result here c.in_ok-push.ensures.short fitting put c.in_ok-push.ensures.reads

pub returns-clause-written : goal.returns-clause-written
returns-clause-written c = all_written c.loop-message.writer.bytes c.args.writer.now.bytes c.args.messages.now (over _ _ _ c.loop-message.message-index c.loop-message-test.false c.loop-message.invariant)

pub returns-clause-reads : goal.returns-clause-reads
returns-clause-reads c = all_back c.loop-message.writer.bytes c.args.writer.now.bytes c.args.messages.now (over _ _ _ c.loop-message.message-index c.loop-message-test.false c.loop-message.invariant)

pub returns-clause-fault : goal.returns-clause-fault
returns-clause-fault c = none_refused c.loop-message.writer.bytes c.args.writer.now.bytes c.args.messages.now (over _ _ _ c.loop-message.message-index c.loop-message-test.false c.loop-message.invariant)
