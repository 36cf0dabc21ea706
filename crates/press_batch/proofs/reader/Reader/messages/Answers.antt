use Rattle.std.proofs.Common.{◌≡◌, false, true, nat_eq, length}
use Rattle.std.proofs.lemmas.Result.{err_from_is_err_and}
use Rattle.press_batch.proofs.Lengths.{message_leaves}
use Rattle.press_batch.proofs.Found.{begins, one_read, refused, ends, some_at_start}
use Rattle.press_batch.proofs.reader.Reader.messages.Goals as goal

pub loop-alloc-init : goal.loop-alloc-init
loop-alloc-init c = begins c.args.self.now c.new-messages.result.items c.new-messages.ensures.items

pub returns-in_err-message-clause-read : goal.returns-in_err-message-clause-read
returns-in_err-message-clause-read c =
    let left : nat_eq (length c.loop-alloc.self) 0 ≡ false = cc in
    let p = err_from_is_err_and c.from_residual.result c.from_residual.ensures.1 in
    rw (p.1, p.2) (refused c.loop-alloc.self c.args.self.now c.loop-alloc.messages.items _ c.loop-alloc.invariant left c.in_err-message.ensures)

pub returns-in_err-message-clause-memory : goal.returns-in_err-message-clause-memory
returns-in_err-message-clause-memory c = λ e.
    let left : nat_eq (length c.loop-alloc.self) 0 ≡ false = cc in
    some_at_start c.loop-alloc.self c.args.self.now c.loop-alloc.messages.items c.loop-alloc.invariant left

pub loop-alloc-smaller : goal.loop-alloc-smaller
loop-alloc-smaller c = message_leaves c.loop-alloc.self c.in_ok-message.message c.message.new.self c.in_ok-message.ensures

pub loop-alloc-preserved : goal.loop-alloc-preserved
loop-alloc-preserved c =
    let left : nat_eq (length c.loop-alloc.self) 0 ≡ false = cc in
    one_read c.loop-alloc.self c.message.new.self c.args.self.now c.loop-alloc.messages.items c.push.new.self.items c.in_ok-message.message c.loop-alloc.invariant left c.in_ok-message.ensures c.in_ok-push.ensures.items

pub returns-in_err-push-clause-memory : goal.returns-in_err-push-clause-memory
returns-in_err-push-clause-memory c = λ e.
    let left : nat_eq (length c.loop-alloc.self) 0 ≡ false = cc in
    some_at_start c.loop-alloc.self c.args.self.now c.loop-alloc.messages.items c.loop-alloc.invariant left

pub returns-clause-read : goal.returns-clause-read
returns-clause-read c =
    let over : nat_eq (length c.loop-alloc.self) 0 ≡ true = cc in
    ends c.loop-alloc.self c.args.self.now c.loop-alloc.messages.items c.loop-alloc.invariant over
