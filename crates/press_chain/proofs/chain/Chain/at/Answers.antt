use Rattle.std.proofs.Common.{arith}
use Rattle.press_chain.specs.Chains.{no_digest}
use Rattle.press_chain.proofs.Telling.{at_multiple, at_near, at_none, none_behind, none_between}
use Rattle.press_chain.proofs.chain.Chain.at.Goals as goal

pub returns-then-self-slot : goal.returns-then-self-slot
returns-then-self-slot c = λ values kept. none_behind values c.args.self.now.count c.args.self.now.digest c.args.self.now.block_digest c.args.self.now.recent.items c.args.self.now.blocks.items kept c.args.slot c.if-self-slot.true

pub returns-then-slot-eq0 : goal.returns-then-slot-eq0
unfolding no_digest
returns-then-slot-eq0 c = λ values kept. at_none values c.args.self.now.count c.args.self.now.digest c.args.self.now.block_digest c.args.self.now.recent.items c.args.self.now.blocks.items kept c.args.slot c.if-slot-eq0.true

pub returns-then-self-slot-lt-BLOCK : goal.returns-then-self-slot-lt-BLOCK
returns-then-self-slot-lt-BLOCK c = λ values kept. rw (c.digest_in.ensures, c.deref.ensures.value) (at_near values c.args.self.now.count c.args.self.now.digest c.args.self.now.block_digest c.args.self.now.recent.items c.args.self.now.blocks.items kept c.args.slot (omega (arith, c.if-self-slot.false)) (omega (arith, c.if-slot-eq0.false)) (omega (arith, c.if-self-slot-lt-BLOCK.true)))

pub returns-then-slot-eq0-2 : goal.returns-then-slot-eq0-2
returns-then-slot-eq0-2 c = λ values kept. rw (c.digest_in-then-slot-eq0-2.ensures, c.deref-then-slot-eq0-2.ensures.value) (at_multiple values c.args.self.now.count c.args.self.now.digest c.args.self.now.block_digest c.args.self.now.recent.items c.args.self.now.blocks.items kept c.args.slot (omega (arith, c.if-self-slot.false)) (omega (arith, c.if-slot-eq0.false)) (omega (arith, c.if-slot-eq0-2.true)))

pub returns : goal.returns
returns c = λ values kept. none_between values c.args.self.now.count c.args.self.now.digest c.args.self.now.block_digest c.args.self.now.recent.items c.args.self.now.blocks.items kept c.args.slot (omega (arith, c.if-self-slot.false)) (omega (arith, c.if-self-slot-lt-BLOCK.false)) (λ e. omega (arith, e, c.if-slot-eq0-2.false))
