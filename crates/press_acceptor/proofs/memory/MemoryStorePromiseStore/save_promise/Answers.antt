use Rattle.std.proofs.Common.{ℕ, ◌≡◌, List, refl, subst, ap, sym, ◌∙◌}
use Rattle.press_acceptor.specs.InMemory.{AreBlocks, store_of}
use Rattle.press_acceptor.specs.StoreMap.{StoreMap, block_at, new_block, with_promise}
use Rattle.press_acceptor.specs.declared.block.Block.{Block}
use Rattle.press_acceptor.proofs.Maps.{IsSlot}
use Rattle.press_acceptor.proofs.Held.{promise_put, promise_blocks, promising}
use Rattle.press_acceptor.proofs.memory.MemoryStorePromiseStore.save_promise.Goals as goal

pub invariant_of-self : goal.invariant_of-self
invariant_of-self c = subst AreBlocks (sym c.in_err-insert.ensures.err) c.self.invariant

pub invariant_of-self-2 : goal.invariant_of-self-2
invariant_of-self-2 c =
    let es : List (ℕ × Block) = c.self.inside.blocks.entries in
    let i : IsSlot c.args.first = subst IsSlot c.number.ensures.value c.number.ensures.range in
    let left = c.self.view_is ∙ c.promise_again.ensures.left c.if-promise_again.false in
    let none : block_at (store_of es c.self.inside.last_round) c.args.first ≡ new_block =
    ap (λ (s : StoreMap). block_at s c.args.first) left ∙ c.promise_again.ensures.none c.if-promise_again.false in
    let is = c.promise.ensures ∙ ap (λ (b : Block). promising c.args.ballot b.votes) (c.new.ensures ∙ sym none) in
    promise_blocks es c.insert.new.self.entries c.number.result c.args.first c.promise.new.self c.number.ensures.value c.in_ok-insert.ensures.updates.0 c.self.inside.last_round i c.args.ballot is c.self.invariant

pub returns-clause-saves : goal.returns-clause-saves
returns-clause-saves c = λ _.
    let es : List (ℕ × Block) = c.self.inside.blocks.entries in
    let i : IsSlot c.args.first = subst IsSlot c.number.ensures.value c.number.ensures.range in
    let left = c.self.view_is ∙ c.promise_again.ensures.left c.if-promise_again.false in
    let none : block_at (store_of es c.self.inside.last_round) c.args.first ≡ new_block =
    ap (λ (s : StoreMap). block_at s c.args.first) left ∙ c.promise_again.ensures.none c.if-promise_again.false in
    let is = c.promise.ensures ∙ ap (λ (b : Block). promising c.args.ballot b.votes) (c.new.ensures ∙ sym none) in
    let kept = promise_put es c.insert.new.self.entries c.number.result c.args.first c.promise.new.self c.number.ensures.value c.in_ok-insert.ensures.updates.0 c.self.inside.last_round i c.args.ballot is
    ∙ ap (λ (s : StoreMap). with_promise s c.args.first c.args.ballot) left in
    record { was_open = refl; is_open = refl; kept = kept; durable = λ left m. m }
