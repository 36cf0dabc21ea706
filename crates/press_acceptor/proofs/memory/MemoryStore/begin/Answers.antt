use Rattle.std.proofs.Common.{ℕ, ◌≡◌, List, Some, subst, ap, sym, ◌∙◌}
use Rattle.std.proofs.lemmas.Bool.{eqb-true}
use Rattle.press_wire.specs.Votes.{put}
use Rattle.press_wire.proofs.Blocks.{in_block}
use Rattle.press_acceptor.specs.InMemory.{AreBlocks, store_of}
use Rattle.press_acceptor.specs.StoreMap.{StoreMap, block_at, new_block, with_vote}
use Rattle.press_acceptor.specs.declared.block.Block.{Block}
use Rattle.press_acceptor.proofs.Maps.{IsSlot}
use Rattle.press_acceptor.proofs.Held.{slots, vote_blocks, vote_put_in}
use Rattle.press_acceptor.proofs.memory.MemoryStore.begin.Goals as goal

pub invariant_of-self : goal.invariant_of-self
invariant_of-self c = subst AreBlocks (sym c.in_err-insert.ensures.err) c.self.invariant

pub invariant_of-self-2 : goal.invariant_of-self-2
invariant_of-self-2 c =
    let es : List (ℕ × Block) = c.self.inside.blocks.entries in
    let first = c.first-first.result in
    let i : IsSlot first = subst IsSlot c.number.ensures.value c.number.ensures.range in
    let none : block_at (store_of es c.self.inside.last_round) first ≡ new_block =
    ap (λ (s : StoreMap). block_at s first) c.self.view_is ∙ ap (block_at c.args.self.now) c.first-first.ensures.block ∙ c.requires in
    let is = c.in_ok-put.ensures.put ∙ ap (λ (b : Block). record { promised = Some c.args.vote.ballot; votes = put c.args.slot c.args.vote b.votes }) (c.new.ensures ∙ sym none) in
    vote_blocks es c.insert.new.self.entries c.number.result first c.put.new.self c.number.ensures.value c.in_ok-insert.ensures.updates.0 c.self.inside.last_round i c.args.slot c.args.vote c.first-first.ensures.block is c.self.invariant

pub returns-clause-put : goal.returns-clause-put
returns-clause-put c =
    let es : List (ℕ × Block) = c.self.inside.blocks.entries in
    let first = c.first-first.result in
    let i : IsSlot first = subst IsSlot c.number.ensures.value c.number.ensures.range in
    let b = in_block c.args.slot first (sym c.first-first.ensures.block) in
    let none : block_at (store_of es c.self.inside.last_round) first ≡ new_block =
    ap (λ (s : StoreMap). block_at s first) c.self.view_is ∙ ap (block_at c.args.self.now) c.first-first.ensures.block ∙ c.requires in
    let is = c.in_ok-put.ensures.put ∙ ap (λ (b : Block). record { promised = Some c.args.vote.ballot; votes = put c.args.slot c.args.vote b.votes }) (c.new.ensures ∙ sym none) in
    vote_put_in es c.insert.new.self.entries c.number.result first c.put.new.self c.number.ensures.value c.in_ok-insert.ensures.updates.0 c.self.inside.last_round i c.args.slot c.args.vote
    (slots first c.args.slot i (eqb-true _ _ c.first-first.ensures.first) b.0 b.1) c.first-first.ensures.block is
    ∙ ap (λ (s : StoreMap). with_vote s c.args.slot c.args.vote) c.self.view_is
