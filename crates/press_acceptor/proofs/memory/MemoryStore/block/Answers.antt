use Rattle.std.proofs.Common.{◌≡◌, subst, ap, sym, ◌∙◌}
use Rattle.std.specs.Prelude.{IsSome}
use Rattle.std.proofs.lemmas.Bool.{eqb-true}
use Rattle.press_wire.specs.Blocks.{block_of}
use Rattle.press_acceptor.specs.InMemory.{at}
use Rattle.press_acceptor.specs.StoreMap.{StoreMap, block_at}
use Rattle.press_acceptor.specs.declared.block.Block.{Block}
use Rattle.press_acceptor.proofs.Maps.{IsSlot}
use Rattle.press_acceptor.proofs.Held.{read_block, read_none}
use Rattle.press_acceptor.proofs.memory.MemoryStore.block.Goals as goal

pub returns-in-Some-clause-is : goal.returns-in-Some-clause-is
returns-in-Some-clause-is c =
    let i : IsSlot c.args.first = subst IsSlot c.number.ensures.value c.number.ensures.range in
    let e : block_of c.args.first ≡ c.args.first = eqb-true _ _ c.requires in
    let is = sym (c.in-Some.ensures.value ∙ ap (at c.self.inside.blocks.entries) c.number.ensures.value) in
    c.as_block.ensures ∙ read_block c.self.inside.blocks.entries c.self.inside.last_round c.args.first i e _ c.self.invariant is
    ∙ ap (λ (s : StoreMap). block_at s c.args.first) c.self.view_is

pub returns-in-Some-clause-saved : goal.returns-in-Some-clause-saved
returns-in-Some-clause-saved c =
    let is = sym (c.in-Some.ensures.value ∙ ap (at c.self.inside.blocks.entries) c.number.ensures.value) in
    subst (λ (b : Block). IsSome b.promised) (sym c.as_block.ensures) (c.self.invariant c.args.first _ is).0

pub returns-in-None-clause-none : goal.returns-in-None-clause-none
returns-in-None-clause-none c =
    let i : IsSlot c.args.first = subst IsSlot c.number.ensures.value c.number.ensures.range in
    let e : block_of c.args.first ≡ c.args.first = eqb-true _ _ c.requires in
    let is = sym (c.in-None.ensures.value ∙ ap (at c.self.inside.blocks.entries) c.number.ensures.value) in
    sym (ap (λ (s : StoreMap). block_at s c.args.first) c.self.view_is) ∙ read_none c.self.inside.blocks.entries c.self.inside.last_round c.args.first i e is
