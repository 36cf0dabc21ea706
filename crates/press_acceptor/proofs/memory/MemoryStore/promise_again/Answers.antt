use Rattle.std.proofs.Common.{rules, ℕ, ◌≡◌, List, Some, None, subst, ap, sym, ◌∙◌}
use Rattle.std.proofs.lemmas.Bool.{eqb-true}
use Rattle.press_wire.specs.Blocks.{block_of}
use Rattle.press_acceptor.specs.InMemory.{AreBlocks, at}
use Rattle.press_acceptor.specs.StoreMap.{StoreMap, block_at, with_promise}
use Rattle.press_acceptor.specs.declared.block.Block.{Block}
use Rattle.press_acceptor.proofs.Maps.{IsSlot}
use Rattle.press_acceptor.proofs.Held.{promised_anew, promise_put, promise_blocks, read_none}
use Rattle.press_acceptor.proofs.memory.MemoryStore.promise_again.Goals as goal

pub invariant_of-self : goal.invariant_of-self
invariant_of-self c =
    let e : c.get_mut.follows.lender-at-none.entries ≡ c.self.inside.blocks.entries = search rules in
    subst AreBlocks (sym e) c.self.invariant

pub returns-in_default-clause-none : goal.returns-in_default-clause-none
returns-in_default-clause-none c = λ _.
    let es : List (ℕ × Block) = c.self.inside.blocks.entries in
    let i : IsSlot c.args.first = subst IsSlot c.number.ensures.value c.number.ensures.range in
    let e : block_of c.args.first ≡ c.args.first = eqb-true _ _ c.requires in
    let is : at es c.args.first ≡ None = sym (c.in_default.ensures.value ∙ ap (at es) c.number.ensures.value) in
    sym (ap (λ (s : StoreMap). block_at s c.args.first) c.self.view_is) ∙ read_none es c.self.inside.last_round c.args.first i e is

pub invariant_of-self-2 : goal.invariant_of-self-2
invariant_of-self-2 c =
    let es : List (ℕ × Block) = c.self.inside.blocks.entries in
    let w = c.promise.new.self in
    let i : IsSlot c.args.first = subst IsSlot c.number.ensures.value c.number.ensures.range in
    let e : block_of c.args.first ≡ c.args.first = eqb-true _ _ c.requires in
    let is : at es c.args.first ≡ Some c.in-Some.kept.now = sym (c.in-Some.ensures.value ∙ ap (at es) c.number.ensures.value) in
    promise_blocks es (c.get_mut.follows.lender w).entries c.number.result c.args.first w c.number.ensures.value ((c.get_mut.follows.holds w).3 (search rules)).0 c.self.inside.last_round i c.args.ballot.now
    (c.promise.ensures ∙ promised_anew es c.self.inside.last_round c.args.first i e c.args.ballot.now c.in-Some.kept.now c.self.invariant is) c.self.invariant

pub returns-clause-same : goal.returns-clause-same
returns-clause-same c = λ _.
    let es : List (ℕ × Block) = c.self.inside.blocks.entries in
    let w = c.promise.new.self in
    let i : IsSlot c.args.first = subst IsSlot c.number.ensures.value c.number.ensures.range in
    let e : block_of c.args.first ≡ c.args.first = eqb-true _ _ c.requires in
    let is : at es c.args.first ≡ Some c.in-Some.kept.now = sym (c.in-Some.ensures.value ∙ ap (at es) c.number.ensures.value) in
    promise_put es (c.get_mut.follows.lender w).entries c.number.result c.args.first w c.number.ensures.value ((c.get_mut.follows.holds w).3 (search rules)).0 c.self.inside.last_round i c.args.ballot.now
    (c.promise.ensures ∙ promised_anew es c.self.inside.last_round c.args.first i e c.args.ballot.now c.in-Some.kept.now c.self.invariant is)
    ∙ ap (λ (s : StoreMap). with_promise s c.args.first c.args.ballot.now) c.self.view_is
