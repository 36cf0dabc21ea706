use Rattle.std.proofs.Common.{rules, ℕ, ◌≡◌, List, Some, None, Result, Ok, Err, OnOk, OnErr, subst, ap, sym, ◌∙◌}
use Rattle.std.proofs.lemmas.Bool.{eqb-true}
use Rattle.press_wire.specs.Blocks.{block_of}
use Rattle.press_wire.specs.Votes.{put}
use Rattle.press_wire.proofs.Blocks.{in_block}
use Rattle.press_acceptor.specs.InMemory.{AreBlocks, at, store_of}
use Rattle.press_acceptor.specs.StoreMap.{StoreMap, block_at, with_vote}
use Rattle.press_acceptor.specs.declared.block.Block.{Block}
use Rattle.press_acceptor.proofs.Maps.{IsSlot}
use Rattle.press_acceptor.proofs.Held.{put_anew, read_none, same_blocks, slots, vote_blocks, vote_put_in}
use Rattle.press_acceptor.proofs.memory.MemoryStore.put.Goals as goal

by : {T E A B P : Type 0} (r : Result T E) → OnOk r A → OnErr r B → (A → P) → (B → P) → P
by (Ok x) a b f g = f a
by (Err e) a b f g = g b

pub invariant_of-self : goal.invariant_of-self
invariant_of-self c =
    let e : c.get_mut.follows.lender-at-none.entries ≡ c.self.inside.blocks.entries = search rules in
    subst AreBlocks (sym e) c.self.invariant

pub begin-requires : goal.begin-requires
begin-requires c =
    let es : List (ℕ × Block) = c.self.inside.blocks.entries in
    let first = c.first-first.result in
    let i : IsSlot first = subst IsSlot c.number.ensures.value c.number.ensures.range in
    let e : c.get_mut.follows.lender-at-none.entries ≡ es = search rules in
    let is : at es first ≡ None = sym (c.in_default.ensures.value ∙ ap (at es) c.number.ensures.value) in
    ap (λ (es : List (ℕ × Block)). block_at (store_of es c.self.inside.last_round) (block_of c.args.slot)) e
    ∙ ap (block_at (store_of es c.self.inside.last_round)) (sym c.first-first.ensures.block)
    ∙ read_none es c.self.inside.last_round first i (eqb-true _ _ c.first-first.ensures.first) is

pub invariant_of-self-2 : goal.invariant_of-self-2
invariant_of-self-2 c = by c.put.result c.put.ensures.put c.put.ensures.unchanged there left
  where
    es : List (ℕ × Block)
    es = c.self.inside.blocks.entries

    w : Block
    w = c.put.new.self

    i : IsSlot c.first-first.result
    i = subst IsSlot c.number.ensures.value c.number.ensures.range

    is : at es c.first-first.result ≡ Some c.in-Some.kept.now
    is = sym (c.in-Some.ensures.value ∙ ap (at es) c.number.ensures.value)

    there : w ≡ record { promised = Some c.args.vote.ballot; votes = put c.args.slot c.args.vote c.in-Some.kept.now.votes } → AreBlocks (c.get_mut.follows.lender w).entries
    there e = vote_blocks es (c.get_mut.follows.lender w).entries c.number.result c.first-first.result w c.number.ensures.value ((c.get_mut.follows.holds w).3 (search rules)).0 c.self.inside.last_round i c.args.slot c.args.vote c.first-first.ensures.block
        (e ∙ put_anew es c.self.inside.last_round c.first-first.result i (eqb-true _ _ c.first-first.ensures.first) c.args.slot c.args.vote c.in-Some.kept.now c.self.invariant is) c.self.invariant

    left : w ≡ c.in-Some.kept.now → AreBlocks (c.get_mut.follows.lender w).entries
    left e = same_blocks es (c.get_mut.follows.lender w).entries c.number.result c.first-first.result w c.number.ensures.value ((c.get_mut.follows.holds w).3 (search rules)).0 (is ∙ ap (λ (b : Block). Some b) (sym e)) c.self.invariant

pub returns-clause-put : goal.returns-clause-put
returns-clause-put c =
    let es : List (ℕ × Block) = c.self.inside.blocks.entries in
    let first = c.first-first.result in
    let w = c.put.new.self in
    let i : IsSlot first = subst IsSlot c.number.ensures.value c.number.ensures.range in
    let e : block_of first ≡ first = eqb-true _ _ c.first-first.ensures.first in
    let b = in_block c.args.slot first (sym c.first-first.ensures.block) in
    let is : at es first ≡ Some c.in-Some.kept.now = sym (c.in-Some.ensures.value ∙ ap (at es) c.number.ensures.value) in
    vote_put_in es (c.get_mut.follows.lender w).entries c.number.result first w c.number.ensures.value ((c.get_mut.follows.holds w).3 (search rules)).0 c.self.inside.last_round i c.args.slot c.args.vote
    (slots first c.args.slot i e b.0 b.1) c.first-first.ensures.block
    (c.in_ok-put.ensures.put ∙ put_anew es c.self.inside.last_round first i e c.args.slot c.args.vote c.in-Some.kept.now c.self.invariant is)
    ∙ ap (λ (s : StoreMap). with_vote s c.args.slot c.args.vote) c.self.view_is
