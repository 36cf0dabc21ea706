use Rattle.std.proofs.Common.{rules, ℕ, ◌≡◌, Bool, true, false, MatchBool, List, Some, None, refl, subst, ap, sym, ◌∙◌}
use Rattle.std.proofs.lemmas.Bool.{eqb-true}
use Rattle.press_wire.specs.Blocks.{block_of}
use Rattle.press_wire.proofs.Blocks.{in_block}
use Rattle.press_acceptor.specs.InMemory.{AreBlocks, IsNewValue, at}
use Rattle.press_acceptor.specs.StoreMap.{StoreMap, with_vote}
use Rattle.press_acceptor.specs.declared.block.Block.{Block}
use Rattle.press_acceptor.proofs.Maps.{IsSlot}
use Rattle.press_acceptor.proofs.Held.{cast_anew, other_value, same_blocks, slots, vote_blocks, vote_put_in}
use Rattle.press_acceptor.proofs.memory.MemoryStore.cast_again.Goals as goal

-- by whether the value is the same
yes : (A B : Type 0) (b : Bool) → MatchBool b A B → b ≡ true → A
yes A B true m e = m
yes A B false m e = cc

not_so : (A B : Type 0) (b : Bool) → MatchBool b A B → b ≡ false → B
not_so A B true m e = cc
not_so A B false m e = m

by : {P : Type 0} (b : Bool) → (b ≡ true → P) → (b ≡ false → P) → P
by true f g = f refl
by false f g = g refl

pub invariant_of-self : goal.invariant_of-self
invariant_of-self c =
    let e : c.get_mut.follows.lender-at-none.entries ≡ c.self.inside.blocks.entries = search rules in
    subst AreBlocks (sym e) c.self.invariant

pub returns-in_default-clause-other : goal.returns-in_default-clause-other
returns-in_default-clause-other c = λ _.
    let es : List (ℕ × Block) = c.self.inside.blocks.entries in
    let first = c.first-first.result in
    let i : IsSlot first = subst IsSlot c.number.ensures.value c.number.ensures.range in
    let b = in_block c.args.slot first (sym c.first-first.ensures.block) in
    let is : at es first ≡ None = sym (c.in_default.ensures.value ∙ ap (at es) c.number.ensures.value) in
    subst (λ (s : StoreMap). IsNewValue s c.args.slot c.args.vote.now.value) c.self.view_is
    (other_value es c.self.inside.last_round first i (eqb-true _ _ c.first-first.ensures.first) c.args.slot c.args.vote.now.value None b.0 b.1 is (λ e. cc))

pub invariant_of-self-2 : goal.invariant_of-self-2
invariant_of-self-2 c = by c.cast_again.result again left
  where
    es : List (ℕ × Block)
    es = c.self.inside.blocks.entries

    i : IsSlot c.first-first.result
    i = subst IsSlot c.number.ensures.value c.number.ensures.range

    is : at es c.first-first.result ≡ Some c.in-Some.kept.now
    is = sym (c.in-Some.ensures.value ∙ ap (at es) c.number.ensures.value)

    again : c.cast_again.result ≡ true → AreBlocks (c.get_mut.follows.lender c.cast_again.new.self).entries
    again t = vote_blocks es (c.get_mut.follows.lender c.cast_again.new.self).entries c.number.result c.first-first.result c.cast_again.new.self c.number.ensures.value ((c.get_mut.follows.holds c.cast_again.new.self).3 (search rules)).0 c.self.inside.last_round i c.args.slot c.args.vote.now c.first-first.ensures.block
        (c.cast_again.ensures.same t ∙ cast_anew es c.self.inside.last_round c.first-first.result i (eqb-true _ _ c.first-first.ensures.first) c.args.slot c.args.vote.now c.in-Some.kept.now c.self.invariant is (yes _ _ c.cast_again.result c.cast_again.ensures.value t)) c.self.invariant

    left : c.cast_again.result ≡ false → AreBlocks (c.get_mut.follows.lender c.cast_again.new.self).entries
    left f = same_blocks es (c.get_mut.follows.lender c.cast_again.new.self).entries c.number.result c.first-first.result c.cast_again.new.self c.number.ensures.value ((c.get_mut.follows.holds c.cast_again.new.self).3 (search rules)).0
        (is ∙ ap (λ (b : Block). Some b) (sym (c.cast_again.ensures.left f))) c.self.invariant

pub returns-clause-same : goal.returns-clause-same
returns-clause-same c = λ t.
    let es : List (ℕ × Block) = c.self.inside.blocks.entries in
    let first = c.first-first.result in
    let w = c.cast_again.new.self in
    let i : IsSlot first = subst IsSlot c.number.ensures.value c.number.ensures.range in
    let e : block_of first ≡ first = eqb-true _ _ c.first-first.ensures.first in
    let b = in_block c.args.slot first (sym c.first-first.ensures.block) in
    let is : at es first ≡ Some c.in-Some.kept.now = sym (c.in-Some.ensures.value ∙ ap (at es) c.number.ensures.value) in
    vote_put_in es (c.get_mut.follows.lender w).entries c.number.result first w c.number.ensures.value ((c.get_mut.follows.holds w).3 (search rules)).0 c.self.inside.last_round i c.args.slot c.args.vote.now
    (slots first c.args.slot i e b.0 b.1) c.first-first.ensures.block
    (c.cast_again.ensures.same t ∙ cast_anew es c.self.inside.last_round first i e c.args.slot c.args.vote.now c.in-Some.kept.now c.self.invariant is (yes _ _ c.cast_again.result c.cast_again.ensures.value t))
    ∙ ap (λ (s : StoreMap). with_vote s c.args.slot c.args.vote.now) c.self.view_is

pub returns-clause-other : goal.returns-clause-other
returns-clause-other c = λ f.
    let es : List (ℕ × Block) = c.self.inside.blocks.entries in
    let first = c.first-first.result in
    let i : IsSlot first = subst IsSlot c.number.ensures.value c.number.ensures.range in
    let b = in_block c.args.slot first (sym c.first-first.ensures.block) in
    let is : at es first ≡ Some c.in-Some.kept.now = sym (c.in-Some.ensures.value ∙ ap (at es) c.number.ensures.value) in
    subst (λ (s : StoreMap). IsNewValue s c.args.slot c.args.vote.now.value) c.self.view_is
    (other_value es c.self.inside.last_round first i (eqb-true _ _ c.first-first.ensures.first) c.args.slot c.args.vote.now.value (Some c.in-Some.kept.now) b.0 b.1 is (not_so _ _ c.cast_again.result c.cast_again.ensures.value f))
