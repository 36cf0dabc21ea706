-- Which digests are kept, and what a comparison with one says.
use Rattle.std.proofs.Common.{ℕ, ◌+◌, ◌-◌, ◌*◌, ◌/◌, ◌%◌, ◌<◌, ◌≤◌, ◌≡◌, ◌≢◌, Bool, true, false, cond, List, slice_get, Option, None, Some, sym, subst, ap, ◌∙◌, arith}
use Rattle.std.proofs.lemmas.Bool.Decides.{nat_tests}
use Rattle.press_apply.specs.declared.value.Value.{Value}
use Rattle.press_chain.specs.Chains.{IsKept, block_at, digest_at, is_kept, no_digest}
use Rattle.press_chain.specs.Comparing.{Compares, ComparesWhere}
use Rattle.press_chain.specs.declared.comparison.Comparison.{Comparison}
use Rattle.press_chain.specs.declared.comparison.Comparison.TheVariants.{Unknown}
use Rattle.press_chain.specs.declared.tip.Tip.{Tip}
use Rattle.press_chain.proofs.Fronts.{digest_none}

-- ---- which are kept

not_behind : (count slot : ℕ) → count < slot → is_kept count slot ≡ false
unfolding is_kept
not_behind count slot h = grind (arith, nat_tests)

kept_near : (count slot : ℕ) → slot ≤ count → count - slot < 64 → is_kept count slot ≡ true
unfolding is_kept
kept_near count slot h k = grind (arith, nat_tests)

kept_multiple : (count slot : ℕ) → slot ≤ count → slot % 64 ≡ 0 → is_kept count slot ≡ true
unfolding is_kept
kept_multiple count slot h k = grind (arith, nat_tests)

not_between : (count slot : ℕ) → slot ≤ count → 64 ≤ count - slot → slot % 64 ≢ 0 → is_kept count slot ≡ false
unfolding is_kept
not_between count slot h k m = grind (arith, nat_tests)

abbrev if_kept : List Value → ℕ → Bool → Option (List ℕ)
if_kept values slot b = cond b (Some (digest_at values slot)) None

module _ (values : List Value) (count : ℕ) (digest block : List ℕ) (recent blocks : List (List ℕ)) (kept : IsKept values count digest block recent blocks) (slot : ℕ) where
  pub none_behind : count < slot → None ≡ if_kept values slot (is_kept count slot)
  none_behind h = ap (if_kept values slot) (sym (not_behind count slot h))

  pub at_none : slot ≡ 0 → Some no_digest ≡ if_kept values slot (is_kept count slot)
  at_none is =
      let kept_so : is_kept count slot ≡ true = kept_multiple count slot (omega (arith, is)) (omega (arith, is)) in
      ap Some (sym (digest_none values)) ∙ ap (λ n. Some (digest_at values n)) (sym is) ∙ ap (if_kept values slot) (sym kept_so)

  pub at_near : slot ≤ count → 1 ≤ slot → count - slot < 64 → slice_get recent ((slot - 1) % 64) ≡ if_kept values slot (is_kept count slot)
  at_near few some near =
      let back : slot - 1 + 1 ≡ slot = omega (arith, some) in
      kept.last (slot - 1) (omega (arith, few, some)) (omega (arith, few, some, near)) ∙ ap (λ n. Some (digest_at values n)) back ∙ ap (if_kept values slot) (sym (kept_near count slot few near))

  pub at_multiple : slot ≤ count → 1 ≤ slot → slot % 64 ≡ 0 → slice_get blocks (slot / 64 - 1) ≡ if_kept values slot (is_kept count slot)
  at_multiple few some whole =
      let back : (slot / 64 - 1) * 64 + 64 ≡ slot = omega (arith, some, whole) in
      kept.multiples (slot / 64 - 1) (omega (arith, few, some, whole)) ∙ ap (λ n. Some (digest_at values n)) back ∙ ap (if_kept values slot) (sym (kept_multiple count slot few whole))

  pub none_between : slot ≤ count → 64 ≤ count - slot → slot % 64 ≢ 0 → None ≡ if_kept values slot (is_kept count slot)
  none_between few far part = ap (if_kept values slot) (sym (not_between count slot few far part))

-- ---- what a comparison says

same_digest : (a b : List ℕ) → Some a ≡ Some b → a ≡ b
same_digest a b e = cc

pub at_tip : (b has_block : Bool) (values : List Value) (tip : Tip) (own : List ℕ) (result : Comparison) → Some own ≡ if_kept values tip.count b → Compares own tip.digest result → ComparesWhere b has_block values tip result
at_tip true has_block values tip own result is h = subst (λ d. Compares d tip.digest result) (same_digest own (digest_at values tip.count) is) h
at_tip false has_block values tip own result is h = absurd (let e = is in cc)

pub at_block : (b : Bool) (values : List Value) (tip : Tip) (own : List ℕ) (result : Comparison) → Some own ≡ if_kept values (block_at tip.count) b → Compares own tip.block_digest result → ComparesWhere false b values tip result
at_block true values tip own result is h = subst (λ d. Compares d tip.block_digest result) (same_digest own (digest_at values (block_at tip.count)) is) h
at_block false values tip own result is h = absurd (let e = is in cc)

pub at_neither : (b : Bool) (values : List Value) (tip : Tip) (result : Comparison) → None ≡ if_kept values (block_at tip.count) b → result ≡ Unknown → ComparesWhere false b values tip result
at_neither true values tip result is h = absurd (let e = is in cc)
at_neither false values tip result is h = h

pub behind_tip : (b has_block : Bool) (values : List Value) (tip : Tip) (result : Comparison) → None ≡ if_kept values tip.count b → ComparesWhere false has_block values tip result → ComparesWhere b has_block values tip result
behind_tip true has_block values tip result is h = absurd (let e = is in cc)
behind_tip false has_block values tip result is h = h
