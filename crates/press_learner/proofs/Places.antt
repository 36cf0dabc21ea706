-- Slots with members as the keys of a map.
use Rattle.std.proofs.Common.{ℕ, ◌≡◌, ◌≢◌, Bool, false, true, cond, None, refl, sym, ap}
use Rattle.std.proofs.lemmas.Bool.{false_from_ne_true}
use Rattle.std.proofs.lemmas.Cmp.{then_total, on_total}
use Rattle.std.proofs.lemmas.Map.Lookups.{exact_pairs, exact_unsigned}
use Rattle.std.specs.Cmp.{IsTotalOrder, nat_cmp_total}
use Rattle.std.specs.FinMap.{FinMap, get, retain_keys, get-retain_keys, same_map}
use Rattle.std.specs.Ordering.{nat_cmp, eq_by_cmp, is_eq}
use Rattle.std.specs.declared.cmp.Ordering.{Ordering}
use Rattle.std.specs.declared.cmp.Ordering.TheVariants.{Less, Equal, Greater}
use Rattle.press_learner.specs.Kept.{place_cmp}

pub places_total : IsTotalOrder place_cmp
places_total = then_total (on_total (λ (x : ℕ × ℕ). x.0) nat_cmp_total) (on_total (λ (x : ℕ × ℕ). x.1) nat_cmp_total)

places_exact : (p q : ℕ × ℕ) → place_cmp p q ≡ Equal → p ≡ q
places_exact p q e = exact_pairs nat_cmp nat_cmp exact_unsigned exact_unsigned p q e

equal_from : (r : Ordering) → is_eq r ≡ true → r ≡ Equal
equal_from Less e = cc
equal_from Equal e = refl
equal_from Greater e = cc

pub same_place : (p q : ℕ × ℕ) → eq_by_cmp place_cmp p q ≡ true → p ≡ q
same_place p q e = places_exact p q (equal_from (place_cmp p q) e)

pub other_place : (p q : ℕ × ℕ) → p ≢ q → eq_by_cmp place_cmp p q ≡ false
other_place p q other = false_from_ne_true (eq_by_cmp place_cmp p q) (λ e. other (same_place p q e))

alike : (p : ℕ × ℕ → Bool) (q x : ℕ × ℕ) → place_cmp q x ≡ Equal → p x ≡ p q
alike p q x e = ap p (sym (places_exact q x e))

module _ {X : Type 0} where
  pub get_retained : (m : FinMap place_cmp X) (p : ℕ × ℕ → Bool) (q : ℕ × ℕ) → get (retain_keys m p) q ≡ cond (p q) (get m q) None
  get_retained m p q = get-retain_keys m p q (alike p q)

  pub same_votes : (m n : FinMap place_cmp X) → ((slot member : ℕ) → get m (slot, member) ≡ get n (slot, member)) → m ≡ n
  same_votes m n h = same_map places_total places_exact m n (λ q. h q.0 q.1)
