-- What is true of the members of every cluster leaves its truncation.
use Rattle.std.proofs.Common.{ℕ, ◌+◌, ◌-◌, ◌≡◌, ◌≤◌, List, length, map, slice_get, Some, sym, ap, ◌∙◌, arith}
use Rattle.std.proofs.lemmas.List.{length-map}
use Rattle.std.proofs.Math.Logic.{∥∥₁_elim}
use Rattle.std.specs.Coded.{coded_ℕ}
use base.Stored.{Coded-set}
use Rattle.press_callbacks.specs.Kits.{KitView}
use Rattle.press_world.specs.Seats.{Static}
use Rattle.press_world.specs.Sound.{AreMembers}

module _ (xs : List Static) (m : ∥ ((kit : KitView) × AreMembers kit xs) ∥₁) where
  pub few : length xs ≤ 7
  few = let e : length xs - 7 ≡ 0 = ∥∥₁_elim m (Coded-set coded_ℕ _ _) (λ a. omega (arith, a.1.0)) in omega (arith, e)

  pub member_of : (i : ℕ) (x : Static) → slice_get xs i ≡ Some x → x.id ≡ i + 1
  member_of i x at = ∥∥₁_elim m (Coded-set coded_ℕ _ _) (λ a. (a.1.1 i x at).id)

  pub members_of : (i : ℕ) (x : Static) → slice_get xs i ≡ Some x → x.members ≡ length xs
  members_of i x at = ∥∥₁_elim m (Coded-set coded_ℕ _ _) (λ a. (a.1.1 i x at).members)

-- what doesn't change of the members tells that they are as many
pub same_size : {X Y : Type 0} (f : X → Y) (g : X → Static) (old new : List X) → map g new ≡ map g old → length (map f new) ≡ length (map f old)
same_size f g old new e = length-map new f ∙ sym (length-map new g) ∙ ap length e ∙ length-map old g ∙ sym (length-map old f)

pub same_count : {X : Type 0} (g : X → Static) (old new : List X) → map g new ≡ map g old → length new ≡ length old
same_count g old new e = sym (length-map new g) ∙ ap length e ∙ length-map old g
