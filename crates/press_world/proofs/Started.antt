-- The nodes of a new world.
use Rattle.std.proofs.Common.{ℕ, zero, suc, ◌+◌, ◌≤◌, ◌≡◌, List, [], ◌∷◌, ◌++◌, length, map, slice_get, Some, refl, sym, ap, subst, ◌∙◌, arith}
use Rattle.press_callbacks.specs.Kits.{KitView}
use Rattle.press_world.specs.Agreeing.{Agrees}
use Rattle.press_world.specs.Seats.{Static}
use Rattle.press_world.specs.Sound.{AreMembers, IsSound}
use Rattle.press_world.specs.Starts.{AreKit, statics_from}
use Rattle.press_world.specs.Stored.{new_stored}
use Rattle.press_world.specs.Worlds.{new_places, new_world}
use Rattle.press_acceptor.specs.StoreMap.{new_store}
use Rattle.press_world.specs.Worlds.{restarted_place}
use Rattle.press_world.specs.Whole.{HaveKit}
use Rattle.press_world.proofs.Lists.{all_at}
use Rattle.press_world.proofs.Votes.{Learns}
use Rattle.press_world.proofs.Worlds.{new_agrees}

pub map_push : {X Y : Type 0} (f : X → Y) (xs : List X) (x : X) → map f (xs ++ x ∷ []) ≡ map f xs ++ f x ∷ []
map_push f [] x = refl
map_push f (y ∷ xs) x = ap (λ ys. f y ∷ ys) (map_push f xs x)

pub places_push : (n id k : ℕ) → new_places n id k ++ restarted_place n (id + k) new_store ∷ [] ≡ new_places n id (suc k)
places_push n id zero = let e : id + 0 ≡ id = omega arith in ap (λ (i : ℕ). restarted_place n i new_store ∷ []) e
places_push n id (suc k) =
    let e : id + suc k ≡ id + 1 + k = omega arith in
    ap (λ ys. restarted_place n id new_store ∷ ys) (ap (λ (i : ℕ). new_places n (id + 1) k ++ restarted_place n i new_store ∷ []) e ∙ places_push n (id + 1) k)

pub statics_push : (id n : ℕ) (kits : List KitView) (kit : KitView) → statics_from id n kits ++ record { id = id + length kits; members = n; kit = kit } ∷ [] ≡ statics_from id n (kits ++ kit ∷ [])
statics_push id n [] kit = let e : id + 0 ≡ id = omega arith in ap (λ (i : ℕ). record { id = i; members = n; kit = kit } ∷ []) e
statics_push id n (k ∷ kits) kit =
    let e : id + suc (length kits) ≡ id + 1 + length kits = omega arith in
    ap (λ ys. record { id = id; members = n; kit = k } ∷ ys) (ap (λ (i : ℕ). statics_from (id + 1) n kits ++ record { id = i; members = n; kit = kit } ∷ []) e ∙ statics_push (id + 1) n kits kit)

pub length_statics : (id n : ℕ) (kits : List KitView) → length (statics_from id n kits) ≡ length kits
length_statics id n [] = refl
length_statics id n (k ∷ kits) = ap suc (length_statics (id + 1) n kits)

static_at : (id n : ℕ) (kits : List KitView) (i : ℕ) (x : Static) → slice_get (statics_from id n kits) i ≡ Some x → (x.id ≡ id + i) × (x.members ≡ n) × (slice_get kits i ≡ Some x.kit)
static_at id n [] i x e = cc
static_at id n (k ∷ kits) zero x e =
    let h : record { id = id; members = n; kit = k } ≡ x = cc in
    (sym (ap (λ (y : Static). y.id) h) ∙ omega arith, sym (ap (λ (y : Static). y.members) h), ap (λ (y : Static). Some y.kit) h)
static_at id n (k ∷ kits) (suc i) x e =
    let h = static_at (id + 1) n kits i x e in
    (h.0 ∙ omega arith, h.1, h.2)

pub members_new : (kit : KitView) (kits : List KitView) → length kits ≤ 7 → AreKit kit kits → AreMembers kit (statics_from 1 (length kits) kits)
members_new kit kits small same = (
  omega (arith, length_statics 1 (length kits) kits),
  λ i x e.
      let h = static_at 1 (length kits) kits i x e in
      record {
        id = h.0 ∙ omega arith;
        members = h.1 ∙ sym (length_statics 1 (length kits) kits);
        alike = all_at (λ k. k ≡ kit) kits i x.kit same h.2;
      },
)

pub sound_new : Learns → (n : ℕ) → IsSound (new_stored n)
sound_new law n =
    let a = new_agrees law n in
    record { agrees = subst (λ k. Agrees k (new_world n)) (sym a.size) a; within = tt }

pub statics_have : (kit : KitView) (id n : ℕ) (kits : List KitView) → AreKit kit kits → HaveKit kit (statics_from id n kits)
statics_have kit id n [] h = tt
statics_have kit id n (k ∷ kits) h = (h.0, statics_have kit (id + 1) n kits h.1)
