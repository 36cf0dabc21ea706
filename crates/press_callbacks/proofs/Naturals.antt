-- What is said of callbacks by their names and scripts is said of these alone.
use Rattle.std.proofs.Common.{◌≡◌, refl, sym, ◌∙◌, ap, ap₂, ℕ, ◌+◌, Bool, cond, not, bytes_eq, List, [], ◌∷◌, ◌++◌, map, take, drop, Option, Some, None}
use Rattle.std.specs.Prelude.{position, unwrap_or, insert, ◌||◌, ◌&&◌}
use Rattle.std.specs.List.{list_any, list_all, prefix_len}
use Rattle.std.proofs.lemmas.List.{map-append, length-map, take-map, drop-map}
use Rattle.press_callbacks.specs.declared.script.Op.{Op}
use Rattle.press_callbacks.specs.declared.plugin.Plugin.{Plugin}
use Rattle.press_callbacks.specs.declared.plugin.Load.{Load}
use Rattle.press_callbacks.specs.Kits.{has_two, is_known, is_known_where, knows_script, knows_plugin, knows_all, has_two_names, kit_fault_by, callback_named, callback_loaded, Refuses}
use Rattle.press_text.specs.NameOrder.{is_before}
use Rattle.press_callbacks.specs.Order.{by_name, put_by_name, place_by_name}
use Rattle.press_callbacks.specs.BuiltIns.{is_built_in}
use Rattle.press_callbacks.specs.declared.kit_fault.KitFault.{KitFault}
use Rattle.press_callbacks.specs.declared.kit_fault.KitFault.TheVariants.{NoMemory, TwoNames, UnknownCallback, BadLoad}

any-map : {A B : Type 0} (f : A → B) (p : B → Bool) (xs : List A) → list_any p (map f xs) ≡ list_any (λ x. p (f x)) xs
any-map f p [] = refl
any-map f p (x ∷ xs) = ap (λ b. p (f x) || b) (any-map f p xs)

all-map : {A B : Type 0} (f : A → B) (p : B → Bool) (xs : List A) → list_all p (map f xs) ≡ list_all (λ x. p (f x)) xs
all-map f p [] = refl
all-map f p (x ∷ xs) = ap (λ b. p (f x) && b) (all-map f p xs)

pub all_alike : {A : Type 0} (p q : A → Bool) → ((x : A) → p x ≡ q x) → (xs : List A) → list_all p xs ≡ list_all q xs
all_alike p q h [] = refl
all_alike p q h (x ∷ xs) = ap₂ (λ (a b : Bool). a && b) (h x) (all_alike p q h xs)

two-map : {A B : Type 0} (f : A → B) (name : B → List ℕ) (xs : List A) → has_two name (map f xs) ≡ has_two (λ x. name (f x)) xs
two-map f name [] = refl
two-map f name (x ∷ xs) = ap₂ (λ (a b : Bool). a || b) (any-map f (λ y. bytes_eq (name y) (name (f x))) xs) (two-map f name xs)

known-map : {A B : Type 0} (f : A → B) (name : B → List ℕ) (xs : List A) (n : List ℕ) → is_known name (map f xs) n ≡ is_known (λ x. name (f x)) xs n
known-map f name xs n = ap (λ b. is_built_in n || b) (any-map f (λ c. bytes_eq (name c) n) xs)

known_where-map : {A B : Type 0} (f : A → B) (name : B → List ℕ) (xs : List A) (o : Option (List ℕ)) → is_known_where name (map f xs) o ≡ is_known_where (λ x. name (f x)) xs o
known_where-map f name xs None = refl
known_where-map f name xs (Some n) = known-map f name xs n

script-map : {A B : Type 0} (f : A → B) (name : B → List ℕ) (xs : List A) (script : List Op) → knows_script name (map f xs) script ≡ knows_script (λ x. name (f x)) xs script
script-map f name xs script = all_alike _ _ (λ o. known_where-map f name xs (callback_named o)) script

plugin-map : {A B : Type 0} (f : A → B) (name : B → List ℕ) (xs : List A) (p : Plugin) → knows_plugin name (map f xs) p ≡ knows_plugin (λ x. name (f x)) xs p
plugin-map f name xs p = all_alike _ _ (λ (l : Load). known-map f name xs (callback_loaded l)) p.load

knows-map : {A B : Type 0} (f : A → B) (name : B → List ℕ) (script : B → List Op) (xs : List A) (ps : List Plugin) → knows_all name script (map f xs) ps ≡ knows_all (λ x. name (f x)) (λ x. script (f x)) xs ps
knows-map f name script xs ps =
    ap₂ (λ (a b : Bool). a && b)
    (all-map f (λ c. knows_script name (map f xs) (script c)) xs ∙ all_alike _ _ (λ x. script-map f name xs (script (f x))) xs)
    (all_alike _ _ (λ (p : Plugin). plugin-map f name xs p) ps)

two_names-map : {A B : Type 0} (f : A → B) (name : B → List ℕ) (xs : List A) (ps : List Plugin) → has_two_names name (map f xs) ps ≡ has_two_names (λ x. name (f x)) xs ps
two_names-map f name xs ps =
    ap₂ (λ (a b : Bool). a || b || has_two (λ (p : Plugin). p.name) ps) (two-map f name xs) (any-map f (λ c. is_built_in (name c)) xs)

pub fault-map : {A B : Type 0} (f : A → B) (name : B → List ℕ) (script : B → List Op) (xs : List A) (ps : List Plugin) → kit_fault_by name script (map f xs) ps ≡ kit_fault_by (λ x. name (f x)) (λ x. script (f x)) xs ps
fault-map f name script xs ps = rw (two_names-map f name xs ps, knows-map f name script xs ps) refl

-- ---- the order of names

map_insert : {A B : Type 0} (f : A → B) (xs : List A) (i : ℕ) (x : A) → map f (insert xs i x) ≡ insert (map f xs) i (f x)
map_insert {A} {B} f xs i x = map-append f (take i xs) (x ∷ drop i xs) ∙ ap₂ (λ (a b : List B). a ++ f x ∷ b) (sym (take-map f i xs)) (sym (drop-map f i xs))

prefix-map : {A B : Type 0} (f : A → B) (p : B → Bool) (xs : List A) → prefix_len p (map f xs) ≡ prefix_len (λ x. p (f x)) xs
prefix-map f p [] = refl
prefix-map f p (x ∷ xs) = ap (λ n. cond (p (f x)) (1 + n) 0) (prefix-map f p xs)

place-map : {A B : Type 0} (f : A → B) (p : B → Bool) (xs : List A) → position p (map f xs) ≡ position (λ x. p (f x)) xs
place-map f p xs = rw (prefix-map f (λ y. not (p y)) xs, length-map xs f) refl

put-map : {A B : Type 0} (f : A → B) (name : B → List ℕ) (x : A) (xs : List A) → map f (put_by_name (λ y. name (f y)) x xs) ≡ put_by_name name (f x) (map f xs)
put-map {A} {B} f name x xs =
    let n : place_by_name name (f x) (map f xs) ≡ place_by_name (λ (y : A). name (f y)) x xs = ap₂ (λ (o : Option ℕ) (l : ℕ). unwrap_or o l) (place-map f (λ y. is_before (name (f x)) (name y)) xs) (length-map xs f) in
    map_insert f xs (place_by_name (λ (y : A). name (f y)) x xs) x ∙ ap (λ k. insert (map f xs) k (f x)) (sym n)

pub by_name-map : {A B : Type 0} (f : A → B) (name : B → List ℕ) (xs : List A) → map f (by_name (λ x. name (f x)) xs) ≡ by_name name (map f xs)
by_name-map f name [] = refl
by_name-map f name (x ∷ xs) = put-map f name x (by_name (λ y. name (f y)) xs) ∙ ap (put_by_name name (f x)) (by_name-map f name xs)

-- a fault that was found is the one that is answered
pub refused : (o : Option KitFault) (fault : KitFault) → (fault ≡ NoMemory → ⊥) → o ≡ Some fault → Refuses fault o
refused o NoMemory own e = absurd (own refl)
refused o TwoNames own e = e
refused o UnknownCallback own e = e
refused o BadLoad own e = e
