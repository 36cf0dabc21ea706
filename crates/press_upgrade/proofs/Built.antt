-- What holds of callbacks and plugins in one order holds of them in the order of their names, where no name stands twice.
use Rattle.std.proofs.Common.{◌≡◌, refl, sym, ◌∙◌, ap, ℕ, zero, suc, ◌<◌, List, [], ◌∷◌, length, get_or, Bool, true, false, cond, bytes_eq, Option, Some, None, arith}
use Rattle.std.specs.List.{AllByRecursion, Contains, list_any}
use Rattle.std.specs.List.Sorted.{IsPermutation}
use Rattle.std.proofs.lemmas.List.Elements.{All-from_recursion, recursion_from_All}
use Rattle.std.proofs.lemmas.List.Sorted.{All-permutation, Contains-permutation}
use Rattle.std.proofs.lemmas.Slice.Eq.{bytes_eq-Decides}
use Rattle.press_callbacks.specs.declared.plugin.Plugin.{Plugin}
use Rattle.press_callbacks.specs.declared.script.Op.{Op}
use Rattle.press_callbacks.specs.Kits.{KitView, Scripts, has_two, kit_fault, plugin_of, script_of, view_of}
use Rattle.press_callbacks.specs.Order.{by_name}
use Rattle.press_callbacks.proofs.Moved.{apart_moved, by_name_moved, fault_moved, flip, neither, whole_apart}
use Rattle.press_upgrade.specs.Extends.{Extends, HasCallback, HasPlugin, IsWhole}
use Rattle.press_upgrade.proofs.Tables.{each_as}

pub each_moved : {A : Type 0} (P : A → Type 0) (xs ys : List A) → IsPermutation xs ys → AllByRecursion P xs → AllByRecursion P ys
each_moved P xs ys h a = recursion_from_All P ys (All-permutation P xs ys h (All-from_recursion P xs a))

-- ---- what has a name first

module _ {A B : Type 0} (name : A → List ℕ) (value : A → B) where
  -- the value of the first that has the name
  abbrev first_of : List ℕ → List A → Option B
  first_of n [] = None
  first_of n (x ∷ xs) = cond (bytes_eq (name x) n) (Some (value x)) (first_of n xs)

  -- one of that name and value is among these
  abbrev IsAmong : List ℕ → B → List A → Type 0
  IsAmong n v xs = (x : A) × Contains xs x × (name x ≡ n) × (value x ≡ v)

  first : (x : A) (xs : List A) → Contains (x ∷ xs) x
  first x xs = (0, omega arith, refl)

  later : (n : List ℕ) (v : B) (x : A) (xs : List A) → IsAmong n v xs → IsAmong n v (x ∷ xs)
  later n v x xs a = (a.0, (suc a.1.0, omega (arith, a.1.1), a.1.2), a.2, a.3)

  among : (n : List ℕ) (v : B) (xs : List A) → first_of n xs ≡ Some v → IsAmong n v xs
  among n v [] e = cc
  among n v (x ∷ xs) e = go (bytes_eq (name x) n) refl e (λ f. among n v xs f)
    where
      go : (b : Bool) → b ≡ bytes_eq (name x) n → cond b (Some (value x)) (first_of n xs) ≡ Some v → (first_of n xs ≡ Some v → IsAmong n v xs) → IsAmong n v (x ∷ xs)
      go true k f again = (x, first x xs, (bytes_eq-Decides (name x) n).0 (sym k), cc)
      go false k f again = later n v x xs (again f)

  none_at : (test : A → Bool) (xs : List A) (i : ℕ) (d : A) → list_any test xs ≡ false → i < length xs → test (get_or xs i d) ≡ false
  none_at test [] i d e h = absurd (omega arith)
  none_at test (x ∷ xs) zero d e h = (neither (test x) (list_any test xs) e).0
  none_at test (x ∷ xs) (suc i) d e h = none_at test xs i d (neither (test x) (list_any test xs) e).1 (omega arith)

  found : (xs : List A) (i : ℕ) (x : A) → has_two name xs ≡ false → i < length xs → get_or xs i x ≡ x → first_of (name x) xs ≡ Some (value x)
  found [] i x two h e = absurd (omega arith)
  found (y ∷ ys) zero x two h e = ap (λ z. cond (bytes_eq (name y) (name z)) (Some (value y)) (first_of (name z) ys)) (sym e) ∙ ap (λ b. cond b (Some (value y)) (first_of (name y) ys)) ((bytes_eq-Decides (name y) (name y)).1 refl) ∙ ap (λ z. Some (value z)) e
  found (y ∷ ys) (suc i) x two h e =
      let parts = neither (list_any (λ z. bytes_eq (name z) (name y)) ys) (has_two name ys) two in
      let lt : i < length ys = omega (arith, h) in
      let other : bytes_eq (name y) (name x) ≡ false = flip (name y) (name x) ∙ ap (λ z. bytes_eq (name z) (name y)) (sym e) ∙ none_at (λ z. bytes_eq (name z) (name y)) ys i x parts.0 lt in
      ap (λ b. cond b (Some (value y)) (first_of (name x) ys)) other ∙ found ys i x parts.1 lt e

  -- in another order it has the name first still
  pub first_moved : (n : List ℕ) (v : B) (xs ys : List A) → IsPermutation xs ys → has_two name xs ≡ false → first_of n xs ≡ Some v → first_of n ys ≡ Some v
  first_moved n v xs ys h two e =
      let a = among n v xs e in
      let c = Contains-permutation xs ys a.0 h a.1 in
      ap (λ m. first_of m ys) (sym a.2) ∙ found ys c.0 a.0 (apart_moved name xs ys h two) c.1 c.2 ∙ ap (λ w. Some w) a.3

script_first : (id : List ℕ) (cs : Scripts) → script_of id cs ≡ first_of (λ c. c.0) (λ c. c.1) id cs
script_first id [] = refl
script_first id (c ∷ cs) = ap (λ o. cond (bytes_eq c.0 id) (Some c.1) o) (script_first id cs)

plugin_first : (name : List ℕ) (ps : List Plugin) → plugin_of name ps ≡ first_of (λ (p : Plugin). p.name) (λ p. p) name ps
plugin_first name [] = refl
plugin_first name (p ∷ ps) = ap (λ o. cond (bytes_eq p.name name) (Some p) o) (plugin_first name ps)

callback_moved : (xs ys : Scripts) (c : List ℕ × List Op) → IsPermutation xs ys → has_two (λ d. d.0) xs ≡ false → HasCallback xs c → HasCallback ys c
callback_moved xs ys c h two e = script_first c.0 ys ∙ first_moved (λ d. d.0) (λ d. d.1) c.0 c.1 xs ys h two (sym (script_first c.0 xs) ∙ e)

plugin_moved : (xs ys : List Plugin) (p : Plugin) → IsPermutation xs ys → has_two (λ (q : Plugin). q.name) xs ≡ false → HasPlugin xs p → HasPlugin ys p
plugin_moved xs ys p h two e = plugin_first p.name ys ∙ first_moved (λ (q : Plugin). q.name) (λ q. q) p.name p xs ys h two (sym (plugin_first p.name xs) ∙ e)

-- ---- kits

pub built : (scripts : Scripts) (plugins : List Plugin) → kit_fault scripts plugins ≡ None → IsWhole (view_of scripts plugins)
built scripts plugins e =
    sym (fault_moved (λ c. c.0) (λ c. c.1) scripts (by_name (λ c. c.0) scripts) plugins (by_name (λ (p : Plugin). p.name) plugins) (by_name_moved (λ c. c.0) scripts) (by_name_moved (λ (p : Plugin). p.name) plugins)) ∙ e

pub extends_built : (old new : KitView) → IsWhole new → Extends old new → Extends (view_of old.scripts old.plugins) (view_of new.scripts new.plugins)
extends_built old new whole extends =
    let apart = whole_apart (λ c. c.0) (λ c. c.1) new.scripts new.plugins whole in
    let scripts = by_name_moved (λ c. c.0) new.scripts in
    let plugins = by_name_moved (λ (p : Plugin). p.name) new.plugins in
    record {
      callbacks =
          each_as (HasCallback new.scripts) (HasCallback (by_name (λ c. c.0) new.scripts)) (by_name (λ c. c.0) old.scripts) (λ c e. callback_moved new.scripts (by_name (λ d. d.0) new.scripts) c scripts apart.0 e)
          (each_moved (HasCallback new.scripts) old.scripts (by_name (λ c. c.0) old.scripts) (by_name_moved (λ c. c.0) old.scripts) extends.callbacks);
      plugins =
          each_as (HasPlugin new.plugins) (HasPlugin (by_name (λ (p : Plugin). p.name) new.plugins)) (by_name (λ (p : Plugin). p.name) old.plugins) (λ p e. plugin_moved new.plugins (by_name (λ (q : Plugin). q.name) new.plugins) p plugins apart.1 e)
          (each_moved (HasPlugin new.plugins) old.plugins (by_name (λ (p : Plugin). p.name) old.plugins) (by_name_moved (λ (p : Plugin). p.name) old.plugins) extends.plugins);
    }
