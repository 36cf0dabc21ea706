-- What makes no kit, and the order of names, don't depend on where things stood before.
use Rattle.std.proofs.Common.{◌≡◌, refl, sym, ◌∙◌, ap, ap₂, ℕ, zero, suc, ◌<◌, Bool, true, false, not, cond, bytes_eq, nat_lt, List, [], ◌∷◌, length, get_or, inl, inr, ⊎_elim, Option, Some, None, arith}
use Rattle.std.specs.Prelude.{◌||◌, ◌&&◌, ◌⊎◌}
use Rattle.std.specs.List.{list_all, list_any, AllByRecursion, IsDistinct, Contains}
use Rattle.std.specs.List.Sorted.{IsPermutation}
use Rattle.std.proofs.lemmas.List.Sorted.{IsPermutation-refl, IsPermutation-sym, IsPermutation-cons, IsPermutation-trans, IsPermutation-insert, Contains-permutation, sum_by-IsPermutation, list_any-IsPermutation}
use Rattle.std.proofs.lemmas.Map.Keys.{IsDistinct-IsPermutation}
use Rattle.std.proofs.lemmas.Slice.Eq.{bytes_eq-Decides}
use Rattle.press_callbacks.specs.declared.script.Op.{Op}
use Rattle.press_callbacks.specs.declared.plugin.Plugin.{Plugin}
use Rattle.press_callbacks.specs.declared.plugin.Load.{Load}
use Rattle.press_callbacks.specs.declared.plugin.LoadKind.{LoadKind}
use Rattle.press_callbacks.specs.declared.plugin.LoadKind.TheVariants as kind
use Rattle.press_callbacks.specs.declared.kit_fault.KitFault.{KitFault}
use Rattle.press_callbacks.specs.declared.kit_fault.KitFault.TheVariants.{TwoNames}
use Rattle.press_callbacks.specs.BuiltIns.{is_built_in}
use Rattle.press_callbacks.specs.Kits.{has_two, has_two_names, has_many_loads, is_known, is_known_where, knows_script, knows_plugin, knows_all, kit_fault_by, callback_named, callback_loaded, loads_of_kind, most_hook_loads, most_tag_loads}
use Rattle.press_text.specs.NameOrder.{is_before}
use Rattle.press_callbacks.specs.Order.{by_name, in_order, place_by_name}
use Rattle.press_text.proofs.NameOrder.{both, not_true, clash, weak, behind, all_at}
use Rattle.press_callbacks.proofs.Halves.{in_order_by_name}
use Rattle.press_callbacks.proofs.Naturals.{all_alike}

-- ---- whether a name stands twice

pub flip : (a b : List ℕ) → bytes_eq a b ≡ bytes_eq b a
flip a b = alike (bytes_eq a b) (bytes_eq b a) refl refl
  where
    alike : (p q : Bool) → p ≡ bytes_eq a b → q ≡ bytes_eq b a → p ≡ q
    alike true q e f = sym (f ∙ (bytes_eq-Decides b a).1 (sym ((bytes_eq-Decides a b).0 (sym e))))
    alike false true e f = e ∙ (bytes_eq-Decides a b).1 (sym ((bytes_eq-Decides b a).0 (sym f)))
    alike false false e f = refl

pub neither : (a b : Bool) → (a || b) ≡ false → (a ≡ false) × (b ≡ false)
neither true b e = absurd (cc)
neither false b e = (refl, e)

or_false : (a b : Bool) → a ≡ false → b ≡ false → (a || b) ≡ false
or_false a b e f = rw (e, f) refl

each_false : {A : Type 0} (p : A → Bool) (xs : List A) → list_any p xs ≡ false → AllByRecursion (λ y. p y ≡ false) xs
each_false p [] e = tt
each_false p (x ∷ xs) e = let b = neither (p x) (list_any p xs) e in (b.0, each_false p xs b.1)

any_false : {A : Type 0} (p : A → Bool) (xs : List A) → AllByRecursion (λ y. p y ≡ false) xs → list_any p xs ≡ false
any_false p [] a = refl
any_false p (x ∷ xs) a = or_false (p x) (list_any p xs) a.0 (any_false p xs a.1)

abbrev alike : {A : Type 0} → (A → List ℕ) → A → A → Bool
alike name x y = bytes_eq (name y) (name x)

distinct : {A : Type 0} (name : A → List ℕ) (xs : List A) → has_two name xs ≡ false → IsDistinct (alike name) xs
unfolding IsDistinct
distinct name [] e = tt
distinct name (x ∷ xs) e =
    let b = neither (list_any (alike name x) xs) (has_two name xs) e in
    (each_false (alike name x) xs b.0, distinct name xs b.1)

no_two : {A : Type 0} (name : A → List ℕ) (xs : List A) → IsDistinct (alike name) xs → has_two name xs ≡ false
unfolding IsDistinct
no_two name [] d = refl
no_two name (x ∷ xs) d = or_false (list_any (alike name x) xs) (has_two name xs) (any_false (alike name x) xs d.0) (no_two name xs d.1)

pub apart_moved : {A : Type 0} (name : A → List ℕ) (xs ys : List A) → IsPermutation xs ys → has_two name xs ≡ false → has_two name ys ≡ false
apart_moved name xs ys h e =
    no_two name ys (IsDistinct-IsPermutation (alike name) (λ x y. flip (name y) (name x)) xs ys h (distinct name xs e))

both_ways : (a b : Bool) → (a ≡ false → b ≡ false) → (b ≡ false → a ≡ false) → a ≡ b
both_ways true true f g = refl
both_ways true false f g = g refl
both_ways false b f g = sym (f refl)

two_moved : {A : Type 0} (name : A → List ℕ) (xs ys : List A) → IsPermutation xs ys → has_two name xs ≡ has_two name ys
two_moved name xs ys h =
    both_ways (has_two name xs) (has_two name ys) (apart_moved name xs ys h) (apart_moved name ys xs (IsPermutation-sym xs ys h))

-- ---- the fault

not_all : (a b : Bool) → (a && not b) ≡ not (not a || b)
not_all true b = refl
not_all false b = refl

all_any : {A : Type 0} (p : A → Bool) (xs : List A) → list_all p xs ≡ not (list_any (λ x. not (p x)) xs)
all_any p [] = refl
all_any p (x ∷ xs) = ap (λ b. p x && b) (all_any p xs) ∙ not_all (p x) (list_any (λ y. not (p y)) xs)

all_moved : {A : Type 0} (p : A → Bool) (xs ys : List A) → IsPermutation xs ys → list_all p xs ≡ list_all p ys
all_moved p xs ys h = all_any p xs ∙ ap not (list_any-IsPermutation (λ x. not (p x)) xs ys h) ∙ sym (all_any p ys)

module _ {A : Type 0} (name : A → List ℕ) (xs ys : List A) (h : IsPermutation xs ys) where
  known_moved : (n : List ℕ) → is_known name xs n ≡ is_known name ys n
  known_moved n = ap (λ b. is_built_in n || b) (list_any-IsPermutation (λ c. bytes_eq (name c) n) xs ys h)

  known_where_moved : (o : Option (List ℕ)) → is_known_where name xs o ≡ is_known_where name ys o
  known_where_moved None = refl
  known_where_moved (Some n) = known_moved n

  script_moved : (script : List Op) → knows_script name xs script ≡ knows_script name ys script
  script_moved script = all_alike _ _ (λ o. known_where_moved (callback_named o)) script

  plugin_moved : (p : Plugin) → knows_plugin name xs p ≡ knows_plugin name ys p
  plugin_moved p = all_alike _ _ (λ (l : Load). known_moved (callback_loaded l)) p.load

knows_moved : {A : Type 0} (name : A → List ℕ) (script : A → List Op) (xs ys : List A) (ps qs : List Plugin) → IsPermutation xs ys → IsPermutation ps qs → knows_all name script xs ps ≡ knows_all name script ys qs
knows_moved name script xs ys ps qs h k =
    ap₂ (λ (a b : Bool). a && b)
    (all_alike _ _ (λ x. script_moved name xs ys h (script x)) xs ∙ all_moved (λ c. knows_script name ys (script c)) xs ys h)
    (all_alike _ _ (λ (p : Plugin). plugin_moved name xs ys h p) ps ∙ all_moved (knows_plugin name ys) ps qs k)

two_names_moved : {A : Type 0} (name : A → List ℕ) (xs ys : List A) (ps qs : List Plugin) → IsPermutation xs ys → IsPermutation ps qs → has_two_names name xs ps ≡ has_two_names name ys qs
two_names_moved name xs ys ps qs h k =
    rw (two_moved name xs ys h, list_any-IsPermutation (λ c. is_built_in (name c)) xs ys h, two_moved (λ (p : Plugin). p.name) ps qs k) refl

loads_moved : (kind : LoadKind) (ps qs : List Plugin) → IsPermutation ps qs → loads_of_kind kind ps ≡ loads_of_kind kind qs
loads_moved kind ps qs k = sym (sum_by-IsPermutation _ ps qs k)

many_moved : (ps qs : List Plugin) → IsPermutation ps qs → has_many_loads ps ≡ has_many_loads qs
many_moved ps qs k =
    ap₂ (λ (a b : ℕ). nat_lt most_hook_loads a || nat_lt most_tag_loads b) (loads_moved kind.Hooks ps qs k) (loads_moved kind.Tags ps qs k)

pub fault_moved : {A : Type 0} (name : A → List ℕ) (script : A → List Op) (xs ys : List A) (ps qs : List Plugin) → IsPermutation xs ys → IsPermutation ps qs → kit_fault_by name script xs ps ≡ kit_fault_by name script ys qs
fault_moved name script xs ys ps qs h k =
    rw (two_names_moved name xs ys ps qs h k, knows_moved name script xs ys ps qs h k, many_moved ps qs k) refl

-- what makes a kit has no two names
none_is : (b : Bool) (rest : Option KitFault) → cond b (Some TwoNames) rest ≡ None → b ≡ false
none_is true rest e = cc
none_is false rest e = refl

pub whole_apart : {A : Type 0} (name : A → List ℕ) (script : A → List Op) (xs : List A) (ps : List Plugin) → kit_fault_by name script xs ps ≡ None → (has_two name xs ≡ false) × (has_two (λ (p : Plugin). p.name) ps ≡ false)
whole_apart name script xs ps e =
    let a = none_is (has_two_names name xs ps) _ e in
    let b = neither (has_two name xs || list_any (λ c. is_built_in (name c)) xs) (has_two (λ (p : Plugin). p.name) ps) a in
    ((neither (has_two name xs) (list_any (λ c. is_built_in (name c)) xs) b.0).0, b.1)

-- ---- where no name stands twice, there is one order

pub by_name_moved : {A : Type 0} (name : A → List ℕ) (xs : List A) → IsPermutation xs (by_name name xs)
by_name_moved name [] = IsPermutation-refl []
by_name_moved name (x ∷ xs) =
    IsPermutation-trans _ _ _ (IsPermutation-cons x xs (by_name name xs) (by_name_moved name xs))
    (IsPermutation-insert (by_name name xs) (place_by_name name x (by_name name xs)) x)

front_or_behind : {A : Type 0} (x z : A) (xs : List A) → Contains (x ∷ xs) z → (x ≡ z) ⊎ Contains xs z
front_or_behind x z xs (zero, lt, e) = inl e
front_or_behind x z xs (suc k, lt, e) = inr (k, omega (arith, lt), e)

first_in : {A : Type 0} (x : A) (xs : List A) → Contains (x ∷ xs) x
first_in x xs = (0, omega arith, refl)

later_in : {A : Type 0} (x z : A) (xs : List A) → Contains xs z → Contains (x ∷ xs) z
later_in x z xs c = (suc c.0, omega (arith, c.1), c.2)

none_in : {A : Type 0} {X : Type 0} (z : A) → Contains [] z → X
none_in z c = absurd (omega (arith, c.1))

any_at : {A : Type 0} (p : A → Bool) (xs : List A) (i : ℕ) (d : A) → list_any p xs ≡ false → i < length xs → p (get_or xs i d) ≡ false
any_at p [] i d e h = absurd (omega arith)
any_at p (x ∷ xs) zero d e h = (neither (p x) (list_any p xs) e).0
any_at p (x ∷ xs) (suc i) d e h = any_at p xs i d (neither (p x) (list_any p xs) e).1 (omega arith)

-- in order, and no name twice
abbrev Rises : {A : Type 0} → (A → List ℕ) → List A → Type 0
Rises name xs = (in_order name xs ≡ true) × (has_two name xs ≡ false)

rises_behind : {A : Type 0} (name : A → List ℕ) (x : A) (xs : List A) → Rises name (x ∷ xs) → Rises name xs
rises_behind name x xs r = (
  (both (list_all (λ y. not (is_before (name y) (name x))) xs) (in_order name xs) r.0).1,
  (neither (list_any (λ y. bytes_eq (name y) (name x)) xs) (has_two name xs) r.1).1,
)

-- the first stands before each behind it
leads : {A : Type 0} (name : A → List ℕ) (x z : A) (xs : List A) → Rises name (x ∷ xs) → Contains xs z → is_before (name x) (name z) ≡ true
leads name x z xs r c =
    let late = all_at (λ y. not (is_before (name y) (name x))) xs c.0 z (both (list_all (λ y. not (is_before (name y) (name x))) xs) (in_order name xs) r.0).0 c.1 in
    let other = any_at (λ y. bytes_eq (name y) (name x)) xs c.0 z (neither (list_any (λ y. bytes_eq (name y) (name x)) xs) (has_two name xs) r.1).0 c.1 in
    behind (name z) (name x)
    (ap (λ w. is_before (name w) (name x)) (sym c.2) ∙ not_true (is_before (name (get_or xs c.0 z)) (name x)) late)
    (ap (λ w. bytes_eq (name w) (name x)) (sym c.2) ∙ other)

not_itself : {X : Type 0} (n : List ℕ) → is_before n n ≡ true → X
not_itself n e = clash (is_before n n) e (weak.one_way n n e)

same_first : {A : Type 0} (name : A → List ℕ) (x y : A) (xs ys : List A) → Rises name (x ∷ xs) → Rises name (y ∷ ys) → Contains (y ∷ ys) x → Contains (x ∷ xs) y → x ≡ y
same_first name x y xs ys r s in_ys in_xs =
    ⊎_elim (λ (e : y ≡ x). sym e)
    (λ (c : Contains ys x).
    ⊎_elim (λ (e : x ≡ y). e)
    (λ (d : Contains xs y). clash (is_before (name x) (name y)) (leads name x y xs r d) (weak.one_way (name y) (name x) (leads name y x ys s c)))
    (front_or_behind x y xs in_xs))
    (front_or_behind y x ys in_ys)

-- what is in one list behind its first, and in the other, is behind that one's first too
behind_too : {A : Type 0} (name : A → List ℕ) (x y z : A) (xs ys : List A) → Rises name (x ∷ xs) → x ≡ y → Contains xs z → Contains (y ∷ ys) z → Contains ys z
behind_too name x y z xs ys r e c d =
    ⊎_elim (λ (f : y ≡ z). not_itself (name z) (ap (λ w. is_before (name w) (name z)) (sym (e ∙ f)) ∙ leads name x z xs r c)) (λ (k : Contains ys z). k) (front_or_behind y z ys d)

one_order : {A : Type 0} (name : A → List ℕ) (xs ys : List A) → Rises name xs → Rises name ys → ((z : A) → Contains xs z → Contains ys z) → ((z : A) → Contains ys z → Contains xs z) → xs ≡ ys
one_order name [] [] r s f g = refl
one_order name [] (y ∷ ys) r s f g = none_in y (g y (first_in y ys))
one_order name (x ∷ xs) [] r s f g = none_in x (f x (first_in x xs))
one_order name (x ∷ xs) (y ∷ ys) r s f g =
    let e = same_first name x y xs ys r s (f x (first_in x xs)) (g y (first_in y ys)) in
    ap₂ (λ a as'. a ∷ as') e
    (one_order name xs ys (rises_behind name x xs r) (rises_behind name y ys s)
    (λ z c. behind_too name x y z xs ys r e c (f z (later_in x z xs c)))
    (λ z c. behind_too name y x z ys xs s (sym e) c (g z (later_in y z ys c))))

pub sorted_is : {A : Type 0} (name : A → List ℕ) (xs ys : List A) → IsPermutation xs ys → in_order name ys ≡ true → has_two name xs ≡ false → ys ≡ by_name name xs
sorted_is name xs ys h o e =
    let back = IsPermutation-sym xs ys h in
    let put = by_name_moved name xs in
    one_order name ys (by_name name xs) (o, apart_moved name xs ys h e) (in_order_by_name name xs, apart_moved name xs (by_name name xs) put e)
    (λ z c. Contains-permutation xs (by_name name xs) z put (Contains-permutation ys xs z back c))
    (λ z c. Contains-permutation xs ys z h (Contains-permutation (by_name name xs) xs z (IsPermutation-sym _ _ put) c))
