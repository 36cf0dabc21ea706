-- A mistake is found exactly where a kit is refused, with the same number.
use Rattle.std.proofs.Common.{◌≡◌, ℕ, ℤ, ◌+◌, Bool, true, false, not, cond, List, [], ◌∷◌, map, Option, Some, None, option_map, refl, sym, ap, ap₂, ◌∙◌}
use Rattle.std.specs.Prelude.{◌||◌, ◌&&◌, if◌then◌else◌, fold, nat_lt, count_by, sum_by}
use Rattle.std.specs.List.{list_any, list_all}
use Rattle.press_callbacks.proofs.Naturals.{fault-map}
use Rattle.press_callbacks.specs.BuiltIns.{is_built_in}
use Rattle.press_callbacks.specs.Faults.{kit_fault_number}
use Rattle.press_callbacks.specs.Kits.{callback_loaded, callback_named, has_many_loads, has_two, has_two_names, is_known, is_known_where, is_named, kit_fault, knows_all, knows_plugin, knows_script, most_hook_loads, most_tag_loads}
use Rattle.press_callbacks.specs.declared.kit_fault.KitFault.TheVariants.{TwoNames, UnknownCallback, BadLoad}
use Rattle.press_callbacks.specs.declared.plugin.Load.{Load}
use Rattle.press_callbacks.specs.declared.plugin.Load.TheVariants.{Hook, Tag}
use Rattle.press_callbacks.specs.declared.plugin.Plugin.{Plugin}
use Rattle.press_callbacks.specs.declared.script.Op as script
use Rattle.press_kit.specs.declared.kit_parts.Scripted.{Scripted}
use Rattle.press_kit.specs.declared.place.Place.{Place}
use Rattle.press_kit.specs.declared.place.Place.TheVariants as place
use Rattle.press_lint.specs.Mistakes.{built_in_name, first, is_of, mistake_in_loads, loads_of, mistake, mistake_by, mistake_in_names, or_else, same_name, too_many, unknown_at, unknown_in, unknown_in_plugin, unknown_in_script, unknown_load, unknown_op, why_number}
use Rattle.press_lint.specs.declared.mistake.Mistake.{Mistake}
use Rattle.press_lint.specs.declared.mistake.Sort.{Sort}
use Rattle.press_lint.specs.declared.mistake.Sort.TheVariants.{Hooks, Tags}
use Rattle.press_lint.specs.declared.mistake.Why.TheVariants.{SameName, BuiltInName, Unknown, TooMany}

abbrev numbers : Option Mistake → Option ℕ
numbers found = option_map (λ (m : Mistake). why_number m.why) found

-- this number, where a test holds
abbrev told : Bool → ℕ → Option ℕ
told true n = Some n
told false n = None

numbers_or : (a b : Option Mistake) → numbers (or_else a b) ≡ or_else (numbers a) (numbers b)
numbers_or (Some x) b = refl
numbers_or None b = refl

tell_or : (a b : Bool) (n : ℕ) → or_else (told a n) (told b n) ≡ told (a || b) n
tell_or true b n = refl
tell_or false b n = refl

-- along a list, where each item tells the same number
found_along : {A : Type 0} (found : ℕ → A → List A → Option Mistake) (test : A → List A → Bool) (all : List A → Bool) (number : ℕ)
    → all [] ≡ false → ((x : A) (xs : List A) → all (x ∷ xs) ≡ (test x xs || all xs))
    → ((n : ℕ) (x : A) (xs : List A) → numbers (found n x xs) ≡ told (test x xs) number)
    → (n : ℕ) (xs : List A) → numbers (first found n xs) ≡ told (all xs) number
found_along found test all number none step one n [] = ap (λ b. told b number) (sym none)
found_along found test all number none step one n (x ∷ xs) =
    numbers_or (found n x xs) (first found (n + 1) xs)
    ∙ ap₂ (λ (a b : Option ℕ). or_else a b) (one n x xs) (found_along found test all number none step one (n + 1) xs)
    ∙ tell_or (test x xs) (all xs) number
    ∙ ap (λ b. told b number) (sym (step x xs))

not_and : (a b : Bool) → not (a && b) ≡ (not a || not b)
not_and true b = refl
not_and false b = refl

tell_same : {A : Type 0} (name : A → List ℕ) (at : ℕ → Place) (n : ℕ) (xs : List A) → numbers (first (same_name name at) n xs) ≡ told (has_two name xs) 3
tell_same {A} name at n xs =
    found_along (same_name name at) (λ x behind. is_named name behind (name x)) (has_two name) 3 refl (λ x behind. refl) one n xs
  where
    go : (n : ℕ) (x : A) (b : Bool) → numbers (if b then mistake (at n) SameName else None) ≡ told b 3
    go n x true = refl
    go n x false = refl

    one : (n : ℕ) (x : A) (behind : List A) → numbers (same_name name at n x behind) ≡ told (is_named name behind (name x)) 3
    one n x behind = go n x (is_named name behind (name x))

tell_built_in : (n : ℕ) (cs : List Scripted) → numbers (first built_in_name n cs) ≡ told (list_any (λ (c : Scripted). is_built_in c.id) cs) 3
tell_built_in n cs =
    found_along built_in_name (λ (c : Scripted) behind. is_built_in c.id) (list_any (λ (c : Scripted). is_built_in c.id)) 3 refl (λ x behind. refl) one n cs
  where
    go : (n : ℕ) (b : Bool) → numbers (if b then mistake (place.Callback n) BuiltInName else None) ≡ told b 3
    go n true = refl
    go n false = refl

    one : (n : ℕ) (c : Scripted) (behind : List Scripted) → numbers (built_in_name n c behind) ≡ told (is_built_in c.id) 3
    one n c behind = go n (is_built_in c.id)

abbrev id_of : Scripted → List ℕ
id_of c = c.id

tell_unknown : (cs : List Scripted) (at : Place) (named : Option (List ℕ)) → numbers (unknown_at cs at named) ≡ told (not (is_known_where id_of cs named)) 4
tell_unknown cs at None = refl
tell_unknown cs at (Some id) = go (is_known id_of cs id)
  where
    go : (b : Bool) → numbers (if b then None else mistake at (Unknown id)) ≡ told (not b) 4
    go true = refl
    go false = refl

-- where a test fails for one of a list
unless_all : {A : Type 0} (p : A → Bool) (x : A) (xs : List A) → not (list_all p (x ∷ xs)) ≡ (not (p x) || not (list_all p xs))
unless_all p x xs = not_and (p x) (list_all p xs)

tell_script : (cs : List Scripted) (c n : ℕ) (script : List script.Op) → numbers (first (unknown_op cs c) n script) ≡ told (not (knows_script id_of cs script)) 4
tell_script cs c n script =
    found_along (unknown_op cs c) (λ op behind. not (is_known_where id_of cs (callback_named op))) (λ ops. not (knows_script id_of cs ops)) 4 refl
    (λ op behind. unless_all (λ o. is_known_where id_of cs (callback_named o)) op behind) (λ o op behind. tell_unknown cs (place.Op c o) (callback_named op)) n script

tell_scripts : (cs : List Scripted) (n : ℕ) (some : List Scripted) → numbers (first (unknown_in_script cs) n some) ≡ told (not (list_all (λ (c : Scripted). knows_script id_of cs c.script) some)) 4
tell_scripts cs n some =
    found_along (unknown_in_script cs) (λ c behind. not (knows_script id_of cs c.script)) (λ some. not (list_all (λ (c : Scripted). knows_script id_of cs c.script) some)) 4 refl
    (λ c behind. unless_all (λ (c : Scripted). knows_script id_of cs c.script) c behind) (λ n c behind. tell_script cs n 0 c.script) n some

tell_loads : (cs : List Scripted) (p n : ℕ) (loads : List Load) → numbers (first (unknown_load cs p) n loads) ≡ told (not (list_all (λ l. is_known id_of cs (callback_loaded l)) loads)) 4
tell_loads cs p n loads =
    found_along (unknown_load cs p) (λ l behind. not (is_known id_of cs (callback_loaded l))) (λ ls. not (list_all (λ l. is_known id_of cs (callback_loaded l)) ls)) 4 refl
    (λ l behind. unless_all (λ l. is_known id_of cs (callback_loaded l)) l behind) (λ o l behind. tell_unknown cs (place.Load p o) (Some (callback_loaded l))) n loads

tell_plugins : (cs : List Scripted) (n : ℕ) (ps : List Plugin) → numbers (first (unknown_in_plugin cs) n ps) ≡ told (not (list_all (knows_plugin id_of cs) ps)) 4
tell_plugins cs n ps =
    found_along (unknown_in_plugin cs) (λ p behind. not (knows_plugin id_of cs p)) (λ ps. not (list_all (knows_plugin id_of cs) ps)) 4 refl
    (λ p behind. unless_all (knows_plugin id_of cs) p behind) (λ n p behind. tell_loads cs n 0 p.load) n ps

-- ---- loads

fold_alike : {A B : Type 0} (f g : B → A → B) → ((b : B) (x : A) → f b x ≡ g b x) → (b : B) (xs : List A) → fold f b xs ≡ fold g b xs
fold_alike f g h b [] = refl
fold_alike f g h b (x ∷ xs) = ap (λ c. fold f c xs) (h b x) ∙ fold_alike f g h (g b x) xs

count_alike : {A : Type 0} (p q : A → Bool) → ((x : A) → p x ≡ q x) → (xs : List A) → count_by p xs ≡ count_by q xs
count_alike p q h xs = fold_alike _ _ (λ (n : ℕ) x. ap (λ b. n + cond b 1 0) (h x)) 0 xs

sum_alike : {A : Type 0} (f g : A → ℕ) → ((x : A) → f x ≡ g x) → (xs : List A) → sum_by f xs ≡ sum_by g xs
sum_alike f g h xs = fold_alike _ _ (λ (n : ℕ) x. ap (λ m. n + m) (h x)) 0 xs

loads_alike : (p q : Load → Bool) → ((l : Load) → p l ≡ q l) → (ps : List Plugin) → sum_by (λ (pl : Plugin). count_by p pl.load) ps ≡ sum_by (λ (pl : Plugin). count_by q pl.load) ps
loads_alike p q h ps = sum_alike _ _ (λ (pl : Plugin). count_alike p q h pl.load) ps

hook_loads : (p : Load → Bool) → ((h : List ℕ) (i : ℤ) (c : List ℕ) (a : ℕ) → p (Hook h i c a) ≡ true) → ((t c : List ℕ) → p (Tag t c) ≡ false)
    → (ps : List Plugin) → sum_by (λ (pl : Plugin). count_by p pl.load) ps ≡ loads_of Hooks ps
hook_loads p hooks tags ps = loads_alike p (is_of Hooks) go ps
  where
    go : (l : Load) → p l ≡ is_of Hooks l
    go (Hook h i c a) = hooks h i c a
    go (Tag t c) = tags t c

tag_loads : (p : Load → Bool) → ((h : List ℕ) (i : ℤ) (c : List ℕ) (a : ℕ) → p (Hook h i c a) ≡ false) → ((t c : List ℕ) → p (Tag t c) ≡ true)
    → (ps : List Plugin) → sum_by (λ (pl : Plugin). count_by p pl.load) ps ≡ loads_of Tags ps
tag_loads p hooks tags ps = loads_alike p (is_of Tags) go ps
  where
    go : (l : Load) → p l ≡ is_of Tags l
    go (Hook h i c a) = hooks h i c a
    go (Tag t c) = tags t c

many_is : (ps : List Plugin) → has_many_loads ps ≡ (nat_lt most_hook_loads (loads_of Hooks ps) || nat_lt most_tag_loads (loads_of Tags ps))
many_is ps =
    ap₂ (λ (a b : ℕ). nat_lt most_hook_loads a || nat_lt most_tag_loads b)
    (hook_loads _ (λ h i c a. refl) (λ t c. refl) ps) (tag_loads _ (λ h i c a. refl) (λ t c. refl) ps)

tell_many : (ps : List Plugin) → numbers (mistake_in_loads ps) ≡ told (has_many_loads ps) 5
tell_many ps =
    numbers_or (too_many Hooks ps) (too_many Tags ps)
    ∙ ap₂ (λ (a b : Option ℕ). or_else a b) (one Hooks (nat_lt most_hook_loads (loads_of Hooks ps))) (one Tags (nat_lt most_tag_loads (loads_of Tags ps)))
    ∙ tell_or _ _ 5
    ∙ ap (λ b. told b 5) (sym (many_is ps))
  where
    one : (sort : Sort) (b : Bool) → numbers (if b then mistake place.Plugins (TooMany sort) else None) ≡ told b 5
    one sort true = refl
    one sort false = refl

-- ---- all together

tell_names : (cs : List Scripted) (ps : List Plugin) → numbers (mistake_in_names cs ps) ≡ told (has_two_names id_of cs ps) 3
tell_names cs ps = assoc (has_two id_of cs) (list_any (λ (c : Scripted). is_built_in c.id) cs) (has_two (λ (p : Plugin). p.name) ps) _ _ _
    (tell_same id_of place.Callback 0 cs) (tell_built_in 0 cs) (tell_same (λ (p : Plugin). p.name) place.Plugin 0 ps)
  where
    assoc : (a b d : Bool) (x y z : Option Mistake) → numbers x ≡ told a 3 → numbers y ≡ told b 3 → numbers z ≡ told d 3 → numbers (or_else x (or_else y z)) ≡ told (a || b || d) 3
    assoc a b d x y z p q r =
        numbers_or x (or_else y z) ∙ ap₂ (λ (u v : Option ℕ). or_else u v) p (numbers_or y z ∙ ap₂ (λ (u v : Option ℕ). or_else u v) q r ∙ tell_or b d 3) ∙ grouped a b d
      where
        grouped : (a b d : Bool) → or_else (told a 3) (told (b || d) 3) ≡ told (a || b || d) 3
        grouped true true d = refl
        grouped true false d = refl
        grouped false true d = refl
        grouped false false d = refl

tell_unknowns : (cs : List Scripted) (ps : List Plugin) → numbers (unknown_in cs ps) ≡ told (not (knows_all id_of (λ (c : Scripted). c.script) cs ps)) 4
tell_unknowns cs ps =
    numbers_or (first (unknown_in_script cs) 0 cs) (first (unknown_in_plugin cs) 0 ps)
    ∙ ap₂ (λ (a b : Option ℕ). or_else a b) (tell_scripts cs 0 cs) (tell_plugins cs 0 ps)
    ∙ tell_or _ _ 4
    ∙ ap (λ b. told b 4) (sym (not_and _ _))

by_cases : (a b d : Bool) → or_else (told a 3) (or_else (told b 4) (told d 5))
    ≡ option_map kit_fault_number (if a then Some TwoNames else (if b then Some UnknownCallback else (if d then Some BadLoad else None)))
by_cases true b d = refl
by_cases false true d = refl
by_cases false false true = refl
by_cases false false false = refl

pub mistakes_are : (cs : List Scripted) (ps : List Plugin)
    → option_map (λ (m : Mistake). why_number m.why) (mistake_by cs ps) ≡ option_map kit_fault_number (kit_fault (map (λ c. (c.id, c.script)) cs) ps)
mistakes_are cs ps =
    numbers_or (mistake_in_names cs ps) (or_else (unknown_in cs ps) (mistake_in_loads ps))
    ∙ ap₂ (λ (a b : Option ℕ). or_else a b) (tell_names cs ps)
    (numbers_or (unknown_in cs ps) (mistake_in_loads ps) ∙ ap₂ (λ (a b : Option ℕ). or_else a b) (tell_unknowns cs ps) (tell_many ps))
    ∙ by_cases (has_two_names id_of cs ps) (not (knows_all id_of (λ (c : Scripted). c.script) cs ps)) (has_many_loads ps)
    ∙ ap (λ f. option_map kit_fault_number f) (sym (fault-map (λ (c : Scripted). (c.id, c.script)) (λ p. p.0) (λ p. p.1) cs ps))
