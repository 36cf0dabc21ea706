-- The first reason why callbacks and plugins make no kit, with its place, in the order in which a
-- kit is refused; and its message (own).
use Rattle.std.specs.Prelude.{ℕ, ◌+◌, List, [], ◌∷◌, ◌++◌, if◌then◌else◌, nat_lt, Bool, true, false, sum_by, count_by, Option, Some, None, codes}
use Rattle.press_callbacks.specs.BuiltIns.{is_built_in}
use Rattle.press_callbacks.specs.Kits.{callback_loaded, callback_named, is_known, is_named, most_hook_loads, most_tag_loads}
use Rattle.press_callbacks.specs.declared.plugin.Load.{Load}
use Rattle.press_callbacks.specs.declared.plugin.Load.TheVariants.{Hook, Tag}
use Rattle.press_callbacks.specs.declared.plugin.Plugin.{Plugin}
use Rattle.press_callbacks.specs.declared.script.Op as script
use Rattle.press_kit.specs.declared.kit_parts.KitParts.{KitParts}
use Rattle.press_kit.specs.declared.kit_parts.Scripted.{Scripted}
use Rattle.press_kit.specs.declared.place.Place.{Place}
use Rattle.press_kit.specs.declared.place.Place.TheVariants as place
use Rattle.press_lint.specs.Told.{place_in}
use Rattle.press_lint.specs.declared.mistake.Mistake.{Mistake}
use Rattle.press_lint.specs.declared.mistake.Sort.{Sort}
use Rattle.press_lint.specs.declared.mistake.Sort.TheVariants.{Hooks, Tags}
use Rattle.press_lint.specs.declared.mistake.Why.{Why}
use Rattle.press_lint.specs.declared.mistake.Why.TheVariants.{SameName, BuiltInName, Unknown, TooMany}

-- the first of two that is there
abbrev pub or_else : {A : Type 0} → Option A → Option A → Option A
or_else (Some x) other = Some x
or_else None other = other

-- what is found first along a list, in an item of that number, with those behind it
abbrev pub first : {A B : Type 0} → (ℕ → A → List A → Option B) → ℕ → List A → Option B
first found n [] = None
first found n (x ∷ xs) = or_else (found n x xs) (first found (n + 1) xs)

abbrev pub mistake : Place → Why → Option Mistake
mistake at why = Some (record { at = at; why = why })

-- ---- names

-- one behind it has the same name
abbrev pub same_name : {A : Type 0} → (A → List ℕ) → (ℕ → Place) → ℕ → A → List A → Option Mistake
same_name name at n x behind = if is_named name behind (name x) then mistake (at n) SameName else None

abbrev pub built_in_name : ℕ → Scripted → List Scripted → Option Mistake
built_in_name n c behind = if is_built_in c.id then mistake (place.Callback n) BuiltInName else None

-- ---- callbacks that are named

abbrev pub unknown_at : List Scripted → Place → Option (List ℕ) → Option Mistake
unknown_at callbacks at None = None
unknown_at callbacks at (Some id) = if is_known (λ (c : Scripted). c.id) callbacks id then None else mistake at (Unknown id)

abbrev pub unknown_op : List Scripted → ℕ → ℕ → script.Op → List script.Op → Option Mistake
unknown_op callbacks c o op behind = unknown_at callbacks (place.Op c o) (callback_named op)

abbrev pub unknown_in_script : List Scripted → ℕ → Scripted → List Scripted → Option Mistake
unknown_in_script callbacks n c behind = first (unknown_op callbacks n) 0 c.script

abbrev pub unknown_load : List Scripted → ℕ → ℕ → Load → List Load → Option Mistake
unknown_load callbacks p l load behind = unknown_at callbacks (place.Load p l) (Some (callback_loaded load))

abbrev pub unknown_in_plugin : List Scripted → ℕ → Plugin → List Plugin → Option Mistake
unknown_in_plugin callbacks n p behind = first (unknown_load callbacks n) 0 p.load

-- ---- loads

abbrev pub is_of : Sort → Load → Bool
is_of Hooks (Hook h p c a) = true
is_of Hooks (Tag t c) = false
is_of Tags (Hook h p c a) = false
is_of Tags (Tag t c) = true

-- how many loads of a sort the plugins have together
abbrev pub loads_of : Sort → List Plugin → ℕ
loads_of sort plugins = sum_by (λ (p : Plugin). count_by (is_of sort) p.load) plugins

abbrev pub most_of : Sort → ℕ
most_of Hooks = most_hook_loads
most_of Tags = most_tag_loads

abbrev pub too_many : Sort → List Plugin → Option Mistake
too_many sort plugins = if nat_lt (most_of sort) (loads_of sort plugins) then mistake place.Plugins (TooMany sort) else None

-- ---- all together

abbrev pub mistake_in_names : List Scripted → List Plugin → Option Mistake
mistake_in_names callbacks plugins =
    or_else (first (same_name (λ (c : Scripted). c.id) place.Callback) 0 callbacks)
    (or_else (first built_in_name 0 callbacks)
    (first (same_name (λ (p : Plugin). p.name) place.Plugin) 0 plugins))

abbrev pub unknown_in : List Scripted → List Plugin → Option Mistake
unknown_in callbacks plugins =
    or_else (first (unknown_in_script callbacks) 0 callbacks) (first (unknown_in_plugin callbacks) 0 plugins)

abbrev pub mistake_in_loads : List Plugin → Option Mistake
mistake_in_loads plugins = or_else (too_many Hooks plugins) (too_many Tags plugins)

abbrev pub mistake_by : List Scripted → List Plugin → Option Mistake
mistake_by callbacks plugins = or_else (mistake_in_names callbacks plugins) (or_else (unknown_in callbacks plugins) (mistake_in_loads plugins))

abbrev pub mistake_in : KitParts → Option Mistake
mistake_in kit = mistake_by kit.callbacks kit.plugins

-- ---- its text

-- its number among the faults
abbrev pub why_number : Why → ℕ
why_number SameName = 3
why_number BuiltInName = 3
why_number (Unknown id) = 4
why_number (TooMany sort) = 5

abbrev pub tell_why : Why → List ℕ
tell_why SameName = codes "a later one has the same name"
tell_why BuiltInName = codes "this is the name of a built-in callback"
tell_why (Unknown id) = codes "names a callback that is not in the kit: \"" ++ (id ++ codes "\"")
tell_why (TooMany Hooks) = codes "more than 1000 loads on hooks in all"
tell_why (TooMany Tags) = codes "more than 128 loads of tags in all"

abbrev pub tell_mistake : KitParts → Mistake → List ℕ
tell_mistake kit m = place_in kit m.at ++ tell_why m.why
