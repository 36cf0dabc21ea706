-- Options by name, in the order of their names (Options API: `add_option_{name}`, `update_option_{name}`, `update_option`; arguments and limits are own).
use Rattle.std.specs.Prelude.{◌≡◌, true, is_some, ℕ, String, List, [], ◌∷◌, ◌++◌, length, map, nat_lt, nat_le, bytes_eq, if◌then◌else◌, codes, string_bytes, Option, Some, None, Result, Ok, Err}
use Rattle.std.specs.BTreeMap.{insert_entry, is_at}
use Rattle.std.specs.Cmp.Lexicographic.{slice_cmp}
use Rattle.std.specs.Map.{lookup, remove_entry, set_value}
use Rattle.std.specs.Ordering.{nat_cmp}
use Rattle.press_posts.specs.declared.fire.Fire.{Fire}
use Rattle.press_site.specs.declared.fault.SiteFault.{SiteFault}
use Rattle.press_site.specs.declared.options.SetOption.{SetOption}
use Rattle.press_site.specs.declared.fault.SiteFault.TheVariants.{TooLong, TooManyOptions}

abbrev pub Values : Type 0
Values = List (List ℕ × List ℕ)

-- an option that is set
abbrev pub set_option_of : List ℕ × List ℕ → SetOption
set_option_of option = record { name = option.0; value = option.1 }

-- entries of a map, read by the bytes of their names
abbrev pub by_bytes : {S : Type 0} → List (String S × List ℕ) → Values
by_bytes entries = map (λ e. (string_bytes e.0, e.1)) entries

abbrev pub option_of : List ℕ → Values → Option (List ℕ)
option_of name values = lookup (is_at (slice_cmp nat_cmp name)) values

abbrev pub put_option : List ℕ → List ℕ → Values → Values
put_option name value values = insert_entry (slice_cmp nat_cmp) values name value

-- an option as it stood: with that value, or out where it had none
abbrev pub put_back : List ℕ → Option (List ℕ) → Values → Values
put_back name (Some value) values = set_value (is_at (slice_cmp nat_cmp name)) values value
put_back name None values = remove_entry (is_at (slice_cmp nat_cmp name)) values

-- ---- what is fired

abbrev pub option_update_name : List ℕ → List ℕ
option_update_name name = codes "update_option_" ++ name

abbrev pub option_update_fire : List ℕ → List ℕ → List ℕ → Fire
option_update_fire name old new = record { hook = option_update_name name; args = old ∷ new ∷ name ∷ [] }

abbrev pub option_add_name : List ℕ → List ℕ
option_add_name name = codes "add_option_" ++ name

abbrev pub option_add_fire : List ℕ → List ℕ → Fire
option_add_fire name value = record { hook = option_add_name name; args = name ∷ value ∷ [] }

-- ---- setting an option, given the value that it has: the options after it and what is fired, if anything, or its refusal

abbrev pub set_over : Option (List ℕ) → List ℕ → List ℕ → Values → Result (Values × Option (List Fire)) SiteFault
set_over (Some old) name value values =
    if bytes_eq old value then Ok (values, None) else Ok (put_option name value values, Some (option_update_fire name old value ∷ []))
set_over None name value values =
    if nat_le 1024 (length values) then Err TooManyOptions else Ok (put_option name value values, Some (option_add_fire name value ∷ []))

abbrev pub set_option : List ℕ → List ℕ → Values → Result (Values × Option (List Fire)) SiteFault
set_option name value values = if nat_lt 4096 (length value) then Err TooLong else set_over (option_of name values) name value values

-- whether that sets anything
abbrev pub SetsSome : Result (Values × Option (List Fire)) SiteFault → Type 0
SetsSome (Ok after) = is_some after.1 ≡ true
SetsSome (Err fault) = ⊥
