-- Which texts are names: letters, digits, `_` and `-`, at least one and at most so many
-- (the profile of hook, shortcode and option names; Plugin Handbook, Hooks and Shortcodes).
use Rattle.std.specs.Prelude.{◌≡◌, ℕ, ◌&&◌, ◌||◌, ◌==◌, List, length, Bool, true, nat_lt, nat_le, Option, Some, None, Result, MatchResult, if◌then◌else◌}
use Rattle.std.specs.List.{list_all}
use Rattle.std.specs.Char.{is_ascii_alphanumeric}
use Rattle.press_text.specs.declared.name_fault.NameFault.{NameFault}
use Rattle.press_text.specs.declared.name_fault.NameFault.TheVariants.{BadName, TooLong, NoMemory}

abbrev pub is_name_byte : ℕ → Bool
is_name_byte b = is_ascii_alphanumeric b || b == 95 || b == 45

abbrev pub is_name : ℕ → List ℕ → Bool
is_name most bytes = nat_lt 0 (length bytes) && nat_le (length bytes) most && list_all is_name_byte bytes

abbrev pub IsName : ℕ → List ℕ → Type 0
IsName most bytes = is_name most bytes ≡ true

-- the first fault, where there is one: empty, too long, a byte outside the class
abbrev pub name_fault : ℕ → List ℕ → Option NameFault
name_fault most bytes =
    if length bytes == 0 then Some BadName else
    (if nat_lt most (length bytes) then Some TooLong else
    (if list_all is_name_byte bytes then None else Some BadName))

-- what a fault says of the first one: it is that, and out of memory comes only where there is none
abbrev pub Refuses : NameFault → Option NameFault → Type 0
Refuses NoMemory first = first ≡ None
Refuses BadName first = first ≡ Some BadName
Refuses TooLong first = first ≡ Some TooLong

-- what a constructor answers: the name of these bytes, or their first fault
abbrev pub NameGives : ℕ → Result (List ℕ) NameFault → List ℕ → Type 0
NameGives most result bytes = MatchResult result (λ name. (name ≡ bytes) × (name_fault most bytes ≡ None)) (λ fault. Refuses fault (name_fault most bytes))

-- the same where no memory is taken
abbrev pub CallbackGives : Result (List ℕ) NameFault → List ℕ → Type 0
CallbackGives result bytes = MatchResult result (λ name. (name ≡ bytes) × (name_fault 32 bytes ≡ None)) (λ fault. name_fault 32 bytes ≡ Some fault)
