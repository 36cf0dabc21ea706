-- Fields: what stands under a name, in a form or in an object of a file (own).
use Rattle.std.specs.Prelude.{◌≡◌, ℕ, List, Option, Some, None, Result, Ok, Err, if◌then◌else◌}
use Rattle.press_text.specs.Moments.{moment_of}
use Rattle.press_text.specs.Names.{is_name}
use Rattle.press_fields.specs.declared.fault.FieldFault.{FieldFault}
use Rattle.press_fields.specs.declared.fault.FieldFault.TheVariants.{NoMemory, BadField}

-- What each name gives: nothing where there is no such field, and BadField where what it has is no text or no whole number below 2^64.
pub record Fields : Type 0 where
  pub text : List ℕ → Result (Option (List ℕ)) FieldFault
  pub number : List ℕ → Result (Option ℕ) FieldFault

-- what a fault says of the reading that it ended; out of memory may come at any growth
abbrev pub Refuses : {Y : Type 0} → FieldFault → Result Y FieldFault → Type 0
Refuses NoMemory meant = Unit {0}
Refuses BadField meant = meant ≡ Err BadField

infixl 10 ◌>>=◌
abbrev pub ◌>>=◌ : {A B : Type 0} → Result A FieldFault → (A → Result B FieldFault) → Result B FieldFault
(Ok x) >>= f = f x
(Err e) >>= f = Err e

abbrev pub or_bad : {A : Type 0} → Option A → Result A FieldFault
or_bad None = Err BadField
or_bad (Some x) = Ok x

-- what is made of one answer
abbrev pub map_ok : {A B : Type 0} → (A → B) → Result A FieldFault → Result B FieldFault
map_ok make meant = do
  x ← meant
  Ok (make x)

-- ---- how a kind of fields reads what it has

abbrev pub read : {A B : Type 0} → (A → Option B) → Option A → Result (Option B) FieldFault
read how None = Ok None
read how (Some found) = map_ok Some (or_bad (how found))

-- ---- fields that have to be there

abbrev pub text_at : List ℕ → Fields → Result (List ℕ) FieldFault
text_at name fields = fields.text name >>= or_bad

abbrev pub number_at : List ℕ → Fields → Result ℕ FieldFault
number_at name fields = fields.number name >>= or_bad

abbrev pub name_in : List ℕ → Result (List ℕ) FieldFault
name_in text = if is_name 32 text then Ok text else Err BadField

-- the name of an editor, a plugin or an option
abbrev pub name_at : List ℕ → Fields → Result (List ℕ) FieldFault
name_at name fields = text_at name fields >>= name_in

abbrev pub moment_in : ℕ → Result ℕ FieldFault
moment_in seconds = or_bad (moment_of seconds)

abbrev pub moment_at : List ℕ → Fields → Result ℕ FieldFault
moment_at name fields = number_at name fields >>= moment_in

-- ---- fields that may be left out

-- where none is given it is this one
abbrev pub default : {A B : Type 0} → B → (A → Result B FieldFault) → Option A → Result B FieldFault
default x read None = Ok x
default x read (Some found) = read found
