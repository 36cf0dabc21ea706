-- Form: what the fields of a web form are, and which command they give (URL Standard, 5, `application/x-www-form-urlencoded`; the fields and their names are own).
-- Of a repeated field the first counts, and fields that nobody names are passed over.
use Rattle.std.specs.Prelude.{◌≡◌, ℕ, List, [], ◌∷◌, All, bytes_eq, Option, Some, None, Result, Ok, Err, if◌then◌else◌}
use Rattle.std.specs.Str.Lossy.{utf8_lossy}
use Rattle.form_urlencoded.specs.Form.{decode, raw_pairs, IsPlainText}
use Rattle.press_text.specs.Decimals.{decimal_in}
use Rattle.press_apply.specs.declared.command.Stamped.{Stamped}
use Rattle.press_fields.specs.Fields.{Fields, read}
use Rattle.press_fields.specs.Commands.{command_of}
use Rattle.press_fields.specs.declared.fault.FieldFault.{FieldFault}
use Rattle.press_http.specs.declared.fault.HttpFault.{HttpFault}
use Rattle.press_http.specs.declared.fault.HttpFault.TheVariants.{BadForm}

-- ---- fields

-- what a name or a value stands for; U+FFFD for what isn't UTF-8
abbrev pub decoded_text : List ℕ → List ℕ
decoded_text bytes = utf8_lossy (decode bytes)

abbrev pub first_in : List ℕ → List (List ℕ × List ℕ) → Option (List ℕ)
first_in name [] = None
first_in name (pair ∷ pairs) = if bytes_eq (decoded_text pair.0) name then Some (decoded_text pair.1) else first_in name pairs

-- the value of the first field of that name
unfoldable pub first_value : List ℕ → List ℕ → Option (List ℕ)
first_value name form = first_in name (raw_pairs form)

-- every name is written as it is, without `+` and `%`, and none is the one that is looked for: that is found out without memory
abbrev pub LacksPlainly : List ℕ → List ℕ → Type 0
LacksPlainly name form = All (λ pair. IsPlainText pair.0) (raw_pairs form) × (first_value name form ≡ None)

-- numbers are written in decimal
abbrev pub fields_of : List ℕ → Fields
fields_of form = record { text = λ name. Ok (first_value name form); number = λ name. read decimal_in (first_value name form) }

-- ---- commands

abbrev pub or_bad_form : {A : Type 0} → Result A FieldFault → Result A HttpFault
or_bad_form (Ok x) = Ok x
or_bad_form (Err e) = Err BadForm

unfoldable pub command_in : List ℕ → Result Stamped HttpFault
command_in form = or_bad_form (command_of (fields_of form))
