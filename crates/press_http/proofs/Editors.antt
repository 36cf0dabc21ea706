-- A form without an editor gives no command.
use Rattle.std.proofs.Common.{◌≡◌, ℕ, List, None, Ok, Err, refl}
use Rattle.std.specs.Prelude.{codes}
use Rattle.press_apply.specs.declared.command.Stamped.{Stamped}
use Rattle.press_fields.specs.Commands.{command_of, token_of}
use Rattle.press_fields.specs.declared.fault.FieldFault.TheVariants.{BadField}
use Rattle.press_http.specs.Forms.{fields_of, first_value}

lacks_one : (form : List ℕ) → first_value (codes "editor") form ≡ None → command_of (fields_of form) ≡ Err BadField
unfolding command_of token_of
lacks_one form lacks = rw lacks refl

pub has_one : (form : List ℕ) (command : Stamped) → first_value (codes "editor") form ≡ None → command_of (fields_of form) ≡ Ok command → ⊥
has_one form command lacks given = let bad = lacks_one form lacks in cc
