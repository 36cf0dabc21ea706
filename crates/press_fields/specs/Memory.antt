-- What has to be read before memory is taken for what fields give: the first of their names and texts (own).
use Rattle.std.specs.Prelude.{◌≡◌, ◌<◌, ℕ, List, length, Result, Err, IsOk, IfOk, codes}
use Rattle.press_apply.specs.declared.kind.CommandKind.{CommandKind}
use Rattle.press_apply.specs.declared.kind.CommandKind.TheVariants as kind
use Rattle.press_fields.specs.declared.fault.FieldFault.{FieldFault}
use Rattle.press_fields.specs.declared.fault.FieldFault.TheVariants.{NoMemory, BadField}
use Rattle.press_fields.specs.Fields.{Fields, ◌>>=◌, text_at, name_at, number_at}

-- out of memory comes only where that is read
abbrev pub GrowsBehind : {A B : Type 0} → Result A FieldFault → Result B FieldFault → Type 0
GrowsBehind result needed = result ≡ Err NoMemory → IsOk needed

-- where a text is read, out of memory comes only if it has more bytes than that
abbrev pub GrowsPast : {A : Type 0} → ℕ → Result A FieldFault → Result (List ℕ) FieldFault → Type 0
GrowsPast few result read = result ≡ Err NoMemory → IfOk read (λ text. few < length text)

abbrev pub editor_at : Fields → Result (List ℕ) FieldFault
editor_at fields = name_at (codes "editor") fields

unfoldable pub title_behind_id : Fields → Result (List ℕ) FieldFault
title_behind_id fields = do
  id ← number_at (codes "id") fields
  text_at (codes "title") fields

unfoldable pub first_of : CommandKind → Fields → Result (List ℕ) FieldFault
first_of kind.Insert fields = text_at (codes "title") fields
first_of kind.Update fields = title_behind_id fields
first_of kind.Trash fields = Err BadField
first_of kind.Untrash fields = Err BadField
first_of kind.Delete fields = Err BadField
first_of kind.SetOption fields = name_at (codes "name") fields
first_of kind.Activate fields = name_at (codes "plugin") fields
first_of kind.Deactivate fields = name_at (codes "plugin") fields
first_of kind.Tick fields = Err BadField
first_of kind.Profile fields = Err BadField
