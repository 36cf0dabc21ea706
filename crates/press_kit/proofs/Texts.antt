-- Bytes that are not UTF-8 are no JSON.
use Rattle.std.proofs.Common.{◌≡◌, ℕ, Bool, true, false, cond, List, Option, Some, None, Ok, Err, refl, ap}
use Rattle.std.specs.Str.{IsUtf8, is_utf8}
use Rattle.std.proofs.lemmas.Str.{IsUtf8-from_is_utf8, is_utf8-from_IsUtf8}
use Rattle.serde_json.specs.Data.{Data}
use Rattle.serde_json.specs.Read.{read}
use Rattle.press_kit.specs.declared.place.Place.{Place}
use Rattle.press_kit.specs.Fields.{or_bad}
use Rattle.press_kit.specs.KitFile.{json_in}

pub is_json : (at : Place) (bytes : List ℕ) (d : Data) → IsUtf8 bytes → read bytes ≡ Some d → or_bad at (json_in bytes) ≡ Ok d
is_json at bytes d u e = rw (is_utf8-from_IsUtf8 bytes u, e) refl

chosen : (b : Bool) (r : Option Data) → (b ≡ true → r ≡ None) → cond b r None ≡ None
chosen true r h = h refl
chosen false r h = refl

pub no_json : (at : Place) (bytes : List ℕ) → (IsUtf8 bytes → read bytes ≡ None) → or_bad at (json_in bytes) ≡ Err at
no_json at bytes h = ap (or_bad at) (chosen (is_utf8 bytes) (read bytes) (λ t. h (IsUtf8-from_is_utf8 bytes t)))
