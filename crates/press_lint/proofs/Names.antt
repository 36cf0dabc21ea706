-- Names are ASCII.
use Rattle.std.proofs.Common.{◌≡◌, ◌<◌, true, ℕ, List, [], ◌∷◌, arith}
use Rattle.std.specs.List.{list_all}
use Rattle.std.specs.Str.{IsAscii, IsUtf8}
use Rattle.std.proofs.lemmas.Bool.{and_parts}
use Rattle.std.proofs.lemmas.Bool.Decides.{nat_tests}
use Rattle.std.proofs.lemmas.Str.{IsUtf8-from_ascii}
use Rattle.std.proofs.lemmas.Str.Ascii.{IsAscii-cons, IsAscii-nil}
use Rattle.press_text.specs.Names.{IsName, is_name_byte}

byte_is : (b : ℕ) → is_name_byte b ≡ true → b < 128
byte_is b e = grind (arith, nat_tests, e)

are_ascii : (bytes : List ℕ) → list_all is_name_byte bytes ≡ true → IsAscii bytes
are_ascii [] e = IsAscii-nil
are_ascii (b ∷ bs) e = let p = and_parts _ _ e in IsAscii-cons b bs (byte_is b p.0) (are_ascii bs p.1)

pub name_is_text : (most : ℕ) (bytes : List ℕ) → IsName most bytes → IsUtf8 bytes
name_is_text most bytes e = IsUtf8-from_ascii bytes (are_ascii bytes (and_parts _ _ e).1)
