-- A name is ASCII, so its bytes are a text.
use Rattle.std.proofs.Common.{◌≡◌, ℕ, zero, suc, ◌<◌, Bool, true, false, cond, eqb, ltb, length, List, [], ◌∷◌, Some, None, Ok, Err, arith, refl}
use Rattle.std.specs.List.{list_all}
use Rattle.std.specs.Str.{IsUtf8, IsAscii, is_utf8}
use Rattle.std.proofs.lemmas.Str.{IsUtf8-from_ascii, IsUtf8-from_is_utf8, is_utf8-from_IsUtf8}
use Rattle.std.proofs.lemmas.Bool.Decides.{nat_tests}
use Rattle.std.proofs.lemmas.Bool.{and_parts}
use Rattle.press_text.specs.Names.{is_name_byte, is_name, name_fault}
use Rattle.press_text.specs.declared.name_fault.NameFault.{NameFault}
use Rattle.press_text.specs.declared.name_fault.NameFault.TheVariants.{BadName, TooLong}
use Rattle.press_wire.specs.declared.fault.WireFault.TheVariants.{BadField}
use Rattle.press_wire.specs.Fields.{name_at, short_at}
use Rattle.press_wire.specs.Ranges.{only}

low : (b : ℕ) → is_name_byte b ≡ true → b < 128
low b e = grind (arith, nat_tests)

are_low : (bytes : List ℕ) → list_all is_name_byte bytes ≡ true → IsAscii bytes
are_low [] e i = omega arith
are_low (b ∷ bytes) e zero = low b (and_parts _ _ e).0
are_low (b ∷ bytes) e (suc i) = are_low bytes (and_parts _ _ e).1 i

pub is_text : (bytes : List ℕ) → IsUtf8 bytes → only is_utf8 bytes ≡ Some bytes
is_text bytes u = rw (is_utf8-from_IsUtf8 bytes u) refl

none : (b : Bool) (bytes : List ℕ) → (b ≡ true → ⊥) → cond b (Some bytes) None ≡ None
none true bytes h = absurd (h refl)
none false bytes h = refl

pub is_no_text : (bytes : List ℕ) → (IsUtf8 bytes → ⊥) → only is_utf8 bytes ≡ None
is_no_text bytes h = none (is_utf8 bytes) bytes (λ t. h (IsUtf8-from_is_utf8 bytes t))

-- bytes that are no text are no name
pub names_are_texts : (bytes : List ℕ) → only is_utf8 bytes ≡ None → only (is_name 32) bytes ≡ None
names_are_texts bytes e = none (is_name 32 bytes) bytes (λ named.
    let ascii : IsAscii bytes = are_low bytes (and_parts _ _ named).1 in
    let text : only is_utf8 bytes ≡ Some bytes = is_text bytes (IsUtf8-from_ascii bytes ascii) in
    absurd cc)

parts : (a b c : Bool) → cond a (Some BadName) (cond b (Some TooLong) (cond c None (Some BadName))) ≡ None → (a ≡ false) × (b ≡ false) × (c ≡ true)
parts true b c e = absurd cc
parts false true c e = absurd cc
parts false false true e = (refl, refl, refl)
parts false false false e = absurd cc

pub is_named : (bytes : List ℕ) → name_fault 32 bytes ≡ None → only (is_name 32) bytes ≡ Some bytes
is_named bytes e =
    let p = parts (eqb (length bytes) 0) (ltb 32 (length bytes)) (list_all is_name_byte bytes) e in
    let named : is_name 32 bytes ≡ true = grind (arith, nat_tests) in
    rw named refl

named_well : (bytes : List ℕ) → is_name 32 bytes ≡ true → name_fault 32 bytes ≡ None
named_well bytes named =
    let some : eqb (length bytes) 0 ≡ false = grind (arith, nat_tests) in
    let few : ltb 32 (length bytes) ≡ false = grind (arith, nat_tests) in
    let all : list_all is_name_byte bytes ≡ true = (and_parts _ _ named).1 in
    rw (some, few, all) refl

pub has_no_name : (bytes : List ℕ) (fault : NameFault) → name_fault 32 bytes ≡ Some fault → only (is_name 32) bytes ≡ None
has_no_name bytes fault e = none (is_name 32 bytes) bytes (λ named. let well : name_fault 32 bytes ≡ None = named_well bytes named in absurd cc)

-- a name whose bytes are no text
pub no_name : (bytes front rest : List ℕ) → short_at bytes ≡ Ok (front, rest) → only is_utf8 front ≡ None → name_at bytes ≡ Err BadField
unfolding name_at
no_name bytes front rest read text = rw (read, names_are_texts front text) refl

pub text_is_utf8 : (bytes : List ℕ) → IsUtf8 bytes → is_utf8 bytes ≡ true
text_is_utf8 bytes u = is_utf8-from_IsUtf8 bytes u
