-- The hooks of an option's name are names of hooks.
use Rattle.std.proofs.Common.{◌≡◌, refl, ◌∙◌, ap, ℕ, ◌<◌, ◌≤◌, Bool, true, false, List, ◌++◌, length, Some, None, arith, codes}
use Rattle.std.specs.Prelude.{◌&&◌, nat_lt, nat_le, ◌==◌, if◌then◌else◌}
use Rattle.std.specs.List.{list_all}
use Rattle.std.proofs.lemmas.Bool.{and_parts, leb-true, le-ltb, ne_eqb}
use Rattle.std.proofs.lemmas.List.{length-append}
use Rattle.std.proofs.lemmas.List.Folds.{list_all-append}
use Rattle.press_text.specs.declared.name_fault.NameFault.TheVariants.{BadName, TooLong}
use Rattle.press_text.specs.Names.{IsName, is_name_byte, name_fault}
use Rattle.press_site.specs.Options.{option_add_name, option_update_name}

chosen : (empty long all : Bool) → empty ≡ false → long ≡ false → all ≡ true → (if empty then Some BadName else (if long then Some TooLong else (if all then None else Some BadName))) ≡ None
chosen empty long all e l a = rw (e, l, a) refl

fits : (front name : List ℕ) → 0 < length front → length front ≤ 32 → list_all is_name_byte front ≡ true → IsName 32 name → name_fault 64 (front ++ name) ≡ None
fits front name some short all is =
    let p = and_parts (nat_lt 0 (length name) && nat_le (length name) 32) (list_all is_name_byte name) is in
    let within : length name ≤ 32 = leb-true (length name) 32 (and_parts (nat_lt 0 (length name)) (nat_le (length name) 32) p.0).1 in
    let both = length-append front name in
    chosen (length (front ++ name) == 0) (nat_lt 64 (length (front ++ name))) (list_all is_name_byte (front ++ name))
    (ne_eqb (length (front ++ name)) 0 (λ z. omega arith))
    (le-ltb 64 (length (front ++ name)) (omega arith))
    (list_all-append is_name_byte front name ∙ ap (λ b. b && list_all is_name_byte name) all ∙ p.1)

pub updated_fits : (name : List ℕ) → IsName 32 name → name_fault 64 (option_update_name name) ≡ None
updated_fits name is = fits (codes "update_option_") name (omega arith) (omega arith) refl is

pub added_fits : (name : List ℕ) → IsName 32 name → name_fault 64 (option_add_name name) ≡ None
added_fits name is = fits (codes "add_option_") name (omega arith) (omega arith) refl is
