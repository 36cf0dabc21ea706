-- Entries of a map by texts, read by the bytes of their names.
use Rattle.std.proofs.Common.{◌≡◌, refl, ap, ℕ, cond, List, [], ◌∷◌, Some}
use Rattle.std.specs.Prelude.{String, string_bytes}
use Rattle.std.specs.BTreeMap.{insert_entry, is_at}
use Rattle.std.specs.Cmp.Lexicographic.{slice_cmp}
use Rattle.std.specs.Map.{lookup}
use Rattle.std.specs.Ordering.{nat_cmp, match_ordering}
use Rattle.std.specs.String.{string_cmp}
use Rattle.std.specs.declared.cmp.Ordering.{Ordering}
use Rattle.std.specs.declared.cmp.Ordering.TheVariants.{Less, Equal, Greater}
use Rattle.press_site.specs.Options.{by_bytes, option_of, put_option}

pub found : {S : Type 0} (name : List ℕ) (es : List (String S × List ℕ)) → lookup (is_at (λ (k : String S). slice_cmp nat_cmp name (string_bytes k))) es ≡ option_of name (by_bytes es)
found name [] = refl
found name (e ∷ es) = ap (cond (is_at (slice_cmp nat_cmp name) (string_bytes e.0)) (Some e.1)) (found name es)

placed : {S : Type 0} (o : Ordering) (e : String S × List ℕ) (es before here : List (String S × List ℕ)) (name value : List ℕ) (rest : List (String S × List ℕ)) → by_bytes rest ≡ put_option name value (by_bytes es) → by_bytes (match_ordering o before here (e ∷ rest)) ≡ match_ordering o (by_bytes before) (by_bytes here) ((string_bytes e.0, e.1) ∷ put_option name value (by_bytes es))
placed Less e es before here name value rest h = refl
placed Equal e es before here name value rest h = refl
placed Greater e es before here name value rest h = ap (λ xs. (string_bytes e.0, e.1) ∷ xs) h

pub put : {S : Type 0} (es : List (String S × List ℕ)) (name : String S) (value : List ℕ) → by_bytes (insert_entry string_cmp es name value) ≡ put_option (string_bytes name) value (by_bytes es)
put [] name value = refl
put (e ∷ es) name value = placed (string_cmp name e.0) e es ((name, value) ∷ e ∷ es) ((e.0, value) ∷ es) (string_bytes name) value (insert_entry string_cmp es name value) (put es name value)
