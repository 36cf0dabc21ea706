-- The members of a group, as its map has them.
use Rattle.std.proofs.Common.{◌≡◌, refl, sym, ◌∙◌, ap, subst, true≢false, ℕ, Bool, true, false, cond, not, ◌||◌, bytes_eq, List, [], ◌∷◌, map, filter, is_some, Option, None, Some}
use Rattle.std.specs.List.{list_any, IsDistinct, AllByRecursion}
use Rattle.std.specs.Map.{keys_of, lookup, set_value, remove_entry}
use Rattle.std.specs.Cmp.Lexicographic.{nat_list_eq_equiv, bytes_decides}
use Rattle.press_hooks.specs.declared.group_entry.GroupEntry.{GroupEntry}
use Rattle.press_hooks.specs.GroupEntries.{accepted_if, is_group_entry_of}
use Rattle.press_hooks.specs.Keys.{group_entry_in, group_entries_in}

turned : (a b : List ℕ) (x : Bool) → bytes_eq a b ≡ x → bytes_eq b a ≡ x
turned a b x e = nat_list_eq_equiv.symm b a ∙ e

-- no key is that callback
abbrev IsWithout : List ℕ → List (List ℕ × ℕ) → Type 0
IsWithout c es = AllByRecursion (λ y. bytes_eq c y ≡ false) (keys_of es)

-- ---- whether a callback is there

has_step : (x : Bool) (o : Option ℕ) (v : ℕ) (later : Bool) → is_some o ≡ later → is_some (cond x (Some v) o) ≡ x || later
has_step true o v later e = refl
has_step false o v later e = e

pub has_member : (c : List ℕ) (es : List (List ℕ × ℕ)) → is_some (lookup (bytes_eq c) es) ≡ list_any (λ m. bytes_eq m.callback c) (group_entries_in es)
has_member c [] = refl
has_member c (e ∷ es) =
    has_step (bytes_eq c e.0) (lookup (bytes_eq c) es) e.1 (list_any (λ m. bytes_eq m.callback c) (group_entries_in es)) (has_member c es)
    ∙ ap (λ b. b || list_any (λ m. bytes_eq m.callback c) (group_entries_in es)) (nat_list_eq_equiv.symm c e.0)

none_of : (o : Option ℕ) → is_some o ≡ false → o ≡ None
none_of None e = refl
none_of (Some x) e = absurd (true≢false e)

pub absent : (c : List ℕ) (es : List (List ℕ × ℕ)) → list_any (λ m. bytes_eq m.callback c) (group_entries_in es) ≡ false → lookup (bytes_eq c) es ≡ None
absent c es e = none_of (lookup (bytes_eq c) es) (has_member c es ∙ e)

none_step : (x : Bool) (o : Option ℕ) (v : ℕ) → cond x (Some v) o ≡ None → (x ≡ false) × (o ≡ None)
none_step true o v e = absurd (true≢false (ap is_some e))
none_step false o v e = (refl, e)

none_there : (c : List ℕ) (es : List (List ℕ × ℕ)) → lookup (bytes_eq c) es ≡ None → IsWithout c es
none_there c [] e = tt
none_there c (x ∷ es) e = let one = none_step (bytes_eq c x.0) (lookup (bytes_eq c) es) x.1 e in (one.0, none_there c es one.1)

-- the others have other keys than the one that is that callback
others : (c k : List ℕ) (es : List (List ℕ × ℕ)) → bytes_eq c k ≡ true → IsWithout k es → IsWithout c es
others c k es e w = subst (λ n. IsWithout n es) (sym ((bytes_decides c k).0 e)) w

-- ---- `accepted` set

unchanged : (c : List ℕ) (n : ℕ) (es : List (List ℕ × ℕ)) → IsWithout c es → map (accepted_if c n) (group_entries_in es) ≡ group_entries_in es
unchanged c n [] w = refl
unchanged c n (e ∷ es) w = λ i. cond (turned c e.0 false w.0 i) (record { callback = e.0; accepted = n }) (group_entry_in e) ∷ unchanged c n es w.1 i

pub not_accepted : (c : List ℕ) (n : ℕ) (es : List (List ℕ × ℕ)) → lookup (bytes_eq c) es ≡ None → group_entries_in es ≡ map (accepted_if c n) (group_entries_in es)
not_accepted c n es e = sym (unchanged c n es (none_there c es e))

set_step : (x : Bool) (c : List ℕ) (n : ℕ) (e : List ℕ × ℕ) (es changed : List (List ℕ × ℕ)) → bytes_eq c e.0 ≡ x → IsWithout e.0 es → group_entries_in changed ≡ map (accepted_if c n) (group_entries_in es)
    → group_entries_in (cond x ((e.0, n) ∷ es) (e ∷ changed)) ≡ map (accepted_if c n) (group_entries_in (e ∷ es))
set_step true c n e es changed x w more = sym (λ i. cond (turned c e.0 true x i) (record { callback = e.0; accepted = n }) (group_entry_in e) ∷ unchanged c n es (others c e.0 es x w) i)
set_step false c n e es changed x w more = sym (λ i. cond (turned c e.0 false x i) (record { callback = e.0; accepted = n }) (group_entry_in e) ∷ sym more i)

pub accepted_set : (c : List ℕ) (n : ℕ) (es : List (List ℕ × ℕ)) → IsDistinct bytes_eq (keys_of es) → group_entries_in (set_value (bytes_eq c) es n) ≡ map (accepted_if c n) (group_entries_in es)
unfolding IsDistinct
accepted_set c n [] d = refl
accepted_set c n (e ∷ es) d = set_step (bytes_eq c e.0) c n e es (set_value (bytes_eq c) es n) refl d.0 (accepted_set c n es d.1)

-- ---- one taken out

abbrev others_than : List ℕ → List GroupEntry → List GroupEntry
others_than c ms = filter (λ m. not (bytes_eq m.callback c)) ms

all_stay : (c : List ℕ) (es : List (List ℕ × ℕ)) → IsWithout c es → others_than c (group_entries_in es) ≡ group_entries_in es
all_stay c [] w = refl
all_stay c (e ∷ es) w = λ i. cond (not (turned c e.0 false w.0 i)) (group_entry_in e ∷ all_stay c es w.1 i) (others_than c (group_entries_in es))

remove_step : (x : Bool) (c : List ℕ) (e : List ℕ × ℕ) (es left : List (List ℕ × ℕ)) → bytes_eq c e.0 ≡ x → IsWithout e.0 es → group_entries_in left ≡ others_than c (group_entries_in es)
    → group_entries_in (cond x es (e ∷ left)) ≡ others_than c (group_entries_in (e ∷ es))
remove_step true c e es left x w more = sym (ap (λ b. cond (not b) (group_entry_in e ∷ others_than c (group_entries_in es)) (others_than c (group_entries_in es))) (turned c e.0 true x) ∙ all_stay c es (others c e.0 es x w))
remove_step false c e es left x w more = sym (ap (λ b. cond (not b) (group_entry_in e ∷ others_than c (group_entries_in es)) (others_than c (group_entries_in es))) (turned c e.0 false x) ∙ ap (λ ms. group_entry_in e ∷ ms) (sym more))

pub removed_one : (c : List ℕ) (es : List (List ℕ × ℕ)) → IsDistinct bytes_eq (keys_of es) → group_entries_in (remove_entry (bytes_eq c) es) ≡ others_than c (group_entries_in es)
unfolding IsDistinct
removed_one c [] d = refl
removed_one c (e ∷ es) d = remove_step (bytes_eq c e.0) c e es (remove_entry (bytes_eq c) es) refl d.0 (removed_one c es d.1)

pub none_left : (ms : List GroupEntry) → filter (λ m. not (is_group_entry_of None m)) ms ≡ []
none_left [] = refl
none_left (m ∷ ms) = none_left ms
