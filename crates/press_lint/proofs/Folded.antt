-- What is counted beside a name, as a loop counts it.
use Rattle.std.proofs.Common.{◌≡◌, refl, sym, ◌∙◌, ap, ℕ, ◌+◌, ◌<◌, Bool, true, false, cond, bytes_eq, List, [], ◌∷◌, length, get_or, take, Option, Some, None, Bor}
use Rattle.std.specs.Prelude.{fold}
use Rattle.std.specs.BTreeMap.{insert_entry, is_at}
use Rattle.std.specs.Map.{lookup}
use Rattle.std.specs.Cmp.Lexicographic.{slice_cmp}
use Rattle.std.specs.Ordering.{nat_cmp, is_eq, match_ordering}
use Rattle.std.specs.declared.cmp.Ordering.{Ordering}
use Rattle.std.specs.declared.cmp.Ordering.TheVariants.{Less, Equal, Greater}
use Rattle.std.proofs.lemmas.List.Sums.{fold_more}
use Rattle.std.proofs.lemmas.Map.Text.{is_eq-slice_cmp}
use Rattle.std.proofs.lemmas.Slice.Eq.{bytes_eq-Decides}
use Rattle.press_lint.specs.Accepts.{greater}
use Rattle.press_lint.proofs.Inserted.{by_bytes, here, same_key}

-- one more item of a list
pub folded : {A : Type 0} (f : Option ℕ → A → Option ℕ) (xs : List A) (i : ℕ) (x : A) (first old new : Option ℕ) → i < length xs → x ≡ get_or xs i x
    → old ≡ fold f first (take i xs) → new ≡ f old x → new ≡ fold f first (take (i + 1) xs)
folded f xs i x first old new lt at before after =
    after ∙ ap (λ (o : Option ℕ). f o x) before ∙ ap (λ y. f (fold f first (take i xs)) y) at ∙ sym (fold_more f first xs i x lt)

abbrev count : List ℕ → List (Bor (List ℕ) × ℕ) → Option ℕ
count q es = lookup (is_at (λ k. slice_cmp nat_cmp q k.now)) es

over : (a : Bool) (v w o : Option ℕ) → cond a v o ≡ cond a v (cond a w o)
over true v w o = refl
over false v w o = refl

turned : (a b : Bool) (v w o : Option ℕ) → (b ≡ true → a ≡ false) → cond b w (cond a v o) ≡ cond a v (cond b w o)
turned true true v w o e = absurd (cc (e refl))
turned true false v w o e = refl
turned false true v w o e = refl
turned false false v w o e = refl

pub counted : (q : List ℕ) (k : Bor (List ℕ)) (v : ℕ) (es : List (Bor (List ℕ) × ℕ)) → count q (insert_entry by_bytes es k v) ≡ cond (bytes_eq k.now q) (Some v) (count q es)
counted q k v [] = ap (λ (b : Bool). cond b (Some v) None) (here q k)
counted q k v (x ∷ xs) = go (slice_cmp nat_cmp k.now x.0.now) refl (counted q k v xs)
  where
    go : (o : Ordering) → o ≡ slice_cmp nat_cmp k.now x.0.now → count q (insert_entry by_bytes xs k v) ≡ cond (bytes_eq k.now q) (Some v) (count q xs)
        → count q (match_ordering o ((k, v) ∷ x ∷ xs) ((x.0, v) ∷ xs) (x ∷ insert_entry by_bytes xs k v)) ≡ cond (bytes_eq k.now q) (Some v) (count q (x ∷ xs))
    go Less e r = ap (λ (b : Bool). cond b (Some v) (count q (x ∷ xs))) (here q k)
    go Equal e r =
        let known : is_eq (slice_cmp nat_cmp q x.0.now) ≡ bytes_eq k.now q = here q x.0 ∙ ap (λ w. bytes_eq w q) (sym (same_key k x.0 (ap is_eq (sym e)))) in
        ap (λ (b : Bool). cond b (Some v) (count q xs)) known ∙ over (bytes_eq k.now q) (Some v) (Some x.1) (count q xs)
        ∙ ap (λ (b : Bool). cond (bytes_eq k.now q) (Some v) (cond b (Some x.1) (count q xs))) (sym known)
    go Greater e r =
        let other : is_eq (slice_cmp nat_cmp q x.0.now) ≡ true → bytes_eq k.now q ≡ false =
        λ same. ap (bytes_eq k.now) (sym ((bytes_eq-Decides x.0.now q).0 (sym (here q x.0) ∙ same))) ∙ sym (is_eq-slice_cmp k.now x.0.now) ∙ ap is_eq (sym e) in
        ap (λ (o : Option ℕ). cond (is_eq (slice_cmp nat_cmp q x.0.now)) (Some x.1) o) r
        ∙ turned (bytes_eq k.now q) (is_eq (slice_cmp nat_cmp q x.0.now)) (Some v) (Some x.1) (count q xs) other

-- what is kept is by the name that was found
pub same_count : (q k : List ℕ) (n : ℕ) (known : List ℕ → Option ℕ) → cond (bytes_eq k q) (Some (greater (known k) n)) (known q) ≡ cond (bytes_eq k q) (Some (greater (known q) n)) (known q)
same_count q k n known = go (bytes_eq k q) refl
  where
    go : (b : Bool) → b ≡ bytes_eq k q → cond b (Some (greater (known k) n)) (known q) ≡ cond b (Some (greater (known q) n)) (known q)
    go true e = ap (λ (w : List ℕ). Some (greater (known w) n)) ((bytes_eq-Decides k q).0 (sym e))
    go false e = refl
