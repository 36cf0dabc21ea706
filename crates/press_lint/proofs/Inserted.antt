-- What a set has once a name is put into it.
use Rattle.std.proofs.Common.{◌≡◌, refl, sym, ◌∙◌, ap, ℕ, Bool, true, false, bytes_eq, List, [], ◌∷◌, Bor}
use Rattle.std.specs.Prelude.{◌||◌}
use Rattle.std.specs.List.{list_any}
use Rattle.std.specs.BTreeMap.{is_at}
use Rattle.std.specs.BTreeSet.{insert_key}
use Rattle.std.specs.Cmp.Lexicographic.{slice_cmp}
use Rattle.std.specs.Ordering.{nat_cmp, is_eq, match_ordering}
use Rattle.std.specs.declared.cmp.Ordering.{Ordering}
use Rattle.std.specs.declared.cmp.Ordering.TheVariants.{Less, Equal, Greater}
use Rattle.std.proofs.lemmas.Map.Text.{is_eq-slice_cmp}
use Rattle.std.proofs.lemmas.Slice.Eq.{bytes_eq-Decides}

abbrev pub by_name : {K : Type 0} → (K → List ℕ) → K → K → Ordering
by_name name x y = slice_cmp nat_cmp (name x) (name y)

abbrev pub by_bytes : Bor (List ℕ) → Bor (List ℕ) → Ordering
by_bytes x y = slice_cmp nat_cmp x.now y.now

-- whether a name is among keys
abbrev among : {K : Type 0} → (K → List ℕ) → List ℕ → List K → Bool
among name q ks = list_any (is_at (λ k. slice_cmp nat_cmp q (name k))) ks

flip : (a b : List ℕ) → bytes_eq a b ≡ bytes_eq b a
flip a b = alike (bytes_eq a b) (bytes_eq b a) refl refl
  where
    alike : (p q : Bool) → p ≡ bytes_eq a b → q ≡ bytes_eq b a → p ≡ q
    alike true q e f = sym (f ∙ (bytes_eq-Decides b a).1 (sym ((bytes_eq-Decides a b).0 (sym e))))
    alike false true e f = e ∙ (bytes_eq-Decides a b).1 (sym ((bytes_eq-Decides b a).0 (sym f)))
    alike false false e f = refl

named_here : (q n : List ℕ) → is_eq (slice_cmp nat_cmp q n) ≡ bytes_eq n q
named_here q n = is_eq-slice_cmp q n ∙ flip q n

pub here : (q : List ℕ) (k : Bor (List ℕ)) → is_eq (slice_cmp nat_cmp q k.now) ≡ bytes_eq k.now q
here q k = named_here q k.now

twice : (a b : Bool) → (a || b) ≡ (a || (a || b))
twice true b = refl
twice false b = refl

other_first : (a b c : Bool) → (a || (b || c)) ≡ (b || (a || c))
other_first true true c = refl
other_first true false c = refl
other_first false b c = refl

same_name : (m n : List ℕ) → is_eq (slice_cmp nat_cmp m n) ≡ true → m ≡ n
same_name m n e = (bytes_eq-Decides m n).0 (sym (is_eq-slice_cmp m n) ∙ e)

pub same_key : (k x : Bor (List ℕ)) → is_eq (slice_cmp nat_cmp k.now x.now) ≡ true → k.now ≡ x.now
same_key k x e = same_name k.now x.now e

pub inserted : {K : Type 0} (name : K → List ℕ) (q : List ℕ) (k : K) (ks : List K) → among name q (insert_key (by_name name) ks k) ≡ (bytes_eq (name k) q || among name q ks)
inserted name q k [] = ap (λ b. b || false) (named_here q (name k))
inserted {K} name q k (x ∷ xs) = go (slice_cmp nat_cmp (name k) (name x)) refl (inserted name q k xs)
  where
    go : (o : Ordering) → o ≡ slice_cmp nat_cmp (name k) (name x) → among name q (insert_key (by_name name) xs k) ≡ (bytes_eq (name k) q || among name q xs) → among name q (match_ordering o (k ∷ x ∷ xs) (x ∷ xs) (x ∷ insert_key (by_name name) xs k)) ≡ (bytes_eq (name k) q || among name q (x ∷ xs))
    go Less e r = ap (λ b. b || among name q (x ∷ xs)) (named_here q (name k))
    go Equal e r =
        let known : is_eq (slice_cmp nat_cmp q (name x)) ≡ bytes_eq (name k) q = named_here q (name x) ∙ ap (λ w. bytes_eq w q) (sym (same_name (name k) (name x) (ap is_eq (sym e)))) in
        ap (λ b. b || among name q xs) known ∙ twice (bytes_eq (name k) q) (among name q xs) ∙ ap (λ b. bytes_eq (name k) q || (b || among name q xs)) (sym known)
    go Greater e r =
        ap (λ b. is_eq (slice_cmp nat_cmp q (name x)) || b) r ∙ other_first (is_eq (slice_cmp nat_cmp q (name x))) (bytes_eq (name k) q) (among name q xs)
