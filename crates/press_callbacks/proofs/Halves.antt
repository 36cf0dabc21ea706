-- Names in their order: an insert keeps it, and a binary search finds the first of a name.
use Rattle.std.proofs.Common.{◌≡◌, refl, sym, ◌∙◌, ap, ℕ, zero, suc, ◌+◌, ◌<◌, ◌≤◌, Bool, true, false, not, cond, bytes_eq, List, [], ◌∷◌, length, get_or, Some, None, arith}
use Rattle.std.specs.Prelude.{option_map, insert, unwrap_or, nat_lt}
use Rattle.std.specs.List.{list_all, prefix_len, AllWithin}
use Rattle.std.specs.List.Sorted.{IsPartitionedBy}
use Rattle.std.proofs.lemmas.Bool.{ltb-false}
use Rattle.std.proofs.lemmas.List.Sums.{prefix_len-le-length}
use Rattle.std.proofs.lemmas.Slice.Eq.{bytes_eq-Decides}
use Rattle.press_text.specs.NameOrder.{is_before}
use Rattle.press_text.proofs.NameOrder.{weak, both, and, not_true, clash, differs, behind, all_at}
use Rattle.press_callbacks.specs.Order.{place_by_name, by_name, in_order, place_of}

-- ---- an insert keeps the order

all_weaker : {A : Type 0} (p q : A → Bool) → ((x : A) → p x ≡ true → q x ≡ true) → (xs : List A) → list_all p xs ≡ true → list_all q xs ≡ true
all_weaker p q h [] e = refl
all_weaker p q h (x ∷ xs) e =
    let b = both (p x) (list_all p xs) e in
    and (q x) (list_all q xs) (h x b.0) (all_weaker p q h xs b.1)

all_insert : {A : Type 0} (p : A → Bool) (x : A) (xs : List A) (i : ℕ) → list_all p xs ≡ true → p x ≡ true → list_all p (insert xs i x) ≡ true
all_insert p x [] zero e f = and (p x) true f refl
all_insert p x [] (suc i) e f = and (p x) true f refl
all_insert p x (y ∷ ys) zero e f = and (p x) (list_all p (y ∷ ys)) f e
all_insert p x (y ∷ ys) (suc i) e f =
    let b = both (p y) (list_all p ys) e in
    and (p y) (list_all p (insert ys i x)) b.0 (all_insert p x ys i b.1 f)

-- before the first of a later name
abbrev slot : {A : Type 0} (name : A → List ℕ) (x : A) → List A → ℕ
slot name x xs = prefix_len (λ y. not (is_before (name x) (name y))) xs

slotted : {A : Type 0} (name : A → List ℕ) (x y : A) (ys : List A) (n : ℕ) (b : Bool) → not (is_before (name x) (name y)) ≡ b → in_order name (y ∷ ys) ≡ true → in_order name (insert ys n x) ≡ true → in_order name (insert (y ∷ ys) (cond b (suc n) 0) x) ≡ true
slotted name x y ys n true e o k =
    let b = both (list_all (λ z. not (is_before (name z) (name y))) ys) (in_order name ys) o in
    and _ _ (all_insert (λ z. not (is_before (name z) (name y))) x ys n b.0 e) k
slotted name x y ys n false e o k =
    let b = both (list_all (λ z. not (is_before (name z) (name y))) ys) (in_order name ys) o in
    let first : is_before (name x) (name y) ≡ true = before (is_before (name x) (name y)) e in
    let not_back : is_before (name y) (name x) ≡ false = weak.one_way (name x) (name y) first in
    and _ _
    (and (not (is_before (name y) (name x))) _ (ap not not_back)
    (all_weaker (λ z. not (is_before (name z) (name y))) (λ z. not (is_before (name z) (name x)))
    (λ z h. ap not (weak.chain (name z) (name y) (name x) (not_true (is_before (name z) (name y)) h) not_back)) ys b.0))
    o
  where
    before : (b : Bool) → not b ≡ false → b ≡ true
    before true e = refl
    before false e = cc

in_order_insert : {A : Type 0} (name : A → List ℕ) (x : A) (xs : List A) → in_order name xs ≡ true → in_order name (insert xs (slot name x xs) x) ≡ true
in_order_insert name x [] o = refl
in_order_insert name x (y ∷ ys) o =
    let one : 1 + slot name x ys ≡ suc (slot name x ys) = omega arith in
    let b = both (list_all (λ z. not (is_before (name z) (name y))) ys) (in_order name ys) o in
    rw one (slotted name x y ys (slot name x ys) (not (is_before (name x) (name y))) refl o (in_order_insert name x ys b.1))

least : (n l : ℕ) (b : Bool) → b ≡ nat_lt n l → n ≤ l → unwrap_or (cond b (Some n) None) l ≡ n
least n l true e h = refl
least n l false e h = let past : l ≤ n = ltb-false n l (sym e) in omega arith

place_is : {A : Type 0} (name : A → List ℕ) (x : A) (xs : List A) → place_by_name name x xs ≡ slot name x xs
place_is name x xs = least (slot name x xs) (length xs) (nat_lt (slot name x xs) (length xs)) refl (prefix_len-le-length (λ y. not (is_before (name x) (name y))) xs)

pub in_order_by_name : {A : Type 0} (name : A → List ℕ) (xs : List A) → in_order name (by_name name xs) ≡ true
in_order_by_name name [] = refl
in_order_by_name name (x ∷ xs) =
    rw (place_is name x (by_name name xs)) (in_order_insert name x (by_name name xs) (in_order_by_name name xs))

-- ---- a binary search

earlier : (a b n : List ℕ) (c : Bool) → c ≡ is_before a n → is_before b a ≡ false → is_before b n ≡ true → is_before a n ≡ true
earlier a b n true e h t = sym e
earlier a b n false e h t = clash (is_before b n) t (weak.chain b a n h (sym e))

pub parted : {A : Type 0} (name : A → List ℕ) (n : List ℕ) (xs : List A) → in_order name xs ≡ true → IsPartitionedBy (λ y. is_before (name y) n) xs
parted name n [] o i j d le lt t = absurd (omega arith)
parted name n (x ∷ xs) o zero zero d le lt t = t
parted name n (x ∷ xs) o zero (suc j) d le lt t =
    let b = both (list_all (λ z. not (is_before (name z) (name x))) xs) (in_order name xs) o in
    let in' : j < length xs = omega arith in
    earlier (name x) (name (get_or xs j d)) n (is_before (name x) n) refl
    (not_true (is_before (name (get_or xs j d)) (name x)) (all_at (λ z. not (is_before (name z) (name x))) xs j d b.0 in')) t
parted name n (x ∷ xs) o (suc i) zero d le lt t = absurd (omega arith)
parted name n (x ∷ xs) o (suc i) (suc j) d le lt t =
    let b = both (list_all (λ z. not (is_before (name z) (name x))) xs) (in_order name xs) o in
    let le' : i ≤ j = omega arith in
    let lt' : j < length xs = omega arith in
    parted name n xs b.1 i j d le' lt' t

pub halved : {A : Type 0} (name : A → List ℕ) (n : List ℕ) (xs : List A) (i : ℕ) (x : A) → AllWithin (λ y. is_before (name y) n ≡ true) xs 0 i → i < length xs → x ≡ get_or xs i x → bytes_eq (name x) n ≡ true → place_of name n xs ≡ Some i
halved name n [] i x low h e t = absurd (omega arith)
halved name n (y ∷ ys) zero x low h e t = ap (λ b. cond b (Some 0) (option_map suc (place_of name n ys))) (ap (λ z. bytes_eq (name z) n) (sym e) ∙ t)
halved name n (y ∷ ys) (suc i) x low h e t =
    let lt : i < length ys = omega arith in
    let first : is_before (name y) n ≡ true = low 0 y (omega arith) (omega arith) in
    ap (λ b. cond b (Some 0) (option_map suc (place_of name n ys))) (differs (name y) n first)
    ∙ ap (option_map suc) (halved name n ys i x (λ k d a b. low (suc k) d (omega arith) (omega arith)) lt e t)

pub none_behind : {A : Type 0} (name : A → List ℕ) (n : List ℕ) (y : A) (zs : List A) → is_before n (name y) ≡ true → list_all (λ z. not (is_before (name z) (name y))) zs ≡ true → place_of name n zs ≡ None
none_behind name n y [] h a = refl
none_behind name n y (z ∷ zs) h a =
    let b = both (not (is_before (name z) (name y))) (list_all (λ w. not (is_before (name w) (name y))) zs) a in
    ap (λ c. cond c (Some 0) (option_map suc (place_of name n zs))) (unlike (bytes_eq (name z) n) refl b.0)
    ∙ ap (option_map suc) (none_behind name n y zs h b.1)
  where
    unlike : (c : Bool) → c ≡ bytes_eq (name z) n → not (is_before (name z) (name y)) ≡ true → bytes_eq (name z) n ≡ false
    unlike true e f = clash (is_before n (name y)) h (ap (λ w. is_before w (name y)) (sym ((bytes_eq-Decides (name z) n).0 (sym e))) ∙ not_true (is_before (name z) (name y)) f)
    unlike false e f = sym e

pub missed : {A : Type 0} (name : A → List ℕ) (n : List ℕ) (xs : List A) (i : ℕ) (d : A) → in_order name xs ≡ true → AllWithin (λ y. is_before (name y) n ≡ true) xs 0 i → AllWithin (λ y. is_before (name y) n ≡ false) xs i (length xs) → i < length xs → bytes_eq (name (get_or xs i d)) n ≡ false → place_of name n xs ≡ None
missed name n [] i d o low high lt t = refl
missed name n (y ∷ ys) zero d o low high lt t =
    let b = both (list_all (λ z. not (is_before (name z) (name y))) ys) (in_order name ys) o in
    let late : is_before (name y) n ≡ false = high 0 y (omega arith) (omega arith) in
    ap (λ c. cond c (Some 0) (option_map suc (place_of name n ys))) t
    ∙ ap (option_map suc) (none_behind name n y ys (behind (name y) n late t) b.0)
missed name n (y ∷ ys) (suc i) d o low high lt t =
    let b = both (list_all (λ z. not (is_before (name z) (name y))) ys) (in_order name ys) o in
    let first : is_before (name y) n ≡ true = low 0 y (omega arith) (omega arith) in
    let lt' : i < length ys = omega arith in
    ap (λ c. cond c (Some 0) (option_map suc (place_of name n ys))) (differs (name y) n first)
    ∙ ap (option_map suc) (missed name n ys i d b.1 (λ k e a h. low (suc k) e (omega arith) (omega arith)) (λ k e a h. high (suc k) e (omega arith) (omega arith)) lt' t)

pub all_before : {A : Type 0} (name : A → List ℕ) (n : List ℕ) (xs : List A) (i : ℕ) → AllWithin (λ y. is_before (name y) n ≡ true) xs 0 i → length xs ≤ i → place_of name n xs ≡ None
all_before name n [] i low le = refl
all_before name n (y ∷ ys) zero low le = absurd (omega arith)
all_before name n (y ∷ ys) (suc i) low le =
    let first : is_before (name y) n ≡ true = low 0 y (omega arith) (omega arith) in
    let le' : length ys ≤ i = omega arith in
    ap (λ c. cond c (Some 0) (option_map suc (place_of name n ys))) (differs (name y) n first)
    ∙ ap (option_map suc) (all_before name n ys i (λ k e a h. low (suc k) e (omega arith) (omega arith)) le')
