-- Active names in their order: a binary search finds where a name belongs, and whether it is there; a change keeps the order.
use Rattle.std.proofs.Common.{◌≡◌, refl, sym, ◌∙◌, ap, ℕ, zero, suc, ◌+◌, ◌-◌, ◌<◌, ◌≤◌, Bool, true, false, not, cond, bytes_eq, List, [], ◌∷◌, length, get_or, Some, None, arith}
use Rattle.std.specs.Prelude.{◌||◌, insert, filter, unwrap_or, nat_lt}
use Rattle.std.specs.List.{list_all, prefix_len, AllWithin}
use Rattle.std.specs.List.Sorted.{IsPartitionedBy}
use Rattle.std.proofs.lemmas.Bool.{ltb-false}
use Rattle.std.proofs.lemmas.List.Sums.{prefix_len-le-length}
use Rattle.std.proofs.lemmas.Slice.Eq.{bytes_eq-Decides}
use Rattle.press_text.specs.NameOrder.{is_before}
use Rattle.press_text.proofs.NameOrder.{weak, both, and, not_true, clash, differs, behind, all_at}
use Rattle.press_site.specs.Plugins.{place_in, is_active, without}
use Rattle.press_site.specs.InOrder.{in_order}

-- ---- where a name belongs

-- what doesn't stand behind a name, along names
abbrev pub not_behind : List ℕ → List ℕ → Bool
not_behind name n = not (is_before name n)

earlier : (a b name : List ℕ) → is_before b a ≡ false → not_behind name b ≡ true → not_behind name a ≡ true
earlier a b name h e = ap not (weak.chain name b a (not_true (is_before name b) e) h)

pub parted : (name : List ℕ) (ns : List (List ℕ)) → in_order ns ≡ true → IsPartitionedBy (not_behind name) ns
parted name [] o i j d le lt t = absurd (omega arith)
parted name (n ∷ ns) o zero zero d le lt t = t
parted name (n ∷ ns) o zero (suc j) d le lt t =
    let b = both (list_all (λ m. not (is_before m n)) ns) (in_order ns) o in
    let in' : j < length ns = omega arith in
    earlier n (get_or ns j d) name (not_true (is_before (get_or ns j d) n) (all_at (λ m. not (is_before m n)) ns j d b.0 in')) t
parted name (n ∷ ns) o (suc i) zero d le lt t = absurd (omega arith)
parted name (n ∷ ns) o (suc i) (suc j) d le lt t =
    let b = both (list_all (λ m. not (is_before m n)) ns) (in_order ns) o in
    let le' : i ≤ j = omega arith in
    let lt' : j < length ns = omega arith in
    parted name ns b.1 i j d le' lt' t

fronted : {A : Type 0} (p : A → Bool) (xs : List A) (i : ℕ) → AllWithin (λ y. p y ≡ true) xs 0 i → AllWithin (λ y. p y ≡ false) xs i (length xs) → i ≤ length xs → prefix_len p xs ≡ i
fronted p [] i low high le = omega (arith, le)
fronted p (x ∷ xs) zero low high le = ap (λ b. cond b (1 + prefix_len p xs) 0) (high 0 x (omega arith) (omega arith))
fronted p (x ∷ xs) (suc i) low high le =
    let rest = fronted p xs i (λ k d a b. low (suc k) d (omega arith) (omega arith)) (λ k d a b. high (suc k) d (omega arith) (omega arith)) (omega arith) in
    ap (λ b. cond b (1 + prefix_len p xs) 0) (low 0 x (omega arith) (omega arith)) ∙ omega (arith, rest)

least : (n l : ℕ) (b : Bool) → b ≡ nat_lt n l → n ≤ l → unwrap_or (cond b (Some n) None) l ≡ n
least n l true e h = refl
least n l false e h = let past : l ≤ n = ltb-false n l (sym e) in omega arith

slot_is : (name : List ℕ) (ns : List (List ℕ)) → place_in name ns ≡ prefix_len (not_behind name) ns
slot_is name ns = least (prefix_len (not_behind name) ns) (length ns) (nat_lt (prefix_len (not_behind name) ns) (length ns)) refl (prefix_len-le-length (not_behind name) ns)

pub placed : (name : List ℕ) (ns : List (List ℕ)) (i : ℕ) → AllWithin (λ n. not_behind name n ≡ true) ns 0 i → AllWithin (λ n. not_behind name n ≡ false) ns i (length ns) → i ≤ length ns → i ≡ place_in name ns
placed name ns i low high le = sym (slot_is name ns ∙ fronted (not_behind name) ns i low high le)

-- ---- whether it is there

flip : (a b : List ℕ) → bytes_eq a b ≡ bytes_eq b a
flip a b = alike (bytes_eq a b) (bytes_eq b a) refl refl
  where
    alike : (p q : Bool) → p ≡ bytes_eq a b → q ≡ bytes_eq b a → p ≡ q
    alike true q e f = sym (f ∙ (bytes_eq-Decides b a).1 (sym ((bytes_eq-Decides a b).0 (sym e))))
    alike false true e f = e ∙ (bytes_eq-Decides a b).1 (sym ((bytes_eq-Decides b a).0 (sym f)))
    alike false false e f = refl

or_false : (a b : Bool) → a ≡ false → b ≡ false → (a || b) ≡ false
or_false a b e f = rw (e, f) refl

not_false : (b : Bool) → not b ≡ false → b ≡ true
not_false true e = refl
not_false false e = cc

-- all names stand behind
pub none_before : (name : List ℕ) (ns : List (List ℕ)) → AllWithin (λ n. not_behind name n ≡ false) ns 0 (length ns) → is_active name ns ≡ false
none_before name [] high = refl
none_before name (n ∷ ns) high =
    or_false (bytes_eq name n) (is_active name ns)
    (differs name n (not_false (is_before name n) (high 0 n (omega arith) (omega arith))))
    (none_before name ns (λ k d a b. high (suc k) d (omega arith) (omega arith)))

-- a name with a later one that isn't behind it has that one's place, where it is the same
unlike : (name n m : List ℕ) → is_before m n ≡ false → not_behind name m ≡ true → bytes_eq m name ≡ false → bytes_eq name n ≡ false
unlike name n m late e f = go (bytes_eq name n) refl
  where
    go : (b : Bool) → b ≡ bytes_eq name n → b ≡ false
    go false k = refl
    go true k =
        let same : name ≡ n = (bytes_eq-Decides name n).0 (sym k) in
        clash (is_before name m) (behind m name (ap (is_before m) same ∙ late) f) (not_true (is_before name m) e)

-- the last that doesn't stand behind has another name
pub not_there : (name : List ℕ) (ns : List (List ℕ)) (i : ℕ) (d : List ℕ) → in_order ns ≡ true → AllWithin (λ n. not_behind name n ≡ true) ns 0 (suc i) → AllWithin (λ n. not_behind name n ≡ false) ns (suc i) (length ns) → i < length ns → bytes_eq (get_or ns i d) name ≡ false → is_active name ns ≡ false
not_there name [] i d o low high lt e = refl
not_there name (n ∷ ns) zero d o low high lt e =
    or_false (bytes_eq name n) (is_active name ns) (flip name n ∙ e)
    (none_before name ns (λ k c a b. high (suc k) c (omega arith) (omega arith)))
not_there name (n ∷ ns) (suc i) d o low high lt e =
    let b = both (list_all (λ m. not (is_before m n)) ns) (in_order ns) o in
    let lt' : i < length ns = omega arith in
    let late : is_before (get_or ns i d) n ≡ false = not_true (is_before (get_or ns i d) n) (all_at (λ m. not (is_before m n)) ns i d b.0 lt') in
    or_false (bytes_eq name n) (is_active name ns)
    (unlike name n (get_or ns i d) late (low (suc i) d (omega arith) (omega arith)) e)
    (not_there name ns i d b.1 (λ k c a b. low (suc k) c (omega arith) (omega arith)) (λ k c a b. high (suc k) c (omega arith) (omega arith)) lt' e)

pub there : (name : List ℕ) (ns : List (List ℕ)) (i : ℕ) (d : List ℕ) → i < length ns → bytes_eq (get_or ns i d) name ≡ true → is_active name ns ≡ true
there name [] i d lt e = absurd (omega arith)
there name (n ∷ ns) zero d lt e = ap (λ b. b || is_active name ns) (flip name n ∙ e)
there name (n ∷ ns) (suc i) d lt e = ap (λ b. bytes_eq name n || b) (there name ns i d (omega arith) e) ∙ or_true (bytes_eq name n)
  where
    or_true : (b : Bool) → (b || true) ≡ true
    or_true true = refl
    or_true false = refl

-- what the last that doesn't stand behind tells
pub tells : (name : List ℕ) (ns : List (List ℕ)) (i : ℕ) (x : List ℕ) (b : Bool) → in_order ns ≡ true → AllWithin (λ n. not_behind name n ≡ true) ns 0 i → AllWithin (λ n. not_behind name n ≡ false) ns i (length ns)
    → (i ≡ 0 → ⊥) → i ≤ length ns → x ≡ get_or ns (i - 1) x → b ≡ bytes_eq x name → b ≡ is_active name ns
tells name ns zero x b o low high some le here e = absurd (some refl)
tells name ns (suc i) x true o low high some le here e =
    let k : suc i - 1 ≡ i = omega arith in
    sym (there name ns i x (omega (arith, le)) (ap (λ w. bytes_eq w name) (sym (rw k at here)) ∙ sym e))
tells name ns (suc i) x false o low high some le here e =
    let k : suc i - 1 ≡ i = omega arith in
    sym (not_there name ns i x o low high (omega (arith, le)) (ap (λ w. bytes_eq w name) (sym (rw k at here)) ∙ sym e))

-- ---- a change keeps the order

all_weaker : {A : Type 0} (p q : A → Bool) → ((x : A) → p x ≡ true → q x ≡ true) → (xs : List A) → list_all p xs ≡ true → list_all q xs ≡ true
all_weaker p q h [] e = refl
all_weaker p q h (x ∷ xs) e =
    let b = both (p x) (list_all p xs) e in
    and (q x) (list_all q xs) (h x b.0) (all_weaker p q h xs b.1)

all_insert : {A : Type 0} (p : A → Bool) (x : A) (xs : List A) (i : ℕ) → list_all p xs ≡ true → p x ≡ true → list_all p (insert xs i x) ≡ true
all_insert p x [] zero e f = and (p x) true f refl
all_insert p x [] (suc i) e f = and (p x) true f refl
all_insert p x (y ∷ ys) zero e f = and (p x) (list_all p (y ∷ ys)) f e
all_insert p x (y ∷ ys) (suc i) e f =
    let b = both (p y) (list_all p ys) e in
    and (p y) (list_all p (insert ys i x)) b.0 (all_insert p x ys i b.1 f)

abbrev slot : List ℕ → List (List ℕ) → ℕ
slot name ns = prefix_len (not_behind name) ns

slotted : (x y : List ℕ) (ys : List (List ℕ)) (n : ℕ) (b : Bool) → not (is_before x y) ≡ b → in_order (y ∷ ys) ≡ true → in_order (insert ys n x) ≡ true → in_order (insert (y ∷ ys) (cond b (suc n) 0) x) ≡ true
slotted x y ys n true e o k =
    let b = both (list_all (λ z. not (is_before z y)) ys) (in_order ys) o in
    and _ _ (all_insert (λ z. not (is_before z y)) x ys n b.0 e) k
slotted x y ys n false e o k =
    let b = both (list_all (λ z. not (is_before z y)) ys) (in_order ys) o in
    let first : is_before x y ≡ true = not_false (is_before x y) e in
    let not_back : is_before y x ≡ false = weak.one_way x y first in
    and _ _
    (and (not (is_before y x)) _ (ap not not_back)
    (all_weaker (λ z. not (is_before z y)) (λ z. not (is_before z x))
    (λ z h. ap not (weak.chain z y x (not_true (is_before z y) h) not_back)) ys b.0))
    o

in_order_slot : (x : List ℕ) (xs : List (List ℕ)) → in_order xs ≡ true → in_order (insert xs (slot x xs) x) ≡ true
in_order_slot x [] o = refl
in_order_slot x (y ∷ ys) o =
    let one : 1 + slot x ys ≡ suc (slot x ys) = omega arith in
    let b = both (list_all (λ z. not (is_before z y)) ys) (in_order ys) o in
    rw one (slotted x y ys (slot x ys) (not (is_before x y)) refl o (in_order_slot x ys b.1))

pub in_order_insert : (x : List ℕ) (xs : List (List ℕ)) → in_order xs ≡ true → in_order (insert xs (place_in x xs) x) ≡ true
in_order_insert x xs o = rw (slot_is x xs) (in_order_slot x xs o)

all_filter : {A : Type 0} (p q : A → Bool) (xs : List A) → list_all p xs ≡ true → list_all p (filter q xs) ≡ true
all_filter p q [] e = refl
all_filter p q (x ∷ xs) e =
    let h = both (p x) (list_all p xs) e in
    go (q x) h.0 (all_filter p q xs h.1)
  where
    go : (b : Bool) → p x ≡ true → list_all p (filter q xs) ≡ true → list_all p (cond b (x ∷ filter q xs) (filter q xs)) ≡ true
    go true h k = and (p x) (list_all p (filter q xs)) h k
    go false h k = k

in_order_filter : (q : List ℕ → Bool) (xs : List (List ℕ)) → in_order xs ≡ true → in_order (filter q xs) ≡ true
in_order_filter q [] o = refl
in_order_filter q (x ∷ xs) o =
    let h = both (list_all (λ z. not (is_before z x)) xs) (in_order xs) o in
    go (q x) (all_filter (λ z. not (is_before z x)) q xs h.0) (in_order_filter q xs h.1)
  where
    go : (b : Bool) → list_all (λ z. not (is_before z x)) (filter q xs) ≡ true → in_order (filter q xs) ≡ true → in_order (cond b (x ∷ filter q xs) (filter q xs)) ≡ true
    go true h k = and _ _ h k
    go false h k = k

pub in_order_without : (name : List ℕ) (xs : List (List ℕ)) → in_order xs ≡ true → in_order (without name xs) ≡ true
in_order_without name xs o = in_order_filter (λ n. not (bytes_eq n name)) xs o
