-- A list put in order element by element: what sorting keeps, and what can be done before or after it.
use Rattle.std.proofs.Common.{◌≡◌, refl, sym, ◌∙◌, ap, List, [], ◌∷◌, map, filter, Bool, true, false, cond, true≢false, is_lt, is_gt, Ordering, Less, Equal, Greater}
use Rattle.std.specs.Ordering.{ordering_reverse}
use Rattle.std.specs.Cmp.{IsTotalOrder}
use Rattle.std.proofs.lemmas.Cmp.{upto}
use Rattle.press_hooks.specs.Numbered.{put_sorted, sorted_by}

-- P of each element
abbrev pub Every : {X : Type 0} → (X → Type 0) → List X → Type 0
Every P [] = Unit {0}
Every P (x ∷ xs) = P x × Every P xs

module _ {X : Type 0} where
  pub every_weaker : (P Q : X → Type 0) → ((x : X) → P x → Q x) → (xs : List X) → Every P xs → Every Q xs
  every_weaker P Q f [] h = tt
  every_weaker P Q f (x ∷ xs) h = (f x h.0, every_weaker P Q f xs h.1)

  pub Every-map : (P : X → Type 0) (f : X → X) → ((x : X) → P x → P (f x)) → (xs : List X) → Every P xs → Every P (map f xs)
  Every-map P f g [] h = tt
  Every-map P f g (x ∷ xs) h = (g x h.0, Every-map P f g xs h.1)

  filter_by : (P : X → Type 0) (b : Bool) (x : X) (xs : List X) → P x → Every P xs → Every P (cond b (x ∷ xs) xs)
  filter_by P true x xs h k = (h, k)
  filter_by P false x xs h k = k

  pub Every-filter : (P : X → Type 0) (p : X → Bool) (xs : List X) → Every P xs → Every P (filter p xs)
  Every-filter P p [] h = tt
  Every-filter P p (x ∷ xs) h = filter_by P (p x) x (filter p xs) h.0 (Every-filter P p xs h.1)

  passes_by : (p : X → Bool) (b : Bool) (x : X) (xs : List X) → p x ≡ b → Every (λ y. p y ≡ true) xs → Every (λ y. p y ≡ true) (cond b (x ∷ xs) xs)
  passes_by p true x xs h k = (h, k)
  passes_by p false x xs h k = k

  pub every_passes : (p : X → Bool) (xs : List X) → Every (λ y. p y ≡ true) (filter p xs)
  every_passes p [] = tt
  every_passes p (x ∷ xs) = passes_by p (p x) x (filter p xs) refl (every_passes p xs)

module _ {X : Type 0} (cmp : X → X → Ordering) (P : X → Type 0) where
  every_put_by : (b : Bool) (x y : X) (ys : List X) → P x → P y → Every P ys → Every P (put_sorted cmp x ys) → Every P (cond b (x ∷ y ∷ ys) (y ∷ put_sorted cmp x ys))
  every_put_by true x y ys h k e f = (h, (k, e))
  every_put_by false x y ys h k e f = (k, f)

  pub Every-put_sorted : (x : X) (xs : List X) → P x → Every P xs → Every P (put_sorted cmp x xs)
  Every-put_sorted x [] h k = (h, tt)
  Every-put_sorted x (y ∷ ys) h k = every_put_by (is_lt (cmp x y)) x y ys h k.0 k.1 (Every-put_sorted x ys h k.1)

  pub Every-sorted_by : (xs : List X) → Every P xs → Every P (sorted_by cmp xs)
  Every-sorted_by [] h = tt
  Every-sorted_by (x ∷ xs) h = Every-put_sorted x (sorted_by cmp xs) h.0 (Every-sorted_by xs h.1)

-- what is made of a list element by element, in whatever order they come
module _ {X Y : Type 0} (cmp : X → X → Ordering) (F : List X → Y) (step : X → Y → Y) (more : (x : X) (xs : List X) → F (x ∷ xs) ≡ step x (F xs)) (swaps : (a b : X) (y : Y) → step a (step b y) ≡ step b (step a y)) where
  kept_by : (b : Bool) (x y : X) (ys : List X) → F (put_sorted cmp x ys) ≡ step x (F ys) → F (cond b (x ∷ y ∷ ys) (y ∷ put_sorted cmp x ys)) ≡ step x (F (y ∷ ys))
  kept_by true x y ys e = more x (y ∷ ys)
  kept_by false x y ys e = more y (put_sorted cmp x ys) ∙ (ap (step y) e ∙ (swaps y x (F ys) ∙ ap (step x) (sym (more y ys))))

  kept_put : (x : X) (xs : List X) → F (put_sorted cmp x xs) ≡ step x (F xs)
  kept_put x [] = more x []
  kept_put x (y ∷ ys) = kept_by (is_lt (cmp x y)) x y ys (kept_put x ys)

  pub sorting_keeps : (xs : List X) → F (sorted_by cmp xs) ≡ F xs
  sorting_keeps [] = refl
  sorting_keeps (x ∷ xs) = kept_put x (sorted_by cmp xs) ∙ (ap (step x) (sorting_keeps xs) ∙ sym (more x xs))

-- a function that the order does not see
module _ {X : Type 0} (cmp : X → X → Ordering) (f : X → X) (unseen : (a b : X) → cmp (f a) (f b) ≡ cmp a b) where
  map_by : (b : Bool) (x y : X) (ys : List X) → put_sorted cmp (f x) (map f ys) ≡ map f (put_sorted cmp x ys) → cond b (f x ∷ f y ∷ map f ys) (f y ∷ put_sorted cmp (f x) (map f ys)) ≡ map f (cond b (x ∷ y ∷ ys) (y ∷ put_sorted cmp x ys))
  map_by true x y ys e = refl
  map_by false x y ys e = ap (λ zs. f y ∷ zs) e

  map_put : (x : X) (xs : List X) → put_sorted cmp (f x) (map f xs) ≡ map f (put_sorted cmp x xs)
  map_put x [] = refl
  map_put x (y ∷ ys) =
      ap (λ o. cond (is_lt o) (f x ∷ f y ∷ map f ys) (f y ∷ put_sorted cmp (f x) (map f ys))) (unseen x y) ∙ map_by (is_lt (cmp x y)) x y ys (map_put x ys)

  pub sorted_by-map : (xs : List X) → sorted_by cmp (map f xs) ≡ map f (sorted_by cmp xs)
  sorted_by-map [] = refl
  sorted_by-map (x ∷ xs) = ap (put_sorted cmp (f x)) (sorted_by-map xs) ∙ map_put x (sorted_by cmp xs)

-- two orders that agree on the elements
module _ {X : Type 0} (c d : X → X → Ordering) (P : X → Type 0) (same : (a b : X) → P a → P b → c a b ≡ d a b) where
  same_put : (x : X) (xs : List X) → P x → Every P xs → put_sorted c x xs ≡ put_sorted d x xs
  same_put x [] h k = refl
  same_put x (y ∷ ys) h k = λ i. cond (is_lt (same x y h k.0 i)) (x ∷ y ∷ ys) (y ∷ same_put x ys h k.1 i)

  pub sorted_same : (xs : List X) → Every P xs → sorted_by c xs ≡ sorted_by d xs
  sorted_same [] h = refl
  sorted_same (x ∷ xs) h = same_put x (sorted_by c xs) h.0 (Every-sorted_by c P xs h.1) ∙ ap (put_sorted d x) (sorted_same xs h.1)

gt_reversed : (o : Ordering) → is_gt (ordering_reverse o) ≡ is_lt o
gt_reversed Less = refl
gt_reversed Equal = refl
gt_reversed Greater = refl

lt_not_gt : (o : Ordering) → is_lt o ≡ true → is_gt o ≡ false
lt_not_gt Less h = refl
lt_not_gt Equal h = refl
lt_not_gt Greater h = sym h

-- a sorted list without some elements
module _ {X : Type 0} {cmp : X → X → Ordering} (o : IsTotalOrder cmp) where
  abbrev IsBelow : X → List X → Type 0
  IsBelow x xs = Every (λ y. is_lt (cmp x y) ≡ true) xs

  abbrev IsUpTo : X → List X → Type 0
  IsUpTo x xs = Every (λ y. is_gt (cmp x y) ≡ false) xs

  abbrev IsInOrder : List X → Type 0
  IsInOrder [] = Unit {0}
  IsInOrder (x ∷ xs) = IsUpTo x xs × IsInOrder xs

  turned : (x y : X) → is_gt (cmp y x) ≡ is_lt (cmp x y)
  turned x y = ap is_gt (o.antisymm y x) ∙ gt_reversed (cmp x y)

  below_by : (b : Bool) (x y z : X) → is_lt (cmp x y) ≡ true → is_gt (cmp y z) ≡ false → is_gt (cmp z x) ≡ b → is_lt (cmp x z) ≡ true
  below_by true x y z h k e = sym (turned x z) ∙ e
  below_by false x y z h k e = absurd (true≢false (sym (turned x y ∙ h) ∙ upto o y z x k e))

  below_more : (x y z : X) → is_lt (cmp x y) ≡ true → is_gt (cmp y z) ≡ false → is_lt (cmp x z) ≡ true
  below_more x y z h k = below_by (is_gt (cmp z x)) x y z h k refl

  below_rest : (x y : X) (ys : List X) → is_lt (cmp x y) ≡ true → IsUpTo y ys → IsBelow x ys
  below_rest x y ys h k = every_weaker (λ z. is_gt (cmp y z) ≡ false) (λ z. is_lt (cmp x z) ≡ true) (λ z. below_more x y z h) ys k

  order_by : (b : Bool) (x y : X) (ys : List X) → is_lt (cmp x y) ≡ b → IsUpTo y ys → IsInOrder ys → IsInOrder (put_sorted cmp x ys) → IsInOrder (cond b (x ∷ y ∷ ys) (y ∷ put_sorted cmp x ys))
  order_by true x y ys h k r s =
      let lower : IsBelow x (y ∷ ys) = (h, below_rest x y ys h k) in
      (every_weaker (λ z. is_lt (cmp x z) ≡ true) (λ z. is_gt (cmp x z) ≡ false) (λ z. lt_not_gt (cmp x z)) (y ∷ ys) lower, (k, r))
  order_by false x y ys h k r s = (Every-put_sorted cmp (λ z. is_gt (cmp y z) ≡ false) x ys (turned x y ∙ h) k, s)

  order_put : (x : X) (xs : List X) → IsInOrder xs → IsInOrder (put_sorted cmp x xs)
  order_put x [] h = (tt, tt)
  order_put x (y ∷ ys) h = order_by (is_lt (cmp x y)) x y ys refl h.0 h.1 (order_put x ys h.1)

  is_in_order : (xs : List X) → IsInOrder (sorted_by cmp xs)
  is_in_order [] = tt
  is_in_order (x ∷ xs) = order_put x (sorted_by cmp xs) (is_in_order xs)

  put_lowest : (x : X) (xs : List X) → IsBelow x xs → put_sorted cmp x xs ≡ x ∷ xs
  put_lowest x [] h = refl
  put_lowest x (y ∷ ys) h = ap (λ b. cond b (x ∷ y ∷ ys) (y ∷ put_sorted cmp x ys)) h.0

  module _ (p : X → Bool) where
    filter_first : (x : X) (xs : List X) → p x ≡ true → filter p (x ∷ xs) ≡ x ∷ filter p xs
    filter_first x xs h = ap (λ b. cond b (x ∷ filter p xs) (filter p xs)) h

    -- b: whether the first is above x. d: whether it stays
    kept_put_by : (b d : Bool) (x y : X) (ys : List X) → is_lt (cmp x y) ≡ b → p y ≡ d → p x ≡ true → IsUpTo y ys → filter p (put_sorted cmp x ys) ≡ put_sorted cmp x (filter p ys) → filter p (cond b (x ∷ y ∷ ys) (y ∷ put_sorted cmp x ys)) ≡ put_sorted cmp x (cond d (y ∷ filter p ys) (filter p ys))
    kept_put_by true d x y ys h g k u e =
        let lower : IsBelow x (y ∷ ys) = (h, below_rest x y ys h u) in
        let kept : IsBelow x (filter p (y ∷ ys)) = Every-filter (λ z. is_lt (cmp x z) ≡ true) p (y ∷ ys) lower in
        filter_first x (y ∷ ys) k ∙ (sym (put_lowest x (filter p (y ∷ ys)) kept) ∙ ap (λ b. put_sorted cmp x (cond b (y ∷ filter p ys) (filter p ys))) g)
    kept_put_by false true x y ys h g k u e =
        filter_first y (put_sorted cmp x ys) g ∙ (ap (λ zs. y ∷ zs) e ∙ sym (ap (λ b. cond b (x ∷ y ∷ filter p ys) (y ∷ put_sorted cmp x (filter p ys))) h))
    kept_put_by false false x y ys h g k u e = ap (λ b. cond b (y ∷ filter p (put_sorted cmp x ys)) (filter p (put_sorted cmp x ys))) g ∙ e

    kept_put_in : (x : X) (xs : List X) → p x ≡ true → IsInOrder xs → filter p (put_sorted cmp x xs) ≡ put_sorted cmp x (filter p xs)
    kept_put_in x [] k h = filter_first x [] k
    kept_put_in x (y ∷ ys) k h = kept_put_by (is_lt (cmp x y)) (p y) x y ys refl refl k h.0 (kept_put_in x ys k h.1)

    gone_by : (b : Bool) (x y : X) (ys : List X) → p x ≡ false → filter p (put_sorted cmp x ys) ≡ filter p ys → filter p (cond b (x ∷ y ∷ ys) (y ∷ put_sorted cmp x ys)) ≡ filter p (y ∷ ys)
    gone_by true x y ys k e = ap (λ b. cond b (x ∷ filter p (y ∷ ys)) (filter p (y ∷ ys))) k
    gone_by false x y ys k e = ap (λ zs. cond (p y) (y ∷ zs) zs) e

    gone_put : (x : X) (xs : List X) → p x ≡ false → filter p (put_sorted cmp x xs) ≡ filter p xs
    gone_put x [] k = ap (λ b. cond b (x ∷ []) []) k
    gone_put x (y ∷ ys) k = gone_by (is_lt (cmp x y)) x y ys k (gone_put x ys k)

    filter_step : (b : Bool) (x : X) (xs : List X) → p x ≡ b → IsInOrder xs → filter p (put_sorted cmp x xs) ≡ cond b (put_sorted cmp x (filter p xs)) (filter p xs)
    filter_step true x xs k h = kept_put_in x xs k h
    filter_step false x xs k h = gone_put x xs k

    sorted_cond : (b : Bool) (x : X) (xs : List X) → sorted_by cmp (cond b (x ∷ xs) xs) ≡ cond b (put_sorted cmp x (sorted_by cmp xs)) (sorted_by cmp xs)
    sorted_cond true x xs = refl
    sorted_cond false x xs = refl

    pub sorted_by-filter : (xs : List X) → sorted_by cmp (filter p xs) ≡ filter p (sorted_by cmp xs)
    sorted_by-filter [] = refl
    sorted_by-filter (x ∷ xs) =
        sorted_cond (p x) x (filter p xs) ∙ (ap (λ zs. cond (p x) (put_sorted cmp x zs) zs) (sorted_by-filter xs) ∙ sym (filter_step (p x) x (sorted_by cmp xs) refl (is_in_order xs)))
