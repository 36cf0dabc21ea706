-- Filters of lists.
use Rattle.std.proofs.Common.{◌≡◌, refl, ◌∙◌, ap, ℕ, zero, suc, ◌<◌, Bool, true, false, cond, List, [], ◌∷◌, ◌++◌, map, filter, length, get_or, arith}
use Rattle.std.specs.Prelude.{◌&&◌}
use Rattle.press_hooks.specs.Hooked.{IsEach}

-- ---- filters

two_by : {X : Type 0} (a b : X → Bool) (x : X) (xs ys : List X) (c : Bool) → filter b xs ≡ ys → filter b (cond c (x ∷ xs) xs) ≡ cond (c && b x) (x ∷ ys) ys
two_by a b x xs ys true e = ap (λ zs. cond (b x) (x ∷ zs) zs) e
two_by a b x xs ys false e = e

pub filter_two : {X : Type 0} (a b : X → Bool) (xs : List X) → filter b (filter a xs) ≡ filter (λ x. a x && b x) xs
filter_two a b [] = refl
filter_two a b (x ∷ xs) = two_by a b x (filter a xs) (filter (λ y. a y && b y) xs) (a x) (filter_two a b xs)

pub filter_each : {X : Type 0} (a b : X → Bool) (xs : List X) → IsEach (λ x. a x ≡ b x) xs → filter a xs ≡ filter b xs
filter_each a b [] h = refl
filter_each a b (x ∷ xs) h = ap (λ c. cond c (x ∷ filter a xs) (filter a xs)) h.0 ∙ ap (λ zs. cond (b x) (x ∷ zs) zs) (filter_each a b xs h.1)

pub each : {X : Type 0} (P : X → Type 0) (xs : List X) → ((x : X) → P x) → IsEach P xs
each P [] h = tt
each P (x ∷ xs) h = (h x, each P xs h)

pub filter_alike : {X : Type 0} (a b : X → Bool) (xs : List X) → ((x : X) → a x ≡ b x) → filter a xs ≡ filter b xs
filter_alike a b xs h = filter_each a b xs (each (λ x. a x ≡ b x) xs h)

pub each_at : {X : Type 0} (P : X → Type 0) (xs : List X) (i : ℕ) (d : X) → IsEach P xs → i < length xs → P (get_or xs i d)
each_at P [] i d h lt = absurd (omega arith)
each_at P (x ∷ xs) zero d h lt = h.0
each_at P (x ∷ xs) (suc i) d h lt = let lt' : i < length xs = omega arith in each_at P xs i d h.1 lt'

each_kept : {X : Type 0} (P : X → Type 0) (x : X) (xs : List X) (c : Bool) → P x → IsEach P xs → IsEach P (cond c (x ∷ xs) xs)
each_kept P x xs true p h = (p, h)
each_kept P x xs false p h = h

pub each_filter : {X : Type 0} (P : X → Type 0) (t : X → Bool) (xs : List X) → IsEach P xs → IsEach P (filter t xs)
each_filter P t [] h = tt
each_filter P t (x ∷ xs) h = each_kept P x (filter t xs) (t x) h.0 (each_filter P t xs h.1)

pub each_weaker : {X : Type 0} (P Q : X → Type 0) (xs : List X) → ((x : X) → P x → Q x) → IsEach P xs → IsEach Q xs
each_weaker P Q [] w h = tt
each_weaker P Q (x ∷ xs) w h = (w x h.0, each_weaker P Q xs w h.1)

-- ---- all or none of a list

pub all_pass : {X : Type 0} (t : X → Bool) (xs : List X) → IsEach (λ x. t x ≡ true) xs → filter t xs ≡ xs
all_pass t [] h = refl
all_pass t (x ∷ xs) h = ap (λ c. cond c (x ∷ filter t xs) (filter t xs)) h.0 ∙ ap (λ zs. x ∷ zs) (all_pass t xs h.1)

pub none_pass : {X : Type 0} (t : X → Bool) (xs : List X) → IsEach (λ x. t x ≡ false) xs → filter t xs ≡ []
none_pass t [] h = refl
none_pass t (x ∷ xs) h = ap (λ c. cond c (x ∷ filter t xs) (filter t xs)) h.0 ∙ none_pass t xs h.1

-- ---- one list behind another

joined_by : {X : Type 0} (x : X) (xs ys zs : List X) (c : Bool) → zs ≡ xs ++ ys → cond c (x ∷ zs) zs ≡ cond c (x ∷ xs) xs ++ ys
joined_by x xs ys zs true e = ap (λ ws. x ∷ ws) e
joined_by x xs ys zs false e = e

pub filter_joined : {X : Type 0} (t : X → Bool) (xs ys : List X) → filter t (xs ++ ys) ≡ filter t xs ++ filter t ys
filter_joined t [] ys = refl
filter_joined t (x ∷ xs) ys = joined_by x (filter t xs) (filter t ys) (filter t (xs ++ ys)) (t x) (filter_joined t xs ys)

pub map_joined : {X Y : Type 0} (f : X → Y) (xs ys : List X) → map f (xs ++ ys) ≡ map f xs ++ map f ys
map_joined f [] ys = refl
map_joined f (x ∷ xs) ys = ap (λ zs. f x ∷ zs) (map_joined f xs ys)

pub append_none : {X : Type 0} (xs : List X) → xs ++ [] ≡ xs
append_none [] = refl
append_none (x ∷ xs) = ap (λ zs. x ∷ zs) (append_none xs)

pub each_joined : {X : Type 0} (P : X → Type 0) (xs ys : List X) → IsEach P xs → IsEach P ys → IsEach P (xs ++ ys)
each_joined P [] ys h k = k
each_joined P (x ∷ xs) ys h k = (h.0, each_joined P xs ys h.1 k)

pub length_mapped : {X Y : Type 0} (f : X → Y) (xs : List X) → length (map f xs) ≡ length xs
length_mapped f [] = refl
length_mapped f (x ∷ xs) = ap suc (length_mapped f xs)
