-- What two lists of one image hold at a place.
use Rattle.std.proofs.Common.{◌≡◌, sym, ◌∙◌, ap, ℕ, ◌<◌, List, map, length, get_or}
use Rattle.std.proofs.lemmas.List.{get_or-map}

pub same_at : {A B : Type 0} (f : A → B) (xs ys : List A) (i : ℕ) (x y : A) → i < length xs → i < length ys → x ≡ get_or xs i x → y ≡ get_or ys i y → map f xs ≡ map f ys → f x ≡ f y
same_at f xs ys i x y hx hy ex ey e =
    ap f ex ∙ sym (get_or-map f xs i x (f x) hx) ∙ ap (λ zs. get_or zs i (f x)) e ∙ get_or-map f ys i y (f x) hy ∙ sym (ap f ey)
