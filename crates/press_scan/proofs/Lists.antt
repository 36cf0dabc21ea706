-- Lists that are walked from the first element on.
use Rattle.std.proofs.Common.{◌≡◌, refl, sym, ◌∙◌, ap, ℕ, zero, suc, ◌+◌, ◌<◌, true, false, cond, List, [], ◌∷◌, ◌++◌, map, length, get_or, set, take, drop, arith, add-one, drop-cons, Some}
use Rattle.press_scan.specs.Tags.{is_tag, callback_of}
use Rattle.press_scan.specs.Attributes.{is_key, value_of}
use Rattle.press_scan.specs.declared.tag_row.TagRow.{TagRow}
use Rattle.press_scan.specs.declared.att.Att.{Att}
use Rattle.press_scan.specs.declared.att_key.AttKey.{AttKey}

-- one more element replaced by f of it
mapped_more : {A : Type 0} (f : A → A) (xs : List A) (i : ℕ) (d : A) → i < length xs → set (map f (take i xs) ++ drop i xs) i (f (get_or (map f (take i xs) ++ drop i xs) i d)) ≡ map f (take (i + 1) xs) ++ drop (i + 1) xs
mapped_more f [] i d h = absurd (omega arith)
mapped_more f (y ∷ ys) zero d h = refl
mapped_more f (y ∷ ys) (suc i) d h =
    let k : suc i + 1 ≡ suc (i + 1) = omega arith in
    let lt : i < length ys = omega arith in
    rw k (ap (λ zs. f y ∷ zs) (mapped_more f ys i d lt))

pub mapped_step : {A : Type 0} (f : A → A) (xs ys : List A) (i : ℕ) (d y : A) → ys ≡ map f (take i xs) ++ drop i xs → i < length xs → y ≡ f (get_or ys i d) → set ys i y ≡ map f (take (i + 1) xs) ++ drop (i + 1) xs
mapped_step f xs ys i d y e h new = rw (new, e) (mapped_more f xs i d h)

callback_step : (name : List ℕ) (xs : List TagRow) (i : ℕ) (x : TagRow) → i < length xs → x ≡ get_or xs i x → callback_of name (drop i xs) ≡ cond (is_tag name x) (Some x.callback) (callback_of name (drop (i + 1) xs))
callback_step name xs i x h e = rw (add-one, drop-cons xs i x h, ← e) refl

pub callback_found : (name : List ℕ) (xs : List TagRow) (i : ℕ) (x : TagRow) → i < length xs → x ≡ get_or xs i x → is_tag name x ≡ true → Some x.callback ≡ callback_of name (drop i xs)
callback_found name xs i x h e t = sym (callback_step name xs i x h e ∙ ap (λ b. cond b (Some x.callback) (callback_of name (drop (i + 1) xs))) t)

pub callback_passed : (name : List ℕ) (xs : List TagRow) (i : ℕ) (x : TagRow) → i < length xs → x ≡ get_or xs i x → is_tag name x ≡ false → callback_of name (drop (i + 1) xs) ≡ callback_of name (drop i xs)
callback_passed name xs i x h e t = sym (callback_step name xs i x h e ∙ ap (λ b. cond b (Some x.callback) (callback_of name (drop (i + 1) xs))) t)

value_step : (key : AttKey) (xs : List Att) (i : ℕ) (x : Att) → i < length xs → x ≡ get_or xs i x → value_of key (drop i xs) ≡ cond (is_key x.key key) (Some x.value) (value_of key (drop (i + 1) xs))
value_step key xs i x h e = rw (add-one, drop-cons xs i x h, ← e) refl

pub value_found : (key : AttKey) (xs : List Att) (i : ℕ) (x : Att) → i < length xs → x ≡ get_or xs i x → is_key x.key key ≡ true → Some x.value ≡ value_of key (drop i xs)
value_found key xs i x h e t = sym (value_step key xs i x h e ∙ ap (λ b. cond b (Some x.value) (value_of key (drop (i + 1) xs))) t)

pub value_passed : (key : AttKey) (xs : List Att) (i : ℕ) (x : Att) → i < length xs → x ≡ get_or xs i x → is_key x.key key ≡ false → value_of key (drop (i + 1) xs) ≡ value_of key (drop i xs)
value_passed key xs i x h e t = sym (value_step key xs i x h e ∙ ap (λ b. cond b (Some x.value) (value_of key (drop (i + 1) xs))) t)
