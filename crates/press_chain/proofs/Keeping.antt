-- What is kept, behind one value more.
use Rattle.std.proofs.Common.{ℕ, zero, suc, ◌+◌, ◌*◌, ◌/◌, ◌%◌, ◌<◌, ◌≤◌, ◌≡◌, ◌≢◌, ◌⊎◌, ◌==◌, inl, inr, Bool, true, false, cond, nat_lt, List, [], ◌∷◌, ◌++◌, length, slice_get, slice_set, take, Some, refl, sym, subst, ap, ◌∙◌, arith}
use Rattle.std.proofs.lemmas.Bool.{ltb-true, ltb-false, eqb-true, eqb-false}
use Rattle.std.proofs.lemmas.List.{length-append}
use Rattle.press_apply.specs.declared.value.Value.{Value}
use Rattle.press_chain.specs.Chains.{IsKept, block_at, digest_at, digest_of, digest_with, no_digest, put_at}
use Rattle.press_chain.proofs.Fronts.{digest_none, digest_then, within}

-- ---- places

set_here : {X : Type 0} (xs : List X) (i : ℕ) (x : X) → i < length xs → slice_get (slice_set xs i x) i ≡ Some x
set_here [] i x few = absurd (omega (arith, few))
set_here (y ∷ xs) zero x few = refl
set_here (y ∷ xs) (suc i) x few = set_here xs i x (omega (arith, few))

set_other : {X : Type 0} (xs : List X) (i j : ℕ) (x : X) → j ≢ i → slice_get (slice_set xs i x) j ≡ slice_get xs j
set_other [] i j x h = refl
set_other (y ∷ xs) zero zero x h = absurd (h refl)
set_other (y ∷ xs) zero (suc j) x h = refl
set_other (y ∷ xs) (suc i) zero x h = refl
set_other (y ∷ xs) (suc i) (suc j) x h = set_other xs i j x (λ e. h (ap suc e))

set_long : {X : Type 0} (xs : List X) (i : ℕ) (x : X) → length (slice_set xs i x) ≡ length xs
set_long [] i x = refl
set_long (y ∷ xs) zero x = refl
set_long (y ∷ xs) (suc i) x = ap suc (set_long xs i x)

end_here : {X : Type 0} (xs : List X) (x : X) → slice_get (xs ++ x ∷ []) (length xs) ≡ Some x
end_here [] x = refl
end_here (y ∷ xs) x = end_here xs x

end_other : {X : Type 0} (xs : List X) (j : ℕ) (x : X) → j < length xs → slice_get (xs ++ x ∷ []) j ≡ slice_get xs j
end_other [] j x few = absurd (omega (arith, few))
end_other (y ∷ xs) zero x few = refl
end_other (y ∷ xs) (suc j) x few = end_other xs j x (omega (arith, few))

-- what is put stands there, all else stays, and the list is as long as it was or longer
pub put_here : (xs : List (List ℕ)) (i : ℕ) (x : List ℕ) → i ≤ length xs → slice_get (put_at xs i x) i ≡ Some x
put_here xs i x few = go (nat_lt i (length xs)) refl
  where
    go : (b : Bool) → nat_lt i (length xs) ≡ b → slice_get (cond b (slice_set xs i x) (xs ++ x ∷ [])) i ≡ Some x
    go true e = set_here xs i x (ltb-true i (length xs) e)
    go false e = let k : i ≡ length xs = omega (arith, few, ltb-false i (length xs) e) in ap (slice_get (xs ++ x ∷ [])) k ∙ end_here xs x

pub put_other : (xs : List (List ℕ)) (i j : ℕ) (x : List ℕ) → j ≢ i → j < length xs → slice_get (put_at xs i x) j ≡ slice_get xs j
put_other xs i j x apart few = go (nat_lt i (length xs))
  where
    go : (b : Bool) → slice_get (cond b (slice_set xs i x) (xs ++ x ∷ [])) j ≡ slice_get xs j
    go true = set_other xs i j x apart
    go false = end_other xs j x few

pub put_long : (xs : List (List ℕ)) (i : ℕ) (x : List ℕ) → length xs ≤ length (put_at xs i x)
put_long xs i x = go (nat_lt i (length xs))
  where
    go : (b : Bool) → length xs ≤ length (cond b (slice_set xs i x) (xs ++ x ∷ []))
    go true = omega (arith, set_long xs i x)
    go false = omega (arith, length-append xs (x ∷ []))

pub put_longer : (xs : List (List ℕ)) (i : ℕ) (x : List ℕ) → i ≤ length xs → i + 1 ≤ length (put_at xs i x)
put_longer xs i x few = go (nat_lt i (length xs)) refl
  where
    go : (b : Bool) → nat_lt i (length xs) ≡ b → i + 1 ≤ length (cond b (slice_set xs i x) (xs ++ x ∷ []))
    go true e = omega (arith, set_long xs i x, ltb-true i (length xs) e)
    go false e = omega (arith, length-append xs (x ∷ []), ltb-false i (length xs) e)

-- ---- numbers

apart : (slot count : ℕ) → slot < count → count < slot + 64 → slot % 64 ≢ count % 64
apart slot count less near = λ same. omega (arith, less, near, same)

-- ---- the same, by other names

pub kept_as : (values : List Value) (c c' : ℕ) (d d' b b' : List ℕ) (r r' l l' : List (List ℕ)) → c' ≡ c → d' ≡ d → b' ≡ b → r' ≡ r → l' ≡ l → IsKept values c d b r l → IsKept values c' d' b' r' l'
kept_as values c c' d d' b b' r r' l l' ce de be re le kept =
    subst (λ x. IsKept values x d' b' r' l') (sym ce) (subst (λ x. IsKept values c x b' r' l') (sym de) (subst (λ x. IsKept values c d x r' l') (sym be) (subst (λ x. IsKept values c d b x l') (sym re) (subst (λ x. IsKept values c d b r x) (sym le) kept))))

-- ---- one value more

module _ (values : List Value) (count : ℕ) (digest block : List ℕ) (recent blocks : List (List ℕ)) (kept : IsKept values count digest block recent blocks) where
  place_few : count % 64 ≤ length recent
  place_few = go kept.room
    where
      go : (64 ≤ length recent) ⊎ (count ≤ length recent) → count % 64 ≤ length recent
      go (inl h) = omega (arith, h)
      go (inr h) = omega (arith, h)

  slot_few : (slot : ℕ) → slot < count → slot % 64 < length recent
  slot_few slot less = go kept.room
    where
      go : (64 ≤ length recent) ⊎ (count ≤ length recent) → slot % 64 < length recent
      go (inl h) = omega (arith, h)
      go (inr h) = omega (arith, h, less)

  -- the list of those at multiples of 64, whether or not one more is put there
  abbrev with_block : Bool → List ℕ → List (List ℕ)
  with_block b next = cond b (put_at blocks (count / 64) next) blocks

  block_stays : (next : List ℕ) (b : Bool) (place : ℕ) → place < count / 64 → slice_get (with_block b next) place ≡ Some (digest_at values (place * 64 + 64))
  block_stays next true place less = put_other blocks (count / 64) place next (λ e. omega (arith, less, e)) (omega (arith, less, kept.more_room)) ∙ kept.multiples place less
  block_stays next false place less = kept.multiples place less

  block_room : (next : List ℕ) (b : Bool) → count / 64 ≤ length (with_block b next)
  block_room next true = omega (arith, kept.more_room, put_long blocks (count / 64) next)
  block_room next false = kept.more_room

  -- without memory for the last of it
  pub half_kept : (next : List ℕ) → IsKept values count digest block recent (with_block (count % 64 == 63) next)
  half_kept next = record {
    few = kept.few;
    is_digest = kept.is_digest;
    is_block = kept.is_block;
    last = kept.last;
    multiples = block_stays next (count % 64 == 63);
    room = kept.room;
    more_room = block_room next (count % 64 == 63);
  }

  module _ (v : Value) (is : slice_get values count ≡ Some v) where
    abbrev next : List ℕ
    next = digest_with digest v

    next_is : next ≡ digest_at values (count + 1)
    next_is = ap (λ d. digest_with d v) kept.is_digest ∙ sym (digest_then values count v is)

    last_then : (slot : ℕ) → slot < count + 1 → count + 1 ≤ slot + 64 → slice_get (put_at recent (count % 64) next) (slot % 64) ≡ Some (digest_at values (slot + 1))
    last_then slot less near = go (nat_lt slot count) refl
      where
        go : (b : Bool) → nat_lt slot count ≡ b → slice_get (put_at recent (count % 64) next) (slot % 64) ≡ Some (digest_at values (slot + 1))
        go true e =
            let before : slot < count = ltb-true slot count e in
            put_other recent (count % 64) (slot % 64) next (apart slot count before (omega (arith, near))) (slot_few slot before) ∙ kept.last slot before (omega (arith, near))
        go false e =
            let same : slot ≡ count = omega (arith, less, ltb-false slot count e) in
            ap (λ n. slice_get (put_at recent (count % 64) next) (n % 64)) same ∙ put_here recent (count % 64) next place_few ∙ ap Some next_is ∙ ap (λ n. Some (digest_at values (n + 1))) (sym same)

    room_then : (64 ≤ length (put_at recent (count % 64) next)) ⊎ (count + 1 ≤ length (put_at recent (count % 64) next))
    room_then = go (nat_lt count 64) refl kept.room
      where
        go : (b : Bool) → nat_lt count 64 ≡ b → (64 ≤ length recent) ⊎ (count ≤ length recent) → (64 ≤ length (put_at recent (count % 64) next)) ⊎ (count + 1 ≤ length (put_at recent (count % 64) next))
        go true e h = inr (omega (arith, ltb-true count 64 e, put_longer recent (count % 64) next place_few))
        go false e (inl h) = inl (omega (arith, h, put_long recent (count % 64) next))
        go false e (inr h) = inl (omega (arith, h, ltb-false count 64 e, put_long recent (count % 64) next))

    multiples_then : (b : Bool) → (count % 64 == 63) ≡ b → (place : ℕ) → place < (count + 1) / 64 → slice_get (with_block b next) place ≡ Some (digest_at values (place * 64 + 64))
    multiples_then true e place less = go (nat_lt place (count / 64)) refl
      where
        full : count % 64 ≡ 63
        full = eqb-true (count % 64) 63 e

        go : (b : Bool) → nat_lt place (count / 64) ≡ b → slice_get (with_block true next) place ≡ Some (digest_at values (place * 64 + 64))
        go true f = block_stays next true place (ltb-true place (count / 64) f)
        go false f =
            let same : place ≡ count / 64 = omega (arith, full, less, ltb-false place (count / 64) f) in
            let here : place * 64 + 64 ≡ count + 1 = omega (arith, full, same) in
            ap (slice_get (put_at blocks (count / 64) next)) same ∙ put_here blocks (count / 64) next kept.more_room ∙ ap Some next_is ∙ ap (λ n. Some (digest_at values n)) (sym here)
    multiples_then false e place less =
        let part : count % 64 ≢ 63 = eqb-false (count % 64) 63 e in
        block_stays next false place (omega (arith, part, less))

    more_room_then : (b : Bool) → (count % 64 == 63) ≡ b → (count + 1) / 64 ≤ length (with_block b next)
    more_room_then true e = omega (arith, eqb-true (count % 64) 63 e, put_longer blocks (count / 64) next kept.more_room)
    more_room_then false e = let part : count % 64 ≢ 63 = eqb-false (count % 64) 63 e in omega (arith, part, kept.more_room)

    block_then : (b : Bool) → (count % 64 == 63) ≡ b → cond b next block ≡ digest_at values (block_at (count + 1))
    block_then true e =
        let here : count + 1 ≡ block_at (count + 1) = omega (arith, eqb-true (count % 64) 63 e) in
        next_is ∙ ap (digest_at values) here
    block_then false e =
        let part : count % 64 ≢ 63 = eqb-false (count % 64) 63 e in
        let same : block_at count ≡ block_at (count + 1) = omega (arith, part) in
        kept.is_block ∙ ap (digest_at values) same

    pub kept_then : IsKept values (count + 1) next (cond (count % 64 == 63) next block) (put_at recent (count % 64) next) (with_block (count % 64 == 63) next)
    kept_then = record {
      few = within values count v is;
      is_digest = next_is;
      is_block = block_then (count % 64 == 63) refl;
      last = last_then;
      multiples = multiples_then (count % 64 == 63) refl;
      room = room_then;
      more_room = more_room_then (count % 64 == 63) refl;
    }

-- ---- of no values

pub kept_none : (values : List Value) → IsKept values 0 no_digest no_digest [] []
kept_none values = record {
  few = omega arith;
  is_digest = sym (digest_none values);
  is_block = sym (digest_none values);
  last = λ slot less near. absurd (omega (arith, less));
  multiples = λ place less. absurd (omega (arith, less));
  room = inr (omega arith);
  more_room = omega arith;
}

-- ---- of other values that have the same first ones

pub same_firsts : (xs ys : List Value) (count : ℕ) (d b : List ℕ) (r l : List (List ℕ)) → ((n : ℕ) → n ≤ count → take n ys ≡ take n xs) → count ≤ length ys → IsKept xs count d b r l → IsKept ys count d b r l
same_firsts xs ys count d b r l same few kept = record {
  few = few;
  is_digest = kept.is_digest ∙ ap digest_of (sym (same count (omega arith)));
  is_block = kept.is_block ∙ ap digest_of (sym (same (block_at count) (omega arith)));
  last = λ slot less near. kept.last slot less near ∙ ap (λ zs. Some (digest_of zs)) (sym (same (slot + 1) (omega (arith, less))));
  multiples = λ place less. kept.multiples place less ∙ ap (λ zs. Some (digest_of zs)) (sym (same (place * 64 + 64) (omega (arith, less))));
  room = kept.room;
  more_room = kept.more_room;
}
