-- Digests of fronts of a list.
use Rattle.std.proofs.Common.{ℕ, zero, suc, ◌+◌, ◌≤◌, ◌≡◌, List, [], ◌∷◌, ◌++◌, length, slice_get, take, Some, refl, ap, ◌∙◌, arith}
use Rattle.press_apply.specs.declared.value.Value.{Value}
use Rattle.press_chain.specs.Chains.{digest_at, digest_behind, digest_of, digest_with, no_digest}

behind_one : (d : List ℕ) (values : List Value) (v : Value) → digest_behind d (values ++ v ∷ []) ≡ digest_with (digest_behind d values) v
unfolding digest_behind
behind_one d [] v = refl
behind_one d (w ∷ values) v = behind_one (digest_with d w) values v

one_more : (values : List Value) (count : ℕ) (v : Value) → slice_get values count ≡ Some v → take (suc count) values ≡ take count values ++ v ∷ []
one_more [] count v is = absurd (let e = is in cc)
one_more (w ∷ values) zero v is = let e : w ≡ v = cc in ap (λ x. x ∷ []) e
one_more (w ∷ values) (suc count) v is = ap (λ xs. w ∷ xs) (one_more values count v is)

-- the digest behind one value more
pub digest_then : (values : List Value) (count : ℕ) (v : Value) → slice_get values count ≡ Some v → digest_at values (count + 1) ≡ digest_with (digest_at values count) v
digest_then values count v is =
    let k : count + 1 ≡ suc count = omega arith in
    ap (λ n. digest_at values n) k ∙ ap digest_of (one_more values count v is) ∙ behind_one no_digest (take count values) v

pub digest_none : (values : List Value) → digest_at values 0 ≡ no_digest
unfolding digest_behind
digest_none values = refl

pub within : (values : List Value) (count : ℕ) (v : Value) → slice_get values count ≡ Some v → count + 1 ≤ length values
within [] count v is = absurd (let e = is in cc)
within (w ∷ values) zero v is = omega arith
within (w ∷ values) (suc count) v is = omega (arith, within values count v is)
