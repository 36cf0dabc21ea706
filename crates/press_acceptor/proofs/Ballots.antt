-- The order of ballots.
use Rattle.std.proofs.Common.{◌<◌, ◌≡◌, ◌≢◌, ◌⊎◌, inl, inr, true, false, ◌&&◌, nat_eq, nat_lt, refl, subst, arith}
use Rattle.std.proofs.lemmas.Bool.{cases_order, or_cases, and_parts, and_from, or_parts, ltb-true, eqb-true, eq-eqb, lt-ltb, both_ways}
use Rattle.press_acceptor.specs.Ballots.{Less, AtMost}
use Rattle.press_wire.specs.Ballots.{is_less, is_same}
use Rattle.press_wire.specs.declared.ballot.Ballot.{Ballot}

pub clash : (a b : Ballot) → AtMost a b → Less b a → ⊥
clash a b h k = omega arith

pub at_most-trans : (a b c : Ballot) → AtMost a b → AtMost b c → AtMost a c
at_most-trans a b c (inl h) (inl k) = inl (omega arith)
at_most-trans a b c (inl h) (inr k) = inl (omega arith)
at_most-trans a b c (inr h) (inl k) = inl (omega arith)
at_most-trans a b c (inr h) (inr k) = inr (omega arith, omega arith)

-- as records with equal fields
pub same_ballot : (a b : Ballot) → a.round ≡ b.round → a.node ≡ b.node → a ≡ b
same_ballot a b e f = λ i. record { round = e i; node = f i }

-- a is less, or they are equal, or b is less
pub compared : (a b : Ballot) → Less a b ⊎ ((a ≡ b) ⊎ Less b a)
compared a b = by_round (cases_order a.round b.round)
  where
    by_node : a.round ≡ b.round → (a.node ≡ b.node) ⊎ ((a.node < b.node) ⊎ (b.node < a.node)) → Less a b ⊎ ((a ≡ b) ⊎ Less b a)
    by_node e (inl f) = inr (inl (same_ballot a b e f))
    by_node e (inr (inl f)) = inl (inr (e, f))
    by_node e (inr (inr f)) = inr (inr (inr (omega arith, f)))

    by_round : (a.round ≡ b.round) ⊎ ((a.round < b.round) ⊎ (b.round < a.round)) → Less a b ⊎ ((a ≡ b) ⊎ Less b a)
    by_round (inl e) = by_node e (cases_order a.node b.node)
    by_round (inr (inl h)) = inl (inl h)
    by_round (inr (inr h)) = inr (inr (inl h))

pub at_most_cases : (a b : Ballot) → AtMost a b → Less a b ⊎ (a ≡ b)
at_most_cases a b h = go (compared a b)
  where
    go : Less a b ⊎ ((a ≡ b) ⊎ Less b a) → Less a b ⊎ (a ≡ b)
    go (inl k) = inl k
    go (inr (inl e)) = inr e
    go (inr (inr k)) = absurd (clash a b h k)

pub at_most-self : (a : Ballot) → AtMost a a
at_most-self a = inr (refl, omega arith)

pub less_at_most : (a b : Ballot) → Less a b → AtMost a b
less_at_most a b (inl h) = inl h
less_at_most a b (inr h) = inr (h.0, omega arith)

pub at_most_less : (a b c : Ballot) → AtMost a b → Less b c → Less a c
at_most_less a b c (inl h) (inl k) = inl (omega arith)
at_most_less a b c (inl h) (inr k) = inl (omega arith)
at_most_less a b c (inr h) (inl k) = inl (omega arith)
at_most_less a b c (inr h) (inr k) = inr (omega arith, omega arith)

pub less_at_most_less : (a b c : Ballot) → Less a b → AtMost b c → Less a c
less_at_most_less a b c (inl h) (inl k) = inl (omega arith)
less_at_most_less a b c (inl h) (inr k) = inl (omega arith)
less_at_most_less a b c (inr h) (inl k) = inl (omega arith)
less_at_most_less a b c (inr h) (inr k) = inr (omega arith, omega arith)

-- ---- the tests

pub is_less-true : (b c : Ballot) → is_less b c ≡ true → Less b c
is_less-true b c h = go (or_cases (nat_lt b.round c.round) (nat_eq b.round c.round && nat_lt b.node c.node) h)
  where
    go : (nat_lt b.round c.round ≡ true) ⊎ ((nat_eq b.round c.round && nat_lt b.node c.node) ≡ true) → Less b c
    go (inl k) = inl (ltb-true b.round c.round k)
    go (inr k) = let p = and_parts (nat_eq b.round c.round) (nat_lt b.node c.node) k in inr (eqb-true b.round c.round p.0, ltb-true b.node c.node p.1)

pub is_same-true : (b c : Ballot) → is_same b c ≡ true → b ≡ c
is_same-true b c h = let p = and_parts (nat_eq b.round c.round) (nat_eq b.node c.node) h in same_ballot b c (eqb-true b.round c.round p.0) (eqb-true b.node c.node p.1)

pub is_same-self : (b : Ballot) → is_same b b ≡ true
is_same-self b = and_from (nat_eq b.round b.round) (nat_eq b.node b.node) (eq-eqb b.round b.round refl) (eq-eqb b.node b.node refl)

pub is_same-false : (b c : Ballot) → is_same b c ≡ false → b ≢ c
is_same-false b c h e = both_ways (is_same b c) h (subst (λ d. is_same b d ≡ true) e (is_same-self b))

pub is_less-false : (b c : Ballot) → is_less b c ≡ false → AtMost c b
is_less-false b c h = go (compared b c)
  where
    parts : (nat_lt b.round c.round ≡ false) × ((nat_eq b.round c.round && nat_lt b.node c.node) ≡ false)
    parts = or_parts (nat_lt b.round c.round) (nat_eq b.round c.round && nat_lt b.node c.node) h

    go : Less b c ⊎ ((b ≡ c) ⊎ Less c b) → AtMost c b
    go (inl (inl k)) = absurd (both_ways _ parts.0 (lt-ltb b.round c.round k))
    go (inl (inr k)) = absurd (both_ways _ parts.1 (and_from (nat_eq b.round c.round) (nat_lt b.node c.node) (eq-eqb b.round c.round k.0) (lt-ltb b.node c.node k.1)))
    go (inr (inl e)) = subst (λ d. AtMost d b) e (at_most-self b)
    go (inr (inr k)) = less_at_most c b k
