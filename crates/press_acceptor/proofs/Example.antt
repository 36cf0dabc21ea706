-- One member prepares, promises, proposes and votes: the definitions can be met.
use Rattle.std.proofs.Common.{ℕ, ◌≡◌, inl, inr, true, List, [], ◌∷◌, Option, None, refl, subst, arith}
use Rattle.press_wire.specs.declared.ballot.Ballot.{Ballot}
use Rattle.press_acceptor.specs.Ballots.{AtMost}
use Rattle.press_apply.specs.declared.value.Value.{Value}
use Rattle.press_wire.specs.declared.vote.Vote.{Vote}
use Rattle.press_acceptor.specs.Trace.{Fact, Has, Majority, Legal, Chosen}
use Rattle.press_acceptor.specs.Trace.Fact.{Prepared, Promised, Proposed, Voted}
use Rattle.press_acceptor.proofs.Ballots.{at_most-self}

module _ (b : Ballot) (v : Value) where
  abbrev prepared : List Fact
  prepared = Prepared b 1 ∷ []

  abbrev promised : List Fact
  promised = Promised 1 b 1 (λ s. None) ∷ prepared

  abbrev proposed : List Fact
  proposed = Proposed b 1 v ∷ promised

  abbrev pub voted : List Fact
  voted = Voted 1 b 1 v ∷ proposed

  no_promise : (c : Ballot) (block : ℕ) (r : ℕ → Option Vote) → Has prepared (Promised 1 c block r) → ⊥
  no_promise c block r (inl p) = cc
  no_promise c block r (inr h) = h

  no_vote : (c : Ballot) (s : ℕ) (w : Value) → Has prepared (Voted 1 c s w) → ⊥
  no_vote c s w (inl p) = cc
  no_vote c s w (inr h) = h

  no_proposal : (w : Value) → Has promised (Proposed b 1 w) → ⊥
  no_proposal w (inl p) = cc
  no_proposal w (inr (inl p)) = cc
  no_proposal w (inr (inr h)) = h

  no_vote_yet : (c : Ballot) (w : Value) → Has proposed (Voted 1 c 1 w) → ⊥
  no_vote_yet c w (inl p) = cc
  no_vote_yet c w (inr (inl p)) = cc
  no_vote_yet c w (inr (inr h)) = no_vote c 1 w h

  one_promise : (c : Ballot) (r : ℕ → Option Vote) → Has proposed (Promised 1 c 1 r) → AtMost c b
  one_promise c r (inl p) = cc
  one_promise c r (inr (inl p)) = let e : b ≡ c = cc in subst (λ x. AtMost x b) e (at_most-self b)
  one_promise c r (inr (inr h)) = absurd (no_promise c 1 r h)

  -- the one member
  alone : (P : ℕ → Type 0) → P 1 → Majority 1 P
  alone P h = record { group = λ m. true; more_than_half = omega arith; each = λ m i g. let e : 1 ≡ m = omega arith in subst P e h }

  pub voted_legal : Legal 1 (λ s. s) voted
  voted_legal = (
    (inl refl, one_promise, λ c w h. absurd (no_vote_yet c w h)),
    (
      (
        inr (inl refl),
        no_proposal,
        record {
          report = λ m s. None;
          promises = alone (λ m. Has promised (Promised m b 1 (λ s. None))) (inl refl);
          chooses = inl (λ m i g. refl);
        },
      ),
      (
        (inl refl, λ c r h. absurd (no_promise c 1 r h), λ c s w e h. absurd (no_vote c s w h), λ s e c w h. no_vote c s w h),
        (λ block h. h, tt),
      ),
    ),
  )

  pub voted_chosen : Chosen 1 voted 1 v
  voted_chosen = (b, alone (λ m. Has voted (Voted m b 1 v)) (inl refl))
