-- A legal trace chooses at most one value for a slot: Paxos Made Simple, the condition P2 by P2b and P2c.
-- The induction is on the trace: each proposal in a greater ballot goes back to an earlier proposal.
use Rattle.std.proofs.Common.{ℕ, ◌≡◌, ◌⊎◌, inl, inr, true, List, [], ◌∷◌, ◌++◌, Option, None, Some, refl, sym, subst}
use Rattle.press_apply.specs.declared.value.Value.{Value}
use Rattle.press_wire.specs.declared.vote.Vote.{Vote}
use Rattle.press_acceptor.specs.Trace.{Fact, Has, IsMember, Majority, IsLastVote, MajorityAllows, Allowed, Legal, Chosen}
use Rattle.press_acceptor.specs.Trace.Fact.{Prepared, Promised, Proposed, Voted}
use Rattle.press_acceptor.specs.Ballots.{Less, AtMost}
use Rattle.press_wire.specs.declared.ballot.Ballot.{Ballot}
use Rattle.press_acceptor.proofs.Ballots.{clash, at_most-trans, at_most_cases, compared}
use Rattle.press_acceptor.proofs.Majorities.{shared}

-- a ballot proposes one value for a slot
pub one_proposal : (n : ℕ) (block_of : ℕ → ℕ) (t : List Fact) → Legal n block_of t → (b : Ballot) (s : ℕ) (v w : Value) → Has t (Proposed b s v) → Has t (Proposed b s w) → v ≡ w
one_proposal n block_of [] l b s v w h k = absurd h
one_proposal n block_of (f ∷ t) l b s v w (inl p) (inl q) = cc
one_proposal n block_of (f ∷ t) l b s v w (inl p) (inr k) = let a = subst (Allowed n block_of t) (sym p) l.0 in absurd (a.1 w k)
one_proposal n block_of (f ∷ t) l b s v w (inr h) (inl q) = let a = subst (Allowed n block_of t) (sym q) l.0 in absurd (a.1 v h)
one_proposal n block_of (f ∷ t) l b s v w (inr h) (inr k) = one_proposal n block_of t l.1 b s v w h k

-- what was voted for was proposed
pub proposed_before : (n : ℕ) (block_of : ℕ → ℕ) (t : List Fact) → Legal n block_of t → (m : ℕ) (b : Ballot) (s : ℕ) (v : Value) → Has t (Voted m b s v) → Has t (Proposed b s v)
proposed_before n block_of [] l m b s v h = absurd h
proposed_before n block_of (f ∷ t) l m b s v (inl p) = let a = subst (Allowed n block_of t) (sym p) l.0 in inr a.0
proposed_before n block_of (f ∷ t) l m b s v (inr h) = inr (proposed_before n block_of t l.1 m b s v h)

-- and what was proposed was prepared
pub prepared_before : (n : ℕ) (block_of : ℕ → ℕ) (t : List Fact) → Legal n block_of t → (b : Ballot) (s : ℕ) (v : Value) → Has t (Proposed b s v) → Has t (Prepared b (block_of s))
prepared_before n block_of [] l b s v h = absurd h
prepared_before n block_of (f ∷ t) l b s v (inl p) = let a = subst (Allowed n block_of t) (sym p) l.0 in inr a.0
prepared_before n block_of (f ∷ t) l b s v (inr h) = inr (prepared_before n block_of t l.1 b s v h)

-- a promise reports a vote at least as great as each of the member's votes in a lesser ballot, also of votes that come later
pub reported : (n : ℕ) (block_of : ℕ → ℕ) (t : List Fact) → Legal n block_of t → (m : ℕ) (b c : Ballot) (s : ℕ) (r : ℕ → Option Vote) (w : Value) → Less c b → Has t (Promised m b (block_of s) r) → Has t (Voted m c s w) → (vote : Vote) × (r s ≡ Some vote) × AtMost c vote.ballot
reported n block_of [] l m b c s r w c<b h k = absurd h
reported n block_of (f ∷ t) l m b c s r w c<b (inl p) (inl q) = cc
reported n block_of (f ∷ t) l m b c s r w c<b (inl p) (inr k) = let a = subst (Allowed n block_of t) (sym p) l.0 in last (r s) (a.3 s refl)
  where
    last : (o : Option Vote) → IsLastVote t m s o → (vote : Vote) × (o ≡ Some vote) × AtMost c vote.ballot
    last None none = absurd (none c w k)
    last (Some vote) some = (vote, refl, some.1 c w k)
reported n block_of (f ∷ t) l m b c s r w c<b (inr h) (inl q) = let a = subst (Allowed n block_of t) (sym q) l.0 in absurd (clash b c (a.1 b r h) c<b)
reported n block_of (f ∷ t) l m b c s r w c<b (inr h) (inr k) = reported n block_of t l.1 m b c s r w c<b h k

-- a reported vote was cast
pub cast_before : (n : ℕ) (block_of : ℕ → ℕ) (t : List Fact) → Legal n block_of t → (m : ℕ) (b : Ballot) (s : ℕ) (r : ℕ → Option Vote) (vote : Vote) → r s ≡ Some vote → Has t (Promised m b (block_of s) r) → Has t (Voted m vote.ballot s vote.value)
cast_before n block_of [] l m b s r vote e h = absurd h
cast_before n block_of (f ∷ t) l m b s r vote e (inl p) = let a = subst (Allowed n block_of t) (sym p) l.0 in let last = subst (IsLastVote t m s) e (a.3 s refl) in inr last.0
cast_before n block_of (f ∷ t) l m b s r vote e (inr h) = inr (cast_before n block_of t l.1 m b s r vote e h)

-- What a proposal in a greater ballot goes back to: an earlier proposal of its value, in a ballot from b on.
goes_back : (n : ℕ) (block_of : ℕ → ℕ) (whole : List Fact) → Legal n block_of whole → (b : Ballot) (s : ℕ) (v : Value) → Majority n (λ m. Has whole (Voted m b s v)) → (t : List Fact) → Legal n block_of t → ((f : Fact) → Has t f → Has whole f) → (c : Ballot) (w : Value) → Less b c → MajorityAllows n t c (block_of s) s w → (d : Ballot) × (Less b d ⊎ (b ≡ d)) × Has t (Proposed d s w)
goes_back n block_of whole lw b s v voters t l into c w less allows = from allows.chooses
  where
    -- the members that promised, and their place in the group
    promisers : Majority n (λ m. Has t (Promised m c (block_of s) (allows.report m)) × (allows.promises.group m ≡ true))
    promisers = record { group = allows.promises.group; more_than_half = allows.promises.more_than_half; each = λ m i g. (allows.promises.each m i g, g) }

    -- a member that promised c and voted in b
    both : (m : ℕ) × IsMember n m × (Has t (Promised m c (block_of s) (allows.report m)) × (allows.promises.group m ≡ true)) × Has whole (Voted m b s v)
    both = shared n promisers voters

    told : (vote : Vote) × (allows.report both.0 s ≡ Some vote) × AtMost b vote.ballot
    told = reported n block_of whole lw both.0 c b s (allows.report both.0) v less (into (Promised both.0 c (block_of s) (allows.report both.0)) both.2.0) both.3

    from : ((m : ℕ) → IsMember n m → allows.promises.group m ≡ true → allows.report m s ≡ None) ⊎ ((m : ℕ) × (best : Vote) × IsMember n m × (allows.promises.group m ≡ true) × (allows.report m s ≡ Some best) × (best.value ≡ w) × ((o : ℕ) (vote : Vote) → IsMember n o → allows.promises.group o ≡ true → allows.report o s ≡ Some vote → AtMost vote.ballot best.ballot)) → (d : Ballot) × (Less b d ⊎ (b ≡ d)) × Has t (Proposed d s w)
    from (inl none) = let e = none both.0 both.1 both.2.1 in let e' = told.1 in cc
    from (inr q) =
        let best = q.1 in
        let voted = cast_before n block_of t l q.0 c s (allows.report q.0) best q.4 (allows.promises.each q.0 q.2 q.3) in
        let proposed = proposed_before n block_of t l q.0 best.ballot s best.value voted in
        let far = at_most-trans b told.0.ballot best.ballot told.2 (q.6 both.0 told.0 both.1 both.2.1 told.1) in
        (best.ballot, at_most_cases b best.ballot far, subst (λ x. Has t (Proposed best.ballot s x)) q.5 proposed)

-- Once a majority of the whole trace voted for v in ballot b, each proposal in a ballot from b on is v. t is what stood at an earlier moment.
pub kept : (n : ℕ) (block_of : ℕ → ℕ) (whole : List Fact) → Legal n block_of whole → (b : Ballot) (s : ℕ) (v : Value) → Majority n (λ m. Has whole (Voted m b s v)) → (t : List Fact) → Legal n block_of t → ((f : Fact) → Has t f → Has whole f) → (c : Ballot) (w : Value) → Less b c ⊎ (b ≡ c) → Has t (Proposed c s w) → w ≡ v
kept n block_of whole lw b s v voters [] l into c w from h = absurd h
kept n block_of whole lw b s v voters (f ∷ t) l into c w from (inr h) = kept n block_of whole lw b s v voters t l.1 (λ g k. into g (inr k)) c w from h
kept n block_of whole lw b s v voters (f ∷ t) l into c w (inr same) (inl p) =
    let voter = shared n voters voters in
    let proposed = proposed_before n block_of whole lw voter.0 b s v voter.2 in
    one_proposal n block_of whole lw c s w v (into (Proposed c s w) (inl p)) (subst (λ d. Has whole (Proposed d s v)) same proposed)
kept n block_of whole lw b s v voters (f ∷ t) l into c w (inl less) (inl p) =
    let a = subst (Allowed n block_of t) (sym p) l.0 in
    let back = goes_back n block_of whole lw b s v voters t l.1 (λ g k. into g (inr k)) c w less a.2 in
    kept n block_of whole lw b s v voters t l.1 (λ g k. into g (inr k)) back.0 w back.1 back.2

-- in a legal trace at most one value is chosen for a slot
pub one_chosen : (n : ℕ) (block_of : ℕ → ℕ) (t : List Fact) → Legal n block_of t → (s : ℕ) (v w : Value) → Chosen n t s v → Chosen n t s w → v ≡ w
one_chosen n block_of t l s v w h k = by_order (compared h.0 k.0)
  where
    later : (x y : Value) (p : Chosen n t s x) (q : Chosen n t s y) → Less p.0 q.0 ⊎ (p.0 ≡ q.0) → y ≡ x
    later x y p q from =
        let voter = shared n q.1 q.1 in
        kept n block_of t l p.0 s x p.1 t l (λ f i. i) q.0 y from (proposed_before n block_of t l voter.0 q.0 s y voter.2)

    by_order : Less h.0 k.0 ⊎ ((h.0 ≡ k.0) ⊎ Less k.0 h.0) → v ≡ w
    by_order (inl less) = sym (later v w h k (inl less))
    by_order (inr (inl same)) = sym (later v w h k (inr same))
    by_order (inr (inr less)) = later w v k h (inl less)

-- a fact stays in the trace
pub has_later : (later earlier : List Fact) (f : Fact) → Has earlier f → Has (later ++ earlier) f
has_later [] earlier f h = h
has_later (g ∷ later) earlier f h = inr (has_later later earlier f h)

-- and what is chosen stays chosen
pub chosen_later : (n : ℕ) (later earlier : List Fact) (s : ℕ) (v : Value) → Chosen n earlier s v → Chosen n (later ++ earlier) s v
chosen_later n later earlier s v h = (h.0, record { group = h.1.group; more_than_half = h.1.more_than_half; each = λ m i g. has_later later earlier (Voted m h.0 s v) (h.1.each m i g) })
