-- Two majorities have a member in common, so one ballot at most has a majority of the kept votes for a slot.
use Rattle.std.proofs.Common.{ℕ, zero, suc, ◌+◌, ◌*◌, ◌<◌, ◌≤◌, ◌≡◌, ◌⊎◌, inl, inr, Bool, true, false, cond, nat_lt, IsSome, is_some, List, Option, Some, None, refl, sym, ap, subst, ◌∙◌, arith}
use Rattle.std.proofs.lemmas.Bool.{and_from, and_parts, eqb-true, eq-eqb, ltb-true, lt-ltb, true≢false, cases_order}
use Rattle.std.specs.List.{range_with_len}
use Rattle.press_text.proofs.InCommon.{common}
use Rattle.press_apply.specs.declared.value.Value.{Value}
use Rattle.press_wire.specs.Ballots.{is_same}
use Rattle.press_wire.specs.declared.ballot.Ballot.{Ballot}
use Rattle.press_wire.specs.declared.vote.Vote.{Vote}
use Rattle.press_learner.specs.Chosen.{IsChosenByKept, ballot_count, chosen_next, first_majority_value, has_ballot, or_else, majority_value}
use Rattle.press_learner.specs.Kept.{KeptVotes, IsWindow, next_slot, vote_at}

-- ---- ballots

same_ballot : (b c : Ballot) → is_same b c ≡ true → b ≡ c
same_ballot b c e =
    let r = and_parts _ _ e in
    let rounds : b.round ≡ c.round = eqb-true b.round c.round r.0 in
    let nodes : b.node ≡ c.node = eqb-true b.node c.node r.1 in
    λ i. record { round = rounds i; node = nodes i }

is_itself : (b : Ballot) → is_same b b ≡ true
is_itself b = and_from _ _ (eq-eqb b.round b.round refl) (eq-eqb b.node b.node refl)

-- one vote is of one ballot
one_ballot : (o : Option Vote) (b c : Ballot) → has_ballot o b ≡ true → has_ballot o c ≡ true → b ≡ c
one_ballot None b c e f = absurd (true≢false (sym e))
one_ballot (Some vote) b c e f = sym (same_ballot vote.ballot b e) ∙ same_ballot vote.ballot c f

abbrev HasMajority : KeptVotes → ℕ → Ballot → Type 0
HasMajority k slot b = k.members < 2 * ballot_count k slot b

one_majority : (k : KeptVotes) (slot : ℕ) (b c : Ballot) → HasMajority k slot b → HasMajority k slot c → b ≡ c
one_majority k slot b c h g =
    let r = common (λ member. has_ballot (vote_at k slot member) b) (λ member. has_ballot (vote_at k slot member) c) 1 k.members (omega (arith, h, g)) in
    one_ballot (vote_at k slot r.0) b c r.3 r.4

-- ---- the value of a member's vote

abbrev Wins : KeptVotes → ℕ → Option Vote → Value → Type 0
Wins k slot o value = (b : Ballot) × (o ≡ Some (record { ballot = b; value = value })) × HasMajority k slot b

same_value : (x y : Value) → Some x ≡ Some y → x ≡ y
same_value x y e = cc

wins : (k : KeptVotes) (slot : ℕ) (o : Option Vote) (value : Value) → majority_value k slot o ≡ Some value → Wins k slot o value
wins k slot None value e = cc
wins k slot (Some vote) value e = go (nat_lt k.members (2 * ballot_count k slot vote.ballot)) refl e
  where
    go : (t : Bool) → nat_lt k.members (2 * ballot_count k slot vote.ballot) ≡ t → cond t (Some vote.value) None ≡ Some value → Wins k slot (Some vote) value
    go true h e = (vote.ballot, ap (λ (v : Value). Some (record { ballot = vote.ballot; value = v })) (same_value vote.value value e), ltb-true k.members (2 * ballot_count k slot vote.ballot) h)
    go false h e = cc

has_won : (k : KeptVotes) (slot : ℕ) (b : Ballot) (value : Value) → HasMajority k slot b → majority_value k slot (Some (record { ballot = b; value = value })) ≡ Some value
has_won k slot b value h = ap (λ t. cond t (Some value) None) (lt-ltb k.members (2 * ballot_count k slot b) h)

-- where nothing is won, the vote isn't of a ballot of a majority
not_won : (k : KeptVotes) (slot : ℕ) (b : Ballot) (o : Option Vote) → HasMajority k slot b → majority_value k slot o ≡ None → has_ballot o b ≡ false
not_won k slot b None h e = refl
not_won k slot b (Some vote) h e = go (is_same vote.ballot b) refl
  where
    go : (t : Bool) → is_same vote.ballot b ≡ t → t ≡ false
    go true f = absurd (true≢false (ap is_some (sym (has_won k slot vote.ballot vote.value (subst (HasMajority k slot) (sym (same_ballot vote.ballot b f)) h)) ∙ e)))
    go false f = refl

-- and a vote that isn't of the majority's ballot wins nothing
wins_nothing : (k : KeptVotes) (slot : ℕ) (b : Ballot) (o : Option Vote) → HasMajority k slot b → has_ballot o b ≡ false → majority_value k slot o ≡ None
wins_nothing k slot b o h e = go (majority_value k slot o) refl
  where
    go : (r : Option Value) → majority_value k slot o ≡ r → r ≡ None
    go None f = refl
    go (Some value) f =
        let w = wins k slot o value f in
        let same : w.0 ≡ b = one_majority k slot w.0 b w.2 h in
        absurd (true≢false (sym (is_itself w.0) ∙ ap (is_same w.0) same ∙ sym (ap (λ (o : Option Vote). has_ballot o b) w.1) ∙ e))

-- ---- the first that won

abbrev IsFirst : KeptVotes → ℕ → ℕ → ℕ → Value → ℕ → Type 0
IsFirst k slot a n value m = (a ≤ m) × (m < a + n) × (majority_value k slot (vote_at k slot m) ≡ Some value) × ((o : ℕ) → a ≤ o → o < m → majority_value k slot (vote_at k slot o) ≡ None)

before : (k : KeptVotes) (slot a m : ℕ) → majority_value k slot (vote_at k slot a) ≡ None → ((o : ℕ) → a + 1 ≤ o → o < m → majority_value k slot (vote_at k slot o) ≡ None) → (o : ℕ) → a ≤ o → o < m → majority_value k slot (vote_at k slot o) ≡ None
before k slot a m f h o g l = go (cases_order a o)
  where
    go : (a ≡ o) ⊎ ((a < o) ⊎ (o < a)) → majority_value k slot (vote_at k slot o) ≡ None
    go (inl e) = subst (λ x. majority_value k slot (vote_at k slot x) ≡ None) e f
    go (inr (inl lt)) = h o (omega (arith, lt)) l
    go (inr (inr gt)) = absurd (omega (arith, gt, g))

first_of : (k : KeptVotes) (slot a n : ℕ) (value : Value) → first_majority_value k slot (range_with_len a n) ≡ Some value → (m : ℕ) × IsFirst k slot a n value m
first_of k slot a zero value e = cc
first_of k slot a (suc n) value e = go (majority_value k slot (vote_at k slot a)) refl e (first_of k slot (a + 1) n value)
  where
    rest : List ℕ
    rest = range_with_len (a + 1) n

    go : (r : Option Value) → majority_value k slot (vote_at k slot a) ≡ r → or_else r (first_majority_value k slot rest) ≡ Some value → (first_majority_value k slot rest ≡ Some value → (m : ℕ) × IsFirst k slot (a + 1) n value m) → (m : ℕ) × IsFirst k slot a (suc n) value m
    go (Some v) f e later = (a, (omega arith, omega arith, f ∙ e, λ o g h. absurd (omega (arith, g, h))))
    go None f e later =
        let r = later e in
        (r.0, (omega (arith, r.1.0), omega (arith, r.1.1), r.1.2, before k slot a r.0 f r.1.3))

is_first : (k : KeptVotes) (slot a n m : ℕ) (value : Value) → IsFirst k slot a n value m → first_majority_value k slot (range_with_len a n) ≡ Some value
is_first k slot a zero m value f = absurd (omega (arith, f.0, f.1))
is_first k slot a (suc n) m value f = go (cases_order a m) (is_first k slot (a + 1) n m value)
  where
    rest : List ℕ
    rest = range_with_len (a + 1) n

    go : (a ≡ m) ⊎ ((a < m) ⊎ (m < a)) → (IsFirst k slot (a + 1) n value m → first_majority_value k slot rest ≡ Some value) → or_else (majority_value k slot (vote_at k slot a)) (first_majority_value k slot rest) ≡ Some value
    go (inl e) later = ap (λ r. or_else r (first_majority_value k slot rest)) (subst (λ x. majority_value k slot (vote_at k slot x) ≡ Some value) (sym e) f.2)
    go (inr (inl lt)) later =
        ap (λ r. or_else r (first_majority_value k slot rest)) (f.3 a (omega arith) lt)
        ∙ later (omega (arith, lt), omega (arith, f.1), f.2, λ o g l. f.3 o (omega (arith, g)) l)
    go (inr (inr gt)) later = absurd (omega (arith, gt, f.0))

-- ---- what is chosen

pub majority_of_chosen : (k : KeptVotes) (value : Value) → chosen_next k ≡ Some value → IsChosenByKept k value
unfolding chosen_next
majority_of_chosen k value e =
    let f = first_of k (next_slot k) 1 k.members value e in
    let w = wins k (next_slot k) (vote_at k (next_slot k) f.0) value f.1.2 in
    record {
      ballot = w.0;
      more_than_half = w.2;
      member = f.0;
      is_member = (f.1.0, omega (arith, f.1.1));
      voted = w.1;
      is_least = λ other g l. not_won k (next_slot k) w.0 (vote_at k (next_slot k) other) w.2 (f.1.3 other g l);
    }

pub chosen_of_majority : (k : KeptVotes) (value : Value) → IsChosenByKept k value → chosen_next k ≡ Some value
unfolding chosen_next
chosen_of_majority k value c =
    let slot = next_slot k in
    is_first k slot 1 k.members c.member value (
      c.is_member.0,
      omega (arith, c.is_member.1),
      ap (majority_value k slot) c.voted ∙ has_won k slot c.ballot value c.more_than_half,
      λ other g l. wins_nothing k slot c.ballot (vote_at k slot other) c.more_than_half (c.is_least other g l),
    )

some_of : (o : Option Value) → IsSome o → (value : Value) × (o ≡ Some value)
some_of None h = absurd (true≢false (sym h))
some_of (Some value) h = (value, refl)

-- the next slot is one of those that there are
pub chosen_before_last : (k : KeptVotes) → IsWindow k → IsSome (chosen_next k) → k.applied < 1000000
chosen_before_last k w h =
    let v = some_of (chosen_next k) h in
    let c = majority_of_chosen k v.0 v.1 in
    omega (arith, (w (next_slot k) c.member (ap is_some c.voted)).1)
