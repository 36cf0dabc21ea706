-- What the learner's calls come to.
use Rattle.std.proofs.Common.{ℕ, suc, ◌+◌, ◌-◌, ◌<◌, ◌≤◌, ◌≡◌, Bool, true, false, cond, ◌&&◌, nat_lt, nat_le, Some, None, sym, ap, ◌∙◌, arith}
use Rattle.std.proofs.lemmas.Bool.{lt-ltb, le-ltb}
use Rattle.std.proofs.lemmas.List.FromFn.{length-range_with_len}
use Rattle.std.proofs.lemmas.List.Sums.{count_by-le-length}
use Rattle.std.specs.List.{range_with_len}
use Rattle.press_apply.specs.declared.value.Value.{Value}
use Rattle.press_wire.specs.declared.ballot.Ballot.{Ballot}
use Rattle.press_wire.specs.declared.vote.Vote.{Vote}
use Rattle.press_learner.specs.Chosen.{ballot_count, chosen_next, first_majority_value, has_ballot, or_else, majority_value}
use Rattle.press_learner.specs.Kept.{KeptVotes, is_in_window, is_news, kept_with, next_slot, vote_at, with_vote}

-- no more than there are members
pub count_within : (k : KeptVotes) (slot : ℕ) (ballot : Ballot) → ballot_count k slot ballot ≤ k.members
count_within k slot ballot =
    let test : ℕ → Bool = λ member. has_ballot (vote_at k slot member) ballot in
    omega (arith, count_by-le-length test (range_with_len 1 k.members), length-range_with_len 1 k.members)

-- ---- the first that won, from this member on

abbrev pub FirstFrom : KeptVotes → ℕ → ℕ → Type 0
FirstFrom k slot i = (m : ℕ) → i + m ≡ k.members → first_majority_value k slot (range_with_len (i + 1) m) ≡ first_majority_value k slot (range_with_len 1 k.members)

pub first_start : (k : KeptVotes) (slot : ℕ) → FirstFrom k slot 0
first_start k slot m e = let n : m ≡ k.members = omega arith in ap (λ x. first_majority_value k slot (range_with_len 1 x)) n

pub first_more : (k : KeptVotes) (slot i : ℕ) → None ≡ majority_value k slot (vote_at k slot (i + 1)) → FirstFrom k slot i → FirstFrom k slot (i + 1)
first_more k slot i none h m e = ap (λ o. or_else o (first_majority_value k slot (range_with_len (i + 1 + 1) m))) none ∙ h (suc m) (omega arith)

first_some : (k : KeptVotes) (slot i m : ℕ) (value : Value) → Some value ≡ majority_value k slot (vote_at k slot (i + 1)) → Some value ≡ first_majority_value k slot (range_with_len (i + 1) (suc m))
first_some k slot i m value some = ap (λ o. or_else o (first_majority_value k slot (range_with_len (i + 1 + 1) m))) some

pub first_here : (k : KeptVotes) (i : ℕ) (value : Value) → i < k.members → Some value ≡ majority_value k (next_slot k) (vote_at k (next_slot k) (i + 1)) → FirstFrom k (next_slot k) i → Some value ≡ chosen_next k
unfolding chosen_next
first_here k i value lt some h = first_some k (next_slot k) i (k.members - (i + 1)) value some ∙ h (suc (k.members - (i + 1))) (omega arith)

pub first_none : (k : KeptVotes) (i : ℕ) → k.members ≤ i → i ≤ k.members → FirstFrom k (next_slot k) i → None ≡ chosen_next k
unfolding chosen_next
first_none k i a b h = h 0 (omega arith)

-- ---- a vote that comes

pub within_then : (a b slot : ℕ) → a < slot → a ≡ b → nat_le slot (a + 64) ≡ is_in_window b slot
unfolding is_in_window
within_then a b slot lt e = ap (λ t. t && nat_le slot (a + 64)) (sym (lt-ltb a slot lt)) ∙ ap (λ x. nat_lt x slot && nat_le slot (x + 64)) e

pub within_else : (a b slot : ℕ) → slot ≤ a → a ≡ b → nat_lt a slot ≡ is_in_window b slot
unfolding is_in_window
within_else a b slot le e = le-ltb a slot le ∙ ap (λ t. t && nat_le slot (a + 64)) (sym (le-ltb a slot le)) ∙ ap (λ x. nat_lt x slot && nat_le slot (x + 64)) e

pub is_kept : (k : KeptVotes) (from slot : ℕ) (vote : Vote) → is_in_window k.applied slot ≡ true → is_news (vote_at k slot from) vote.ballot ≡ true → kept_with k from slot vote ≡ with_vote k from slot vote
is_kept k from slot vote e f = sym (ap (λ b. cond (b && is_news (vote_at k slot from) vote.ballot) (kept_with k from slot vote) k) e ∙ ap (λ b. cond b (kept_with k from slot vote) k) f)

pub is_dropped : (k : KeptVotes) (from slot : ℕ) (vote : Vote) → is_in_window k.applied slot ≡ true → is_news (vote_at k slot from) vote.ballot ≡ false → k ≡ with_vote k from slot vote
is_dropped k from slot vote e f = sym (ap (λ b. cond (b && is_news (vote_at k slot from) vote.ballot) (kept_with k from slot vote) k) e ∙ ap (λ b. cond b (kept_with k from slot vote) k) f)

pub is_outside : (k : KeptVotes) (from slot : ℕ) (vote : Vote) → is_in_window k.applied slot ≡ false → k ≡ with_vote k from slot vote
is_outside k from slot vote e = sym (ap (λ b. cond (b && is_news (vote_at k slot from) vote.ballot) (kept_with k from slot vote) k) e)
