-- Votes with the numbers of their slots, taken one after another.
use Rattle.std.proofs.Common.{ℕ, ◌≡◌, List, [], ◌∷◌, ◌++◌, Option, None, Some, refl, ap, append_assoc}
use Rattle.press_wire.specs.Votes.{with_pair}
use Rattle.press_wire.specs.declared.vote.Vote.{Vote}
use Rattle.press_wire.specs.declared.votes.SlotVote.{SlotVote}

-- votes behind those that were taken
abbrev pub behind : List SlotVote → Option (List SlotVote) → Option (List SlotVote)
behind votes None = None
behind votes (Some more) = Some (votes ++ more)

pub one_taken : (votes : List SlotVote) (slot : ℕ) (vote : Vote) (more : Option (List SlotVote)) → behind (votes ++ record { slot = slot; vote = vote } ∷ []) more ≡ behind votes (with_pair (Some slot) vote more)
one_taken votes slot vote None = refl
one_taken votes slot vote (Some more) = ap (λ vs. Some vs) (append_assoc votes (record { slot = slot; vote = vote } ∷ []) more)
