-- What a promise for a block keeps from its slots.
use Rattle.std.proofs.Common.{ℕ, ◌≡◌, true, Option, None, Some, refl, ap, ◌∙◌}
use Rattle.std.proofs.lemmas.Bool.{cond-true}
use Rattle.press_wire.specs.Ballots.{is_less}
use Rattle.press_wire.specs.Blocks.{block_of}
use Rattle.press_wire.specs.declared.ballot.Ballot.{Ballot}
use Rattle.press_wire.specs.declared.vote.Vote.{Vote}
use Rattle.press_acceptor.specs.StoreMap.{StoreMap, promise_of, vote_of}
use Rattle.press_acceptor.specs.Turns.{accept_by, accept_turn, cast_in, if_less}

nothing_saved : (cast : Option Vote) (promised : Ballot) (slot : ℕ) (vote : Vote) → (accept_by cast (Some promised) slot vote).save ≡ None
nothing_saved None promised slot vote = refl
nothing_saved (Some cast) promised slot vote = refl

pub nothing_below : (store : StoreMap) (slot : ℕ) (vote : Vote) (promised : Ballot) → promise_of store (block_of slot) ≡ Some promised → is_less vote.ballot promised ≡ true → (accept_turn store slot vote).save ≡ None
nothing_below store slot vote promised e less =
    ap (λ o. (accept_by (cast_in (vote_of store slot) vote.ballot) (if_less o vote.ballot) slot vote).save) e
    ∙ ap (λ o. (accept_by (cast_in (vote_of store slot) vote.ballot) o slot vote).save) (cond-true (is_less vote.ballot promised) (Some promised) None less)
    ∙ nothing_saved (cast_in (vote_of store slot) vote.ballot) promised slot vote
