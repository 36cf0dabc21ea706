-- One promise more.
use Rattle.std.proofs.Common.{ℕ, ◌≡◌, ◌++◌, Option, None, List, [], ◌∷◌, refl}
use Rattle.press_wire.specs.Votes.{vote_in}
use Rattle.press_wire.specs.declared.vote.Vote.{Vote}
use Rattle.press_proposer.specs.Promises.{better, best_after, best_of}
use Rattle.press_proposer.specs.declared.promises.Promise.{Promise}

best_after_push : (slot : ℕ) (best : Option Vote) (promises : List Promise) (last : Promise) → best_after slot best (promises ++ last ∷ []) ≡ better (best_after slot best promises) (vote_in last.votes slot)
best_after_push slot best [] last = refl
best_after_push slot best (promise ∷ later) last = best_after_push slot (better best (vote_in promise.votes slot)) later last

pub best_of_push : (slot : ℕ) (promises : List Promise) (last : Promise) → best_of slot (promises ++ last ∷ []) ≡ better (best_of slot promises) (vote_in last.votes slot)
best_of_push slot promises last = best_after_push slot None promises last
