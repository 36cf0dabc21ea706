-- What the statements of a save make of the maps.
use Rattle.std.specs.Prelude.{◌≡◌, ℕ, IsSome}
use Rattle.std.specs.FinMap as map
use Rattle.press_wire.specs.Blocks.{block_of}
use Rattle.press_wire.specs.declared.ballot.Ballot.{Ballot}
use Rattle.press_wire.specs.declared.vote.Vote.{Vote}
use Rattle.press_acceptor.specs.StoreMap.{StoreMap, promise_of, with_promise}

-- the promise is saved
abbrev pub PutsPromise : ℕ → Ballot → StoreMap → StoreMap → Type 0
PutsPromise first ballot old new = new ≡ with_promise old first ballot

-- the vote alone is saved, in a block that has promised
abbrev pub AddsVote : ℕ → Vote → StoreMap → StoreMap → Type 0
AddsVote slot vote old new = IsSome (promise_of old (block_of slot)) → new ≡ record { promises = old.promises; votes = map.insert old.votes slot vote; last_round = old.last_round }
