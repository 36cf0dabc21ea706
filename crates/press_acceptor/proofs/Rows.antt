-- What is kept for a slot, out of its block.
use Rattle.std.proofs.Common.{ℕ, ◌≡◌, refl}
use Rattle.press_wire.specs.Blocks.{block_of, slots_of}
use Rattle.press_wire.specs.Votes.{vote_in, votes_at}
use Rattle.press_wire.proofs.Blocks.{in_block}
use Rattle.press_wire.proofs.Collected.{vote_in_block}
use Rattle.press_acceptor.specs.StoreMap.{StoreMap, vote_of}

pub row_read : (store : StoreMap) (slot : ℕ) → vote_in (votes_at (vote_of store) (slots_of (block_of slot))) slot ≡ vote_of store slot
row_read store slot = let b = in_block slot (block_of slot) refl in vote_in_block (vote_of store) (block_of slot) slot b.0 b.1
