-- What is seen of a vote, out of its block.
use Rattle.std.proofs.Common.{ℕ, ◌+◌, ◌%◌, ◌≡◌, false, None, sym, ap, ◌∙◌, arith}
use Rattle.std.proofs.lemmas.Bool.{eqb-false}
use Rattle.press_wire.specs.Blocks.{block_of, is_last}
use Rattle.press_wire.specs.Votes.{vote_in}
use Rattle.press_acceptor.specs.StoreMap.{StoreMap, block_at, block_votes, new_block, vote_of}
use Rattle.press_acceptor.specs.declared.block.Block.{Block}
use Rattle.press_acceptor.proofs.Rows.{row_read}

pub vote_read : (store : StoreMap) (slot : ℕ) → vote_in (block_votes store (block_of slot)) slot ≡ vote_of store slot
vote_read store slot = row_read store slot

pub no_vote : (store : StoreMap) (slot : ℕ) → block_at store (block_of slot) ≡ new_block → vote_of store slot ≡ None
no_vote store slot e = sym (row_read store slot) ∙ ap (λ (b : Block). vote_in b.votes slot) e

-- the slot behind one that isn't the last of its block
pub next_block : (slot : ℕ) → is_last slot ≡ false → block_of slot ≡ block_of (slot + 1)
unfolding block_of is_last
next_block slot e = let h = eqb-false (slot % 16) 0 e in omega (arith, h)
