-- Slots of a block.
use Rattle.std.proofs.Common.{ℕ, ◌+◌, ◌<◌, ◌≤◌, ◌≡◌, arith}
use Rattle.press_wire.specs.Blocks.{block_of}

pub in_block : (slot block : ℕ) → block_of slot ≡ block → (block ≤ slot) × (slot < block + 16)
unfolding block_of
in_block slot block e = (omega (arith, e), omega (arith, e))

pub of_block : (block slot : ℕ) → block_of block ≡ block → 1 ≤ block → block ≤ slot → slot < block + 16 → block_of slot ≡ block
unfolding block_of
of_block block slot e one low high = omega (arith, e, one, low, high)

pub last_block : (block : ℕ) → block_of block ≡ block → 1 ≤ block → block ≤ 1000000 → block + 16 ≤ 1000001
unfolding block_of
last_block block e one most = omega (arith, e, one, most)

pub one_block : (slot : ℕ) → block_of (block_of slot) ≡ block_of slot
unfolding block_of
one_block slot = omega arith
