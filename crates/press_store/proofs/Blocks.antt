-- The first slots of blocks.
use Rattle.std.proofs.Common.{◌≡◌, ◌<◌, ◌/◌, ℕ, true, arith}
use Rattle.std.proofs.lemmas.Bool.{eq-eqb}
use Rattle.press_wire.specs.Blocks.{block_of, is_first}
use Rattle.press_acceptor.proofs.Maps.{IsSlot}
use Rattle.press_store.specs.Moving.{all_blocks, first_behind}
use Rattle.press_store.proofs.Maps.{first_is}

pub first_is_first : (j : ℕ) → is_first (first_behind j) ≡ true
unfolding block_of
first_is_first j = eq-eqb (block_of (first_behind j)) (first_behind j) (omega arith)

-- the first slot of a block stands behind so many blocks
pub behind_some : (first : ℕ) → IsSlot first → is_first first ≡ true → (j : ℕ) × (j < all_blocks) × (first_behind j ≡ first)
unfolding block_of
behind_some first i e =
    let own = first_is first e in
    (first / 16, omega (arith, i.0, i.1, own), omega (arith, i.0, i.1, own))
