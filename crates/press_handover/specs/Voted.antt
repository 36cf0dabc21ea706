-- The values of a store's votes, from slot 1 up to the first slot without one; and whoever is shown them one after the other (own).
use Rattle.std.specs.Prelude.{ℕ, zero, suc, ◌≡◌, ◌+◌, ◌==◌, List, [], ◌∷◌, ◌++◌, if◌then◌else◌, length}
use Rattle.press_acceptor.specs.StoreMap.{StoreMap, block_votes}
use Rattle.press_apply.specs.declared.value.Value.{Value}
use Rattle.press_wire.specs.declared.votes.SlotVote.{SlotVote}

-- of votes whose slots rise: those that follow one another from this slot on
abbrev pub front_values : ℕ → List SlotVote → List Value
front_values slot [] = []
front_values slot (v ∷ vs) = if v.slot == slot then v.vote.value ∷ front_values (slot + 1) vs else []

-- of so many blocks, while they are full
unfoldable pub blocks_values : ℕ → ℕ → StoreMap → List Value
blocks_values zero first store = []
blocks_values (suc blocks) first store =
    let values = front_values first (block_votes store first) in
    values ++ (if length values == 16 then blocks_values blocks (first + 16) store else [])

-- 62,500 blocks have the 1,000,000 slots
unfoldable pub voted_values : StoreMap → List Value
voted_values store = blocks_values 62500 1 store

-- one value after the other
abbrev pub Visits : {V : Type 0} → (V → Value → V → Type 0) → V → List Value → V → Type 0
Visits one old [] new = old ≡ new
Visits {V} one old (value ∷ values) new = (next : V) × one old value next × Visits one next values new
