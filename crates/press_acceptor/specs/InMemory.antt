-- What a store in memory stands for, which has its promises and votes block by block, and how its calls may end (own): only by running out of memory, and
-- only where votes are copied, or a block or a vote is put in.
use Rattle.std.specs.Prelude.{ℕ, ◌≡◌, ◌≢◌, ◌+◌, true, Option, None, Some, IfSome, IsSome, List, [], ◌∷◌}
use Rattle.std.specs.BTreeMap.{is_at}
use Rattle.std.specs.FinMap.{FinMap, from_entries}
use Rattle.std.specs.List.{range_with_len}
use Rattle.std.specs.Map.{lookup}
use Rattle.std.specs.Ordering.{nat_cmp}
use Rattle.press_apply.specs.declared.value.Value.{Value}
use Rattle.press_wire.specs.Blocks.{block_of}
use Rattle.press_wire.specs.Copies.{HasVotes}
use Rattle.press_wire.specs.Ranges.{last_slot}
use Rattle.press_wire.specs.Votes.{vote_in, IsWithin}
use Rattle.press_wire.specs.declared.ballot.Ballot.{Ballot}
use Rattle.press_wire.specs.declared.vote.Vote.{Vote}
use Rattle.press_acceptor.specs.Seen.{Call, Seen}
use Rattle.press_acceptor.specs.Seen.Call.{LoadsBlock, SavesPromise, SavesVote, LoadsRound, SavesRound}
use Rattle.press_acceptor.specs.StoreMap.{StoreMap, promise_of, vote_of, block_votes}
use Rattle.press_acceptor.specs.declared.block.Block.{Block}
use Rattle.press_acceptor.specs.declared.fault.StoreFault.{StoreFault}
use Rattle.press_acceptor.specs.declared.fault.StoreFault.TheVariants.{NoMemory}

-- what the entries have at a number
abbrev pub at : {X : Type 0} → List (ℕ × X) → ℕ → Option X
at entries n = lookup (is_at (nat_cmp n)) entries

abbrev pub with_entry : {X : Type 0} → ℕ → Option X → List (ℕ × X) → List (ℕ × X)
with_entry n None entries = entries
with_entry n (Some x) entries = (n, x) ∷ entries

-- what these numbers have
abbrev pub entries_at : {X : Type 0} → (ℕ → Option X) → List ℕ → List (ℕ × X)
entries_at f [] = []
entries_at f (n ∷ ns) = with_entry n (f n) (entries_at f ns)

-- all slots
unfoldable pub all_slots : List ℕ
all_slots = range_with_len 1 last_slot

-- the map of what each slot has
unfoldable pub map_of : {X : Type 0} → (ℕ → Option X) → FinMap nat_cmp X
map_of f = from_entries (entries_at f all_slots)

abbrev pub promise_in : Option Block → Option Ballot
promise_in None = None
promise_in (Some block) = block.promised

abbrev pub vote_inside : Option Block → ℕ → Option Vote
vote_inside None slot = None
vote_inside (Some block) slot = vote_in block.votes slot

abbrev pub promises_held : List (ℕ × Block) → ℕ → Option Ballot
promises_held blocks first = promise_in (at blocks first)

abbrev pub votes_held : List (ℕ × Block) → ℕ → Option Vote
votes_held blocks slot = vote_inside (at blocks (block_of slot)) slot

-- what the blocks stand for, each under its first slot
abbrev pub store_of : List (ℕ × Block) → ℕ → StoreMap
store_of blocks last_round = record {
  promises = map_of (promises_held blocks);
  votes = map_of (votes_held blocks);
  last_round = last_round;
}

-- each block has promised, and its votes are for slots of its own, which rise
abbrev pub AreBlocks : List (ℕ × Block) → Type 0
AreBlocks blocks = (first : ℕ) (block : Block) → at blocks first ≡ Some block → IsSome block.promised × IsWithin first (first + 16) block.votes

-- ---- which saves take memory

-- nothing is kept of the block yet
abbrev pub IsNewBlock : StoreMap → ℕ → Type 0
IsNewBlock store block = promise_of store block ≡ None

abbrev pub value_of : Option Vote → Option Value
value_of None = None
value_of (Some vote) = Some vote.value

-- the slot has no vote yet, or one for another value
abbrev pub IsNewValue : StoreMap → ℕ → Value → Type 0
IsNewValue store slot value = value_of (vote_of store slot) ≢ Some value

-- ---- how the calls end

abbrev pub EndsInMemory : StoreMap → Call → Option StoreFault → Type 0
EndsInMemory store (LoadsBlock block) fault = IfSome fault (λ f. (f ≡ NoMemory) × HasVotes (block_votes store block))
EndsInMemory store (SavesPromise block) fault = IfSome fault (λ f. f ≡ NoMemory)
EndsInMemory store (SavesVote slot) fault = IfSome fault (λ f. f ≡ NoMemory)
EndsInMemory store LoadsRound fault = fault ≡ None
EndsInMemory store SavesRound fault = fault ≡ None

-- what is seen of it: nobody else writes it, its device never fails, and a crash leaves what it keeps
abbrev pub seen_of : StoreMap → Seen
seen_of store = record {
  is_honest = Unit {0};
  is_open = true;
  kept = store;
  may_leave = λ left. left ≡ store;
  faults = 0;
  ends = EndsInMemory store;
}
