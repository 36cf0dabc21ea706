-- The order of ballots: the proposal numbers of Paxos Made Simple, 2.2. Different nodes use different ones.
use Rattle.std.specs.Prelude.{◌≡◌, ◌<◌, ◌≤◌, ◌⊎◌}
use Rattle.press_wire.specs.declared.ballot.Ballot.{Ballot}

-- b comes before c: by round, then by node
abbrev pub Less : Ballot → Ballot → Type 0
Less b c = (b.round < c.round) ⊎ ((b.round ≡ c.round) × (b.node < c.node))

-- b comes before c, or is c
abbrev pub AtMost : Ballot → Ballot → Type 0
AtMost b c = (b.round < c.round) ⊎ ((b.round ≡ c.round) × (b.node ≤ c.node))
