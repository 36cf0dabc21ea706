-- The order of ballots: the proposal numbers of Paxos Made Simple, 2.2, by round and then by node.
use Rattle.std.specs.Prelude.{◌&&◌, ◌||◌, ◌==◌, nat_lt, Bool}
use Rattle.press_wire.specs.declared.ballot.Ballot.{Ballot}

abbrev pub is_less : Ballot → Ballot → Bool
is_less a b = nat_lt a.round b.round || (a.round == b.round && nat_lt a.node b.node)

abbrev pub is_same : Ballot → Ballot → Bool
is_same a b = a.round == b.round && a.node == b.node
