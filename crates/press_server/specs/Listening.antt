-- What a server prints: that it listens, or that the store of a new member is made (own).
use Rattle.std.specs.Prelude.{ℕ, List, ◌++◌, codes, decimal, Option, None, Some}
use Rattle.press_server.specs.declared.setup.Role.{Role}
use Rattle.press_server.specs.declared.setup.Role.TheVariants.{Alone, Member, NewMember}

-- a node by itself at a port, a member of that number among those that a text names, or one of
-- these that is new
pub data Where : Type 0 where
  alone_at : ℕ → Where
  member_of : ℕ → List ℕ → Where
  new_member_of : ℕ → List ℕ → Where

unfoldable pub server_line : Where → List ℕ
server_line (alone_at port) = codes "listening on 127.0.0.1:" ++ (decimal port ++ codes "\n")
server_line (member_of id peers) = codes "listening as " ++ (decimal id ++ (codes " of " ++ (peers ++ codes "\n")))
server_line (new_member_of id peers) = codes "made the store of member " ++ (decimal id ++ (codes " of " ++ (peers ++ codes "\n")))

-- as it is in memory
abbrev pub where_of : Role → Where
where_of (Alone port) = alone_at port
where_of (Member id peers tick) = member_of id peers.now
where_of (NewMember id peers) = new_member_of id peers.now

-- the number of a member in its cluster, if the place is in one
abbrev pub number_of : Role → Option ℕ
number_of (Alone port) = None
number_of (Member id peers tick) = Some id
number_of (NewMember id peers) = Some id
