-- Which messages a copy may take memory for (own).
use Rattle.std.specs.Prelude.{◌<◌, nat_lt, Bool, false, List, length}
use Rattle.press_apply.specs.Copies.{is_command}
use Rattle.press_wire.specs.declared.message.Body.{Body}
use Rattle.press_wire.specs.declared.message.Body.TheVariants.{Prepare, Promise, Nack, Accept, Accepted, Query}
use Rattle.press_wire.specs.declared.votes.SlotVote.{SlotVote}

-- there are votes
abbrev pub HasVotes : List SlotVote → Type 0
HasVotes votes = 0 < length votes

-- whether a message carries a command, by itself or in a vote, or a list of votes
abbrev pub has_command : Body → Bool
has_command (Prepare round) = false
has_command (Promise ballot votes) = nat_lt 0 (length votes)
has_command (Nack refused promised) = false
has_command (Accept round value) = is_command value
has_command (Accepted vote) = is_command vote.value
has_command Query = false
