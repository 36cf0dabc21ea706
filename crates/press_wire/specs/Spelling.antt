-- The one spelling of each value and message: its kind and its fields from left to right, numbers big-endian (own).
use Rattle.std.specs.Prelude.{ℕ, List, [], ◌∷◌, ◌++◌, ◌||◌, length, nat_lt, Bool, false}
use Rattle.std.specs.Int.{w32, w64, to_be_bytes}
use Rattle.press_apply.specs.declared.command.Command.{Command}
use Rattle.press_apply.specs.declared.command.Command.TheVariants.{Insert, Update, Trash, Untrash, Delete, SetOption, Activate, Deactivate, Tick, Profile}
use Rattle.press_apply.specs.declared.command.Stamped.{Stamped}
use Rattle.press_apply.specs.declared.value.Value.{Value}
use Rattle.press_apply.specs.declared.value.Value.TheVariants.{Noop, Cmd}
use Rattle.press_posts.specs.declared.draft.Draft.{Draft}
use Rattle.press_wire.specs.declared.ballot.Ballot.{Ballot}
use Rattle.press_wire.specs.declared.message.Body.{Body}
use Rattle.press_wire.specs.declared.message.Body.TheVariants.{Prepare, Promise, Nack, Accept, Accepted, Query}
use Rattle.press_wire.specs.declared.message.Message.{Message}
use Rattle.press_wire.specs.declared.vote.Vote.{Vote}
use Rattle.press_wire.specs.declared.votes.SlotVote.{SlotVote}
use Rattle.press_apply.specs.Kinds.{command_number, kind_of_command}
use Rattle.press_wire.specs.Kinds.{message_number, kind_of_body, status_number}

-- ---- fields

-- a number of four bytes
unfoldable pub number4 : ℕ → List ℕ
number4 n = to_be_bytes w32 n

-- a number of eight bytes
unfoldable pub number8 : ℕ → List ℕ
number8 n = to_be_bytes w64 n

-- a name: its length in one byte, and its bytes
unfoldable pub name : List ℕ → List ℕ
name bytes = length bytes ∷ bytes

-- a text, or a value inside a message: its length in four bytes, and its bytes
unfoldable pub text : List ℕ → List ℕ
text bytes = number4 (length bytes) ++ bytes

-- ---- values

unfoldable pub draft : Draft → List ℕ
draft d = text d.title ++ (text d.content ++ (status_number d.status ∷ number8 d.date))

unfoldable pub fields : Command → List ℕ
fields (Insert d) = draft d
fields (Update id d) = number8 id ++ draft d
fields (Trash id) = number8 id
fields (Untrash id) = number8 id
fields (Delete id) = number8 id
fields (SetOption option value) = name option ++ text value
fields (Activate plugin) = name plugin
fields (Deactivate plugin) = name plugin
fields Tick = []
fields (Profile to) = to ∷ []

unfoldable pub stamped : Stamped → List ℕ
stamped s = name s.token.editor ++ (number8 s.token.seq ++ (number8 s.at ++ fields s.command))

unfoldable pub spelled_command : Value → List ℕ
spelled_command (Noop at) = 0 ∷ number8 at
spelled_command (Cmd s) = command_number (kind_of_command s.command) ∷ stamped s

-- the most bytes of a value
abbrev pub longest : ℕ
longest = 16384

abbrev pub is_too_long : Value → Bool
is_too_long v = nat_lt longest (length (spelled_command v))

-- ---- messages

unfoldable pub ballot : Ballot → List ℕ
ballot b = number8 b.round ++ b.node ∷ []

unfoldable pub value : Value → List ℕ
value v = text (spelled_command v)

unfoldable pub vote : Vote → List ℕ
vote v = ballot v.ballot ++ value v.value

unfoldable pub slot_vote : SlotVote → List ℕ
slot_vote v = number4 v.slot ++ vote v.vote

unfoldable pub slot_votes : List SlotVote → List ℕ
slot_votes [] = []
slot_votes (v ∷ votes) = slot_vote v ++ slot_votes votes

-- votes of a block: how many they are in one byte, and each with its slot
unfoldable pub report : List SlotVote → List ℕ
report votes = length votes ∷ slot_votes votes

unfoldable pub body : Body → List ℕ
body (Prepare round) = number8 round
body (Promise b votes) = ballot b ++ report votes
body (Nack refused promised) = ballot refused ++ ballot promised
body (Accept round v) = number8 round ++ value v
body (Accepted v) = vote v
body Query = []

unfoldable pub spelled_message : Message → List ℕ
spelled_message m = message_number (kind_of_body m.body) ∷ m.from ∷ m.to ∷ (number4 m.slot ++ body m.body)

-- the most votes of a block
abbrev pub most_votes : ℕ
most_votes = 16

abbrev pub has_long_vote : List SlotVote → Bool
has_long_vote [] = false
has_long_vote (v ∷ votes) = is_too_long v.vote.value || has_long_vote votes

-- too many votes, or a value in them that is too long
abbrev pub is_too_long_report : List SlotVote → Bool
is_too_long_report votes = nat_lt most_votes (length votes) || has_long_vote votes

abbrev pub is_too_long_body : Body → Bool
is_too_long_body (Prepare round) = false
is_too_long_body (Promise b votes) = is_too_long_report votes
is_too_long_body (Nack refused promised) = false
is_too_long_body (Accept round v) = is_too_long v
is_too_long_body (Accepted v) = is_too_long v.value
is_too_long_body Query = false

abbrev pub is_too_long_message : Message → Bool
is_too_long_message m = is_too_long_body m.body
