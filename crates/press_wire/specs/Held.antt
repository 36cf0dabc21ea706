-- What the types of values and messages always hold: names of their class, texts in UTF-8, numbers in their ranges.
use Rattle.std.specs.Prelude.{◌≡◌, ℕ, ◌+◌, ◌<◌, ◌≤◌, ◌^◌, List, [], ◌∷◌, length, get_or, true}
use Rattle.std.specs.Str.{is_utf8}
use Rattle.press_text.specs.Names.{IsName}
use Rattle.press_posts.specs.declared.draft.Draft.{Draft}
use Rattle.press_apply.specs.declared.command.Command.{Command}
use Rattle.press_apply.specs.declared.command.Command.TheVariants.{Insert, Update, Trash, Untrash, Delete, SetOption, Activate, Deactivate, Tick, Profile}
use Rattle.press_apply.specs.declared.command.Stamped.{Stamped}
use Rattle.press_apply.specs.declared.value.Value.{Value}
use Rattle.press_apply.specs.declared.value.Value.TheVariants.{Noop, Cmd}
use Rattle.press_wire.specs.declared.ballot.Ballot.{Ballot}
use Rattle.press_wire.specs.declared.message.Body.{Body}
use Rattle.press_wire.specs.declared.message.Body.TheVariants.{Prepare, Promise, Nack, Accept, Accepted, Query}
use Rattle.press_wire.specs.declared.message.Message.{Message}
use Rattle.press_wire.specs.declared.vote.Vote.{Vote}
use Rattle.press_wire.specs.declared.votes.SlotVote.{SlotVote}
use Rattle.press_wire.specs.Blocks.{is_first}
use Rattle.press_wire.specs.Ranges.{last_slot, most_members}
use Rattle.press_wire.specs.Votes.{IsWithin}
use Rattle.press_wire.specs.Spelling.{longest}

-- each number of the list is a byte
abbrev pub IsBytes : List ℕ → Type 0
IsBytes bytes = (i : ℕ) → get_or bytes i 0 < 256

abbrev pub IsText : List ℕ → Type 0
IsText bytes = is_utf8 bytes ≡ true

abbrev pub IsMoment : ℕ → Type 0
IsMoment seconds = seconds ≤ 2 ^ 40

abbrev pub IsDraft : Draft → Type 0
IsDraft d = IsText d.title × IsText d.content × IsMoment d.date

abbrev pub IsCommand : Command → Type 0
IsCommand (Insert d) = IsDraft d
IsCommand (Update id d) = (id < 2 ^ 64) × IsDraft d
IsCommand (Trash id) = id < 2 ^ 64
IsCommand (Untrash id) = id < 2 ^ 64
IsCommand (Delete id) = id < 2 ^ 64
IsCommand (SetOption name value) = IsName 32 name × IsText value
IsCommand (Activate plugin) = IsName 32 plugin
IsCommand (Deactivate plugin) = IsName 32 plugin
IsCommand Tick = Unit {0}
IsCommand (Profile to) = to < 256

abbrev pub IsStamped : Stamped → Type 0
IsStamped s = IsName 32 s.token.editor × (s.token.seq < 2 ^ 64) × IsMoment s.at × IsCommand s.command

abbrev pub IsValue : Value → Type 0
IsValue (Noop at) = IsMoment at
IsValue (Cmd s) = IsStamped s

abbrev pub IsRound : ℕ → Type 0
IsRound n = (1 ≤ n) × (n ≤ 2 ^ 40)

abbrev pub IsNode : ℕ → Type 0
IsNode n = (1 ≤ n) × (n ≤ most_members)

abbrev pub IsSlot : ℕ → Type 0
IsSlot n = (1 ≤ n) × (n ≤ last_slot)

abbrev pub IsBallot : Ballot → Type 0
IsBallot b = IsRound b.round × IsNode b.node

abbrev pub IsVote : Vote → Type 0
IsVote v = IsBallot v.ballot × IsValue v.value

abbrev pub AreVotes : List SlotVote → Type 0
AreVotes [] = Unit {0}
AreVotes (v ∷ votes) = IsSlot v.slot × IsVote v.vote × AreVotes votes

abbrev pub IsBody : Body → Type 0
IsBody (Prepare round) = IsRound round
IsBody (Promise ballot votes) = IsBallot ballot × AreVotes votes
IsBody (Nack refused promised) = IsBallot refused × IsBallot promised
IsBody (Accept round value) = IsRound round × IsValue value
IsBody (Accepted vote) = IsVote vote
IsBody Query = Unit {0}

abbrev pub IsMessage : Message → Type 0
IsMessage m = IsNode m.from × IsNode m.to × IsSlot m.slot × IsBody m.body

-- ---- the form of a message: one about a block has its first slot, and its votes are for slots of the block, which rise

abbrev pub IsInForm : ℕ → Body → Type 0
IsInForm slot (Prepare round) = is_first slot ≡ true
IsInForm slot (Promise ballot votes) = (is_first slot ≡ true) × IsWithin slot (slot + 16) votes
IsInForm slot (Nack refused promised) = Unit {0}
IsInForm slot (Accept round value) = Unit {0}
IsInForm slot (Accepted vote) = Unit {0}
IsInForm slot Query = Unit {0}

abbrev pub IsFormed : Message → Type 0
IsFormed m = IsInForm m.slot m.body

-- ---- the texts of a command that isn't too long

abbrev pub HasShortTexts : Command → Type 0
HasShortTexts (Insert d) = (length d.title ≤ longest) × (length d.content ≤ longest)
HasShortTexts (Update id d) = (length d.title ≤ longest) × (length d.content ≤ longest)
HasShortTexts (Trash id) = Unit {0}
HasShortTexts (Untrash id) = Unit {0}
HasShortTexts (Delete id) = Unit {0}
HasShortTexts (SetOption name value) = length value ≤ longest
HasShortTexts (Activate plugin) = Unit {0}
HasShortTexts (Deactivate plugin) = Unit {0}
HasShortTexts Tick = Unit {0}
HasShortTexts (Profile to) = Unit {0}

abbrev pub IsShort : Value → Type 0
IsShort (Noop at) = Unit {0}
IsShort (Cmd s) = HasShortTexts s.command
