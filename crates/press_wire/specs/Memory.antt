-- What has to be read before memory is taken: of a command its editor's name, and of its fields the first name or text (own).
-- Where there is none to be read, no memory is taken.
use Rattle.std.specs.Prelude.{ℕ, List, [], Ok, Err}
use Rattle.press_apply.specs.declared.kind.CommandKind.{CommandKind}
use Rattle.press_apply.specs.declared.kind.CommandKind.TheVariants as kind
use Rattle.press_wire.specs.declared.fault.WireFault.TheVariants.{BadKind, BadField}
use Rattle.press_wire.specs.declared.kind.ValueKind.{ValueKind}
use Rattle.press_wire.specs.declared.kind.ValueKind.TheVariants as value
use Rattle.press_wire.specs.declared.kind.MessageKind.{MessageKind}
use Rattle.press_wire.specs.declared.kind.MessageKind.TheVariants as about
use Rattle.press_wire.specs.Fields.{Reading, ◌>>=◌, byte_at, number4_at, number8_at, checked_at, counted_bytes_at, name_at, text_at, node_at, round_at, ballot_at}
use Rattle.press_wire.specs.Kinds.{value_kind_of, message_kind_of}
use Rattle.press_wire.specs.Ranges.{only, is_at_most, is_within}
use Rattle.press_wire.specs.Reading.{slot_for}
use Rattle.press_wire.specs.Spelling.{longest, most_votes}

-- ---- commands

abbrev pub behind_id : Reading (List ℕ)
behind_id bytes = number8_at bytes >>= λ id. text_at id.1

-- the first of the fields that takes memory
unfoldable pub first_at : CommandKind → Reading (List ℕ)
first_at kind.Insert bytes = text_at bytes
first_at kind.Update bytes = behind_id bytes
first_at kind.Trash bytes = Err BadKind
first_at kind.Untrash bytes = Err BadKind
first_at kind.Delete bytes = Err BadKind
first_at kind.SetOption bytes = name_at bytes
first_at kind.Activate bytes = name_at bytes
first_at kind.Deactivate bytes = name_at bytes
first_at kind.Tick bytes = Err BadKind
first_at kind.Profile bytes = Err BadKind

-- a value without a command has no editor
unfoldable pub editor_behind : ValueKind → Reading (List ℕ)
editor_behind value.Noop bytes = Err BadKind
editor_behind (value.Cmd kind) bytes = name_at bytes

unfoldable pub editor_at : Reading (List ℕ)
editor_at bytes = do
  kind ← checked_at BadKind value_kind_of byte_at bytes
  editor_behind kind.0 kind.1

-- ---- messages

unfoldable pub editor_inside : Reading (List ℕ)
editor_inside bytes = do
  spelled ← counted_bytes_at (checked_at BadField (only (is_at_most longest)) number4_at) bytes
  editor_at spelled.0

unfoldable pub editor_of_vote : Reading (List ℕ)
editor_of_vote bytes = do
  ballot ← ballot_at bytes
  editor_inside ballot.1

-- how many votes a report has, where it has any: their list takes memory
unfoldable pub vote_count_at : Reading ℕ
vote_count_at bytes = checked_at BadField (only (is_within 1 most_votes)) byte_at bytes

unfoldable pub votes_of_promise : Reading ℕ
votes_of_promise bytes = do
  ballot ← ballot_at bytes
  vote_count_at ballot.1

unfoldable pub editor_of_accept : Reading (List ℕ)
editor_of_accept bytes = do
  round ← round_at bytes
  editor_inside round.1

-- what is read, where memory is taken
abbrev read_some : {A : Type 0} → Reading A → Reading (List ℕ)
read_some at bytes = at bytes >>= λ x. Ok ([], x.1)

unfoldable pub editor_of_body : MessageKind → Reading (List ℕ)
editor_of_body about.Prepare bytes = Err BadKind
editor_of_body about.Promise bytes = read_some votes_of_promise bytes
editor_of_body about.Nack bytes = Err BadKind
editor_of_body about.Accept bytes = editor_of_accept bytes
editor_of_body about.Accepted bytes = editor_of_vote bytes
editor_of_body about.Query bytes = Err BadKind

unfoldable pub editor_of_message : Reading (List ℕ)
editor_of_message bytes = do
  kind ← checked_at BadKind message_kind_of byte_at bytes
  from ← node_at kind.1
  to ← node_at from.1
  slot ← slot_for kind.0 to.1
  editor_of_body kind.0 slot.1
