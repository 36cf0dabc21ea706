-- What bytes are read as: a value or a message, with no byte left; else the fault of the first field that fails (own).
use Rattle.std.specs.Prelude.{ℕ, zero, suc, ◌+◌, List, [], ◌∷◌, ◌==◌, length, nat_lt, Result, Ok, Err, if◌then◌else◌}
use Rattle.press_posts.specs.declared.draft.Draft.{Draft}
use Rattle.press_apply.specs.declared.command.Command.{Command}
use Rattle.press_apply.specs.declared.command.Command.TheVariants.{Insert, Update, Trash, Untrash, Delete, SetOption, Activate, Deactivate, Tick, Profile}
use Rattle.press_apply.specs.declared.command.Stamped.{Stamped}
use Rattle.press_apply.specs.declared.value.Value.{Value}
use Rattle.press_apply.specs.declared.value.Value.TheVariants.{Noop, Cmd}
use Rattle.press_wire.specs.declared.fault.WireFault.{WireFault}
use Rattle.press_wire.specs.declared.fault.WireFault.TheVariants.{TooLong, BadKind, BadField, Extra}
use Rattle.press_apply.specs.declared.kind.CommandKind.{CommandKind}
use Rattle.press_apply.specs.declared.kind.CommandKind.TheVariants as kind
use Rattle.press_wire.specs.declared.kind.ValueKind.{ValueKind}
use Rattle.press_wire.specs.declared.kind.ValueKind.TheVariants as value
use Rattle.press_wire.specs.declared.kind.MessageKind.{MessageKind}
use Rattle.press_wire.specs.declared.kind.MessageKind.TheVariants as about
use Rattle.press_wire.specs.declared.message.Body.{Body}
use Rattle.press_wire.specs.declared.message.Body.TheVariants.{Prepare, Promise, Nack, Accept, Accepted, Query}
use Rattle.press_wire.specs.declared.message.Message.{Message}
use Rattle.press_wire.specs.declared.vote.Vote.{Vote}
use Rattle.press_wire.specs.declared.votes.SlotVote.{SlotVote}
use Rattle.press_wire.specs.Fields.{Reading, ◌>>=◌, byte_at, number4_at, checked_at, counted_bytes_at, name_at, text_at, number8_at, moment_at, status_at, node_at, slot_at, round_at, ballot_at}
use Rattle.press_wire.specs.Kinds.{value_kind_of, may_be_about, message_kind_of}
use Rattle.press_wire.specs.Ranges.{only, is_at_most, is_between}
use Rattle.press_wire.specs.Spelling.{longest, most_votes}

-- nothing is left
abbrev pub or_extra : {A : Type 0} → A × List ℕ → Result A WireFault
or_extra x = if length x.1 == 0 then Ok x.0 else Err Extra

-- ---- commands

unfoldable pub draft_at : Reading Draft
draft_at bytes = do
  title ← text_at bytes
  content ← text_at title.1
  status ← status_at content.1
  date ← moment_at status.1
  Ok (record { title = title.0; content = content.0; status = status.0; date = date.0 }, date.1)

unfoldable pub insert_at : Reading Command
insert_at bytes = do
  draft ← draft_at bytes
  Ok (Insert draft.0, draft.1)

unfoldable pub update_at : Reading Command
update_at bytes = do
  id ← number8_at bytes
  draft ← draft_at id.1
  Ok (Update id.0 draft.0, draft.1)

unfoldable pub option_at : Reading Command
option_at bytes = do
  name ← name_at bytes
  text ← text_at name.1
  Ok (SetOption name.0 text.0, text.1)

abbrev pub about_post_at : (ℕ → Command) → Reading Command
about_post_at command bytes = number8_at bytes >>= λ id. Ok (command id.0, id.1)

abbrev pub about_plugin_at : (List ℕ → Command) → Reading Command
about_plugin_at command bytes = name_at bytes >>= λ plugin. Ok (command plugin.0, plugin.1)

unfoldable pub fields_at : CommandKind → Reading Command
fields_at kind.Insert bytes = insert_at bytes
fields_at kind.Update bytes = update_at bytes
fields_at kind.Trash bytes = about_post_at Trash bytes
fields_at kind.Untrash bytes = about_post_at Untrash bytes
fields_at kind.Delete bytes = about_post_at Delete bytes
fields_at kind.SetOption bytes = option_at bytes
fields_at kind.Activate bytes = about_plugin_at Activate bytes
fields_at kind.Deactivate bytes = about_plugin_at Deactivate bytes
fields_at kind.Tick bytes = Ok (Tick, bytes)
fields_at kind.Profile bytes = byte_at bytes >>= λ to. Ok (Profile to.0, to.1)

unfoldable pub stamped_at : CommandKind → Reading Stamped
stamped_at kind bytes = do
  editor ← name_at bytes
  seq ← number8_at editor.1
  at ← moment_at seq.1
  command ← fields_at kind at.1
  Ok (record { token = record { editor = editor.0; seq = seq.0 }; at = at.0; command = command.0 }, command.1)

unfoldable pub behind_kind : ValueKind → Reading Value
behind_kind value.Noop bytes = moment_at bytes >>= λ at. Ok (Noop at.0, at.1)
behind_kind (value.Cmd kind) bytes = stamped_at kind bytes >>= λ s. Ok (Cmd s.0, s.1)

unfoldable pub command_at : Reading Value
command_at bytes = do
  kind ← checked_at BadKind value_kind_of byte_at bytes
  behind_kind kind.0 kind.1

-- all of the bytes as one value
unfoldable pub read_value : List ℕ → Result Value WireFault
read_value bytes = command_at bytes >>= or_extra

unfoldable pub read_command : List ℕ → Result Value WireFault
read_command bytes = if nat_lt longest (length bytes) then Err TooLong else read_value bytes

-- ---- messages

-- a fault inside a value is one of the field
abbrev pub inside : {A : Type 0} → Result A WireFault → List ℕ → Result (A × List ℕ) WireFault
inside (Ok x) rest = Ok (x, rest)
inside (Err fault) rest = Err BadField

unfoldable pub value_at : Reading Value
value_at bytes = do
  spelled ← counted_bytes_at (checked_at BadField (only (is_at_most longest)) number4_at) bytes
  inside (read_value spelled.0) spelled.1

unfoldable pub vote_at : Reading Vote
vote_at bytes = do
  ballot ← ballot_at bytes
  value ← value_at ballot.1
  Ok (record { ballot = ballot.0; value = value.0 }, value.1)

-- a vote for a slot from the first number on, and below the last
unfoldable pub slot_vote_at : ℕ → ℕ → Reading SlotVote
slot_vote_at first last bytes = do
  slot ← checked_at BadField (only (is_between first last)) slot_at bytes
  vote ← vote_at slot.1
  Ok (record { slot = slot.0; vote = vote.0 }, vote.1)

-- so many votes, whose slots rise
unfoldable pub slot_votes_at : ℕ → ℕ → ℕ → Reading (List SlotVote)
slot_votes_at zero first last bytes = Ok ([], bytes)
slot_votes_at (suc more) first last bytes = do
  vote ← slot_vote_at first last bytes
  votes ← slot_votes_at more (vote.0.slot + 1) last vote.1
  Ok (vote.0 ∷ votes.0, votes.1)

-- votes for slots of the block, at most one for each
unfoldable pub report_at : ℕ → Reading (List SlotVote)
report_at block bytes = do
  count ← checked_at BadField (only (is_at_most most_votes)) byte_at bytes
  slot_votes_at count.0 block (block + 16) count.1

unfoldable pub promise_at : ℕ → Reading Body
promise_at block bytes = do
  ballot ← ballot_at bytes
  votes ← report_at block ballot.1
  Ok (Promise ballot.0 votes.0, votes.1)

unfoldable pub nack_at : Reading Body
nack_at bytes = do
  refused ← ballot_at bytes
  promised ← ballot_at refused.1
  Ok (Nack refused.0 promised.0, promised.1)

unfoldable pub accept_at : Reading Body
accept_at bytes = do
  round ← round_at bytes
  value ← value_at round.1
  Ok (Accept round.0 value.0, value.1)

unfoldable pub body_at : MessageKind → ℕ → Reading Body
body_at about.Prepare slot bytes = round_at bytes >>= λ round. Ok (Prepare round.0, round.1)
body_at about.Promise slot bytes = promise_at slot bytes
body_at about.Nack slot bytes = nack_at bytes
body_at about.Accept slot bytes = accept_at bytes
body_at about.Accepted slot bytes = vote_at bytes >>= λ vote. Ok (Accepted vote.0, vote.1)
body_at about.Query slot bytes = Ok (Query, bytes)

-- the slot of a message of the kind
unfoldable pub slot_for : MessageKind → Reading ℕ
slot_for kind bytes = checked_at BadField (only (may_be_about kind)) slot_at bytes

unfoldable pub message_at : Reading Message
message_at bytes = do
  kind ← checked_at BadKind message_kind_of byte_at bytes
  from ← node_at kind.1
  to ← node_at from.1
  slot ← slot_for kind.0 to.1
  body ← body_at kind.0 slot.0 slot.1
  Ok (record { from = from.0; to = to.0; slot = slot.0; body = body.0 }, body.1)

-- all of the bytes as one message
unfoldable pub read_message : List ℕ → Result Message WireFault
read_message bytes = message_at bytes >>= or_extra
