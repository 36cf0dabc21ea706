-- Worked rows, computed by the definitions.
use Rattle.std.specs.Prelude.{◌≡◌, refl, ℕ, List, [], ◌∷◌, ◌++◌, take, Ok, Err, codes}
use Rattle.press_apply.specs.declared.command.Command.TheVariants.{Tick, Profile}
use Rattle.press_apply.specs.declared.value.Value.{Value}
use Rattle.press_apply.specs.declared.value.Value.TheVariants.{Cmd, Noop}
use Rattle.press_wire.specs.declared.fault.WireFault.TheVariants.{Short, BadKind, BadField, Extra}
use Rattle.press_wire.specs.declared.message.Body.TheVariants.{Prepare, Promise}
use Rattle.press_wire.specs.declared.message.Message.{Message}
use Rattle.press_wire.specs.Fields.{number4_at, number8_at, name_at, short_at, moment_at, node_at, slot_at, round_at, ballot_at}
use Rattle.press_wire.specs.Blocks.{block_of}
use Rattle.press_wire.specs.Reading.{slot_for, promise_at, report_at, slot_votes_at, slot_vote_at, vote_at, value_at, fields_at, stamped_at, behind_kind, command_at, read_value, read_command, body_at, message_at, read_message}
use Rattle.press_wire.specs.Spelling.{number4, number8, name, text, fields, stamped, spelled_command, ballot, value, vote, slot_vote, slot_votes, report, body, spelled_message}

-- Prepare from 1 to 2 for slot 1 in round 1
abbrev prepare : Message
prepare = record { from = 1; to = 2; slot = 1; body = Prepare 1 }

abbrev behind_nodes : List ℕ
behind_nodes = 0 ∷ 0 ∷ 0 ∷ 1 ∷ 0 ∷ 0 ∷ 0 ∷ 0 ∷ 0 ∷ 0 ∷ 0 ∷ 1 ∷ []

abbrev prepare_bytes : List ℕ
prepare_bytes = 1 ∷ 1 ∷ 2 ∷ behind_nodes

is_spelled : spelled_message prepare ≡ prepare_bytes
unfolding spelled_message number4 number8 body
is_spelled = refl

is_read : read_message prepare_bytes ≡ Ok prepare
unfolding read_message message_at node_at slot_for slot_at round_at number4_at number8_at body_at block_of
is_read = refl

is_cut : read_message (take 14 prepare_bytes) ≡ Err Short
unfolding read_message message_at node_at slot_for slot_at round_at number4_at number8_at body_at block_of
is_cut = refl

has_more : read_message (prepare_bytes ++ 0 ∷ []) ≡ Err Extra
unfolding read_message message_at node_at slot_for slot_at round_at number4_at number8_at body_at block_of
has_more = refl

is_of_no_kind : read_message (9 ∷ 1 ∷ 2 ∷ behind_nodes) ≡ Err BadKind
unfolding read_message message_at
is_of_no_kind = refl

is_to_node_8 : read_message (1 ∷ 1 ∷ 8 ∷ behind_nodes) ≡ Err BadField
unfolding read_message message_at node_at
is_to_node_8 = refl

-- a tick of ann, her first command, at 100
abbrev tick : Value
tick = Cmd (record { token = record { editor = codes "ann"; seq = 1 }; at = 100; command = Tick })

abbrev tick_bytes : List ℕ
tick_bytes = 9 ∷ 3 ∷ 97 ∷ 110 ∷ 110 ∷ 0 ∷ 0 ∷ 0 ∷ 0 ∷ 0 ∷ 0 ∷ 0 ∷ 1 ∷ 0 ∷ 0 ∷ 0 ∷ 0 ∷ 0 ∷ 0 ∷ 0 ∷ 100 ∷ []

tick_is_spelled : spelled_command tick ≡ tick_bytes
unfolding spelled_command stamped name number8 fields
tick_is_spelled = refl

tick_is_read : read_command tick_bytes ≡ Ok tick
unfolding read_command read_value command_at behind_kind stamped_at fields_at name_at short_at number8_at moment_at
tick_is_read = refl

name_of_33 : read_command (9 ∷ 33 ∷ []) ≡ Err BadField
unfolding read_command read_value command_at behind_kind stamped_at name_at short_at
name_of_33 = refl

name_is_cut : read_command (9 ∷ 3 ∷ []) ≡ Err Short
unfolding read_command read_value command_at behind_kind stamped_at name_at short_at
name_is_cut = refl

-- a switch to profile 2 of ann, her command 3, at 100
abbrev profile : Value
profile = Cmd (record { token = record { editor = codes "ann"; seq = 3 }; at = 100; command = Profile 2 })

abbrev profile_bytes : List ℕ
profile_bytes = 10 ∷ 3 ∷ 97 ∷ 110 ∷ 110 ∷ 0 ∷ 0 ∷ 0 ∷ 0 ∷ 0 ∷ 0 ∷ 0 ∷ 3 ∷ 0 ∷ 0 ∷ 0 ∷ 0 ∷ 0 ∷ 0 ∷ 0 ∷ 100 ∷ 2 ∷ []

profile_is_spelled : spelled_command profile ≡ profile_bytes
unfolding spelled_command stamped name number8 fields
profile_is_spelled = refl

profile_is_read : read_command profile_bytes ≡ Ok profile
unfolding read_command read_value command_at behind_kind stamped_at fields_at name_at short_at number8_at moment_at
profile_is_read = refl

profile_is_cut : read_command (take 21 profile_bytes) ≡ Err Short
unfolding read_command read_value command_at behind_kind stamped_at fields_at name_at short_at number8_at moment_at
profile_is_cut = refl

-- the promise from 2 to 1 of block 1 in ballot (2, 1), with a vote for slot 2 of ballot (1, 1) for a value that does nothing
abbrev promise : Message
promise = record { from = 2; to = 1; slot = 1; body = Promise (record { round = 2; node = 1 }) (record { slot = 2; vote = record { ballot = record { round = 1; node = 1 }; value = Noop 0 } } ∷ []) }

abbrev promise_front : List ℕ
promise_front = 2 ∷ 2 ∷ 1 ∷ 0 ∷ 0 ∷ 0 ∷ 1 ∷ 0 ∷ 0 ∷ 0 ∷ 0 ∷ 0 ∷ 0 ∷ 0 ∷ 2 ∷ 1 ∷ 1 ∷ 0 ∷ 0 ∷ 0 ∷ []

abbrev promise_back : List ℕ
promise_back = 0 ∷ 0 ∷ 0 ∷ 0 ∷ 0 ∷ 0 ∷ 0 ∷ 1 ∷ 1 ∷ 0 ∷ 0 ∷ 0 ∷ 9 ∷ 0 ∷ 0 ∷ 0 ∷ 0 ∷ 0 ∷ 0 ∷ 0 ∷ 0 ∷ 0 ∷ []

promise_is_spelled : spelled_message promise ≡ promise_front ++ 2 ∷ promise_back
unfolding spelled_message number4 number8 body ballot report slot_votes slot_vote vote value text spelled_command
promise_is_spelled = refl

promise_is_read : read_message (promise_front ++ 2 ∷ promise_back) ≡ Ok promise
unfolding read_message message_at node_at slot_for slot_at number4_at number8_at body_at block_of promise_at ballot_at round_at report_at slot_votes_at slot_vote_at vote_at value_at read_value command_at behind_kind moment_at
promise_is_read = refl

is_of_another_block : read_message (promise_front ++ 17 ∷ promise_back) ≡ Err BadField
unfolding read_message message_at node_at slot_for slot_at number4_at number8_at body_at block_of promise_at ballot_at round_at report_at slot_votes_at slot_vote_at
is_of_another_block = refl

-- Prepare for slot 2, which is not the first of a block
is_not_first : read_message (1 ∷ 1 ∷ 2 ∷ 0 ∷ 0 ∷ 0 ∷ 2 ∷ 0 ∷ []) ≡ Err BadField
unfolding read_message message_at node_at slot_for slot_at number4_at block_of
is_not_first = refl
