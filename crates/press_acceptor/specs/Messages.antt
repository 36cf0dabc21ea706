-- Messages of one node, to one member or to all (own: by number, the sender included).
use Rattle.std.specs.Prelude.{ℕ, List, [], ◌∷◌, map}
use Rattle.std.specs.List.{range_with_len}
use Rattle.press_wire.specs.declared.message.Body.{Body}
use Rattle.press_wire.specs.declared.message.Message.{Message}

abbrev pub message_to : ℕ → ℕ → Body → ℕ → Message
message_to id slot body to = record { from = id; to = to; slot = slot; body = body }

abbrev pub to_one : ℕ → ℕ → Body → ℕ → List Message
to_one id slot body to = message_to id slot body to ∷ []

abbrev pub to_all : ℕ → ℕ → ℕ → Body → List Message
to_all n id slot body = map (message_to id slot body) (range_with_len 1 n)
