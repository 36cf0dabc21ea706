-- Whose a token is, and how many connections are still to have their turn (own).
use Rattle.std.specs.Prelude.{ℕ, ◌≡◌, ◌-◌, ◌/◌, ◌%◌, ◌==◌, Option, option_map, unwrap_or, Bool, false, if◌then◌else◌}
use Rattle.press_net.specs.declared.server.Holder.{Holder}
use Rattle.press_net.specs.declared.server.Server.{Server}
use Rattle.press_net.specs.declared.server.Holder.TheVariants.{Listener, Connection, OutgoingConnection}

-- 0 is the listener's, the odd ones are of connections, the other even ones of requests that go out
abbrev pub holder_named : ℕ → Holder
holder_named number =
    if number == 0 then Listener else if (number - 1) % 2 == 0 then Connection ((number - 1) / 2) else OutgoingConnection ((number - 1) / 2)

abbrev pub connection_of : ℕ → Holder
connection_of = Connection

abbrev pub call_of : ℕ → Holder
call_of = OutgoingConnection

-- nothing but the requests that go out has changed
abbrev pub KeepsAllButCalls : Server → Server → Type 0
KeepsAllButCalls new old =
    (new.connections ≡ old.connections) × (new.came ≡ old.came) × (new.left ≡ old.left) × (new.is_behind ≡ old.is_behind) × (new.is_timed ≡ old.is_timed)
    × (new.begun ≡ old.begun) × (new.now ≡ old.now) × (new.poll ≡ old.poll) × (new.listener ≡ old.listener) × (new.addr ≡ old.addr) × (new.held ≡ old.held) × (new.last_out ≡ old.last_out)
    × (new.waits_since ≡ old.waits_since)

-- so many connections are still to have their turn
abbrev pub ends_at : ℕ → Option ℕ → Bool
ends_at count left = unwrap_or (option_map (λ n. n == count) left) false
