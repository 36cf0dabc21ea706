-- The requests that go out, by the member that they are for (own).
use Rattle.std.specs.Prelude.{ℕ, ◌-◌, ◌+◌, ◌&&◌, ◌||◌, Bool, List, map, Option, option_and_then, option_map, unwrap_or, if◌then◌else◌, slice_get, slice_set, nat_le, nat_lt, length, position, drop, replicate, ◌≡◌, ◌++◌, ◌∷◌, [], ◌⊎◌, Some, None, MatchOption, is_none, true}
use Rattle.std.specs.List.{list_all}
use Rattle.press_net.specs.declared.answers.Outgoing.{Outgoing}
use Rattle.std.specs.Time.{instant_nanos}
use Rattle.std.specs.declared.time.Instant.{Instant}
use Rattle.press_net.specs.Answering.{Credit, credit}
use Rattle.press_net.specs.declared.answers.Errand.{Errand}
use Rattle.mio.specs.declared.net.stream.TcpStream.{TcpStream}
use Rattle.press_net.specs.declared.outgoing_connection.OutgoingConnection.{OutgoingConnection}
use Rattle.press_net.specs.declared.outgoing_connection.Course.{Course}
use Rattle.press_net.specs.declared.outgoing_connection.Course.TheVariants.{Goes, Whole, Lost}
use Rattle.press_net.specs.declared.outgoing_connections.OutgoingConnections.{OutgoingConnections}
use Rattle.press_net.specs.declared.outgoing_connections.Lane.{Lane}

-- what waits for one member, and how many are open
pub record Queue : Type 0 where
  pub waiting : List Outgoing
  pub «open» : ℕ

abbrev pub queue_of : Lane → Queue
queue_of lane = record { waiting = lane.waiting.items; «open» = lane.«open» }

abbrev pub queues : OutgoingConnections → List Queue
queues calls = map queue_of calls.lanes.items

-- the connection to the member at a place that stays open
abbrev pub kept_at : OutgoingConnections → ℕ → Option TcpStream
kept_at calls place = option_and_then (λ lane. lane.kept) (slice_get calls.lanes.items place)

-- those that stay open, by member
abbrev pub kept_streams : OutgoingConnections → List (Option TcpStream)
kept_streams calls = map (λ lane. lane.kept) calls.lanes.items

-- the one to the member at a place is kept instead of that before, if it stays open
abbrev pub with_kept : ℕ → Option TcpStream → List (Option TcpStream) → List (Option TcpStream)
with_kept place None all = all
with_kept place (Some stream) all = slice_set all place (Some stream)

-- the connection of a request, if another may go over it
abbrev pub stream_left : OutgoingConnection → Option TcpStream
stream_left call = if call.is_kept then Some call.stream else None

-- the queues with the one at a place changed
abbrev pub changed_at : (Queue → Queue) → ℕ → List Queue → List Queue
changed_at change place all =
    unwrap_or (option_map (λ queue. slice_set all place (change queue)) (slice_get all place)) all

abbrev pub empty_queue : Queue
empty_queue = record { waiting = []; «open» = 0 }

-- so many queues at least, those that are added empty
abbrev pub with_lanes : ℕ → List Queue → List Queue
with_lanes count all = all ++ replicate (count - length all) empty_queue

-- empty queues may have been added
abbrev pub IsGrown : List Queue → List Queue → Type 0
IsGrown new old = (count : ℕ) × (new ≡ with_lanes count old)

-- one more waits
abbrev pub with_last : Outgoing → Queue → Queue
with_last outgoing queue = record { waiting = queue.waiting ++ outgoing ∷ []; «open» = queue.«open» }

-- one that was open has ended
abbrev pub after_end : Queue → Queue
after_end queue = record { waiting = queue.waiting; «open» = queue.«open» - 1 }

-- the first that waits goes out
abbrev pub after_send : Queue → Queue
after_send queue = record { waiting = drop 1 queue.waiting; «open» = queue.«open» + 1 }

-- all of a request is out, or it had two milliseconds for that
abbrev pub is_out : Instant → OutgoingConnection → Bool
is_out now call = nat_le (length call.request.bytes.items) call.request.sent || nat_le 2000000 (instant_nanos now - instant_nanos call.begun)

-- no request at a place is still going out
abbrev pub is_out_at : Instant → Option OutgoingConnection → Bool
is_out_at now slot = unwrap_or (option_map (is_out now) slot) true

abbrev pub are_out : Instant → OutgoingConnections → Bool
are_out now calls = list_all (is_out_at now) calls.places.items

-- one may go out: fewer than 32 are open, and one waits
abbrev pub is_ready : Queue → Bool
is_ready queue = nat_lt queue.«open» 32 && nat_lt 0 (length queue.waiting)

-- the first lane of which one may go out
abbrev pub ready_lane : OutgoingConnections → Option ℕ
ready_lane calls = position (λ lane. is_ready (queue_of lane)) calls.lanes.items

-- the first that waits there
abbrev pub front_at : OutgoingConnections → ℕ → Option Outgoing
front_at calls place = option_and_then (λ lane. slice_get lane.waiting.items 0) (slice_get calls.lanes.items place)

-- the request at a place
abbrev pub call_at : OutgoingConnections → ℕ → Option OutgoingConnection
call_at calls place = option_and_then (λ call. call) (slice_get calls.places.items place)

-- what a request is, and how far
pub record Request : Type 0 where
  pub place : ℕ
  pub errand : Errand
  pub bytes : List ℕ
  pub sent : ℕ
  pub reply : List ℕ
  pub course : Course

abbrev pub request_of : OutgoingConnection → Request
request_of call = record { place = call.place; errand = call.errand; bytes = call.request.bytes.items; sent = call.request.sent; reply = call.reply.items; course = call.course }

-- nothing of it is sent yet
abbrev pub request_by : Outgoing → Request
request_by outgoing = record { place = outgoing.place; errand = outgoing.errand; bytes = outgoing.bytes.items; sent = 0; reply = []; course = Goes }

-- the same request, for the same member, begun at the same time
abbrev pub HasSameAim : OutgoingConnection → OutgoingConnection → Type 0
HasSameAim new old =
    (new.place ≡ old.place) × (new.errand ≡ old.errand) × (new.begun ≡ old.begun) × (new.request.bytes ≡ old.request.bytes)

-- the reply that is told of a request: none while it goes, an empty one where it is lost
abbrev pub reply_in : Course → List ℕ → Option (List ℕ)
reply_in Goes reply = None
reply_in Whole reply = Some reply
reply_in Lost reply = Some []

-- the request after a step: its own reply is told of it, and none of any other
abbrev pub IsCredited : {A : Type 0} → (A → Credit → A → Type 0) → OutgoingConnection → A → A → Type 0
IsCredited hears call old new =
    (stepped : OutgoingConnection) × HasSameAim stepped call
    × MatchOption (reply_in stepped.course stepped.reply.items) (new ≡ old) (λ reply. hears old (credit call.place call.errand reply) new)

-- two seconds or more are over since it began
abbrev pub is_call_late : Instant → OutgoingConnection → Bool
is_call_late now call = nat_le 2000000000 (instant_nanos now - instant_nanos call.begun)

-- the first free place is it, else one more
abbrev pub MakesRoom : List (Option OutgoingConnection) → List (Option OutgoingConnection) → ℕ → Type 0
MakesRoom old new place =
    ((position is_none old ≡ Some place) × (new ≡ old))
    ⊎ ((position is_none old ≡ None) × (place ≡ length old) × (new ≡ old ++ None ∷ []))
