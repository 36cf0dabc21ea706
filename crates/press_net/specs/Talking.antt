-- The open connections (own).
use Rattle.std.specs.Prelude.{ℕ, ◌≡◌, ◌≤◌, ◌<◌, ◌⊎◌, ◌-◌, ◌+◌, ◌/◌, ◌==◌, ◌&&◌, ◌||◌, Bool, true, false, List, [], ◌∷◌, ◌++◌, map, Option, Some, None, IsSome, Result, Ok, Err, not, option_and_then, unwrap_or, option_map, is_none, slice_get, slice_set, length, nat_le, nat_lt, bytes_eq, position, if◌then◌else◌}
use Rattle.std.specs.Time.{instant_nanos}
use Rattle.press_http.specs.declared.fault.HttpFault.{HttpFault}
use Rattle.press_http.specs.declared.fault.HttpFault.TheVariants as fault
use Rattle.press_net.specs.Answering.{Exchange, exchange}
use Rattle.std.specs.declared.time.Instant.{Instant}
use Rattle.std.specs.declared.net.ip_addr.IpAddr.{IpAddr}
use Rattle.std.specs.declared.net.ip_addr.IpAddr.TheVariants.{V4, V6}
use Rattle.press_net.specs.declared.connection.Group.{Group}
use Rattle.press_net.specs.declared.connection.Group.TheVariants.{Surplus, Within, Member}
use Rattle.press_net.specs.declared.connection.Phase.{Phase}
use Rattle.press_net.specs.declared.connection.Phase.TheVariants.{Reading, Writing, Ending, Over}
use Rattle.press_net.specs.declared.connection.Connection.{Connection}
use Rattle.press_net.specs.declared.connections.Rank.{Rank}
use Rattle.press_net.specs.declared.connections.Intake.{Intake}
use Rattle.press_net.specs.declared.connections.Connections.{Connections}

-- its request isn't whole yet
abbrev pub is_phase_reading : Phase → Bool
is_phase_reading Reading = true
is_phase_reading Writing = false
is_phase_reading Ending = false
is_phase_reading Over = false

abbrev pub is_reading : Connection → Bool
is_reading connection = is_phase_reading connection.phase

-- ten seconds or more are over since it began
abbrev pub is_late : Instant → Connection → Bool
is_late now connection = nat_le 10000000000 (instant_nanos now - instant_nanos connection.arrival.begun)

-- its reply isn't out yet
abbrev pub is_phase_writing : Phase → Bool
is_phase_writing Reading = false
is_phase_writing Writing = true
is_phase_writing Ending = false
is_phase_writing Over = false

-- its reply isn't out, and its socket took nothing of it for a second or more
abbrev pub is_stalled : Instant → Connection → Bool
is_stalled now connection = is_phase_writing connection.phase && nat_le 1000000000 (instant_nanos now - instant_nanos connection.taken)

abbrev pub is_member : Group → Bool
is_member Surplus = false
is_member Within = false
is_member Member = true

-- it may stay open behind a reply: a member's, with status 200, and whose input goes on
abbrev pub may_stay : Bool → ℕ → Group → Bool
may_stay ended status group = not ended && (status == 200) && is_member group

-- it stayed open, and no other request has begun
abbrev pub is_resting : Connection → Bool
is_resting connection = connection.is_kept && (length connection.came.bytes.items == 0)

-- it is the one of that number, and its reply is held
abbrev pub is_held_as : ℕ → Connection → Bool
is_held_as number connection = (connection.arrival.number == number) && connection.is_held

-- behind a reply another request may come, or nothing is heard any more
abbrev pub phase_behind : Bool → Phase
phase_behind kept = if kept then Reading else Ending

-- it is no member's
abbrev pub is_stranger : Connection → Bool
is_stranger connection = not (is_member connection.arrival.group)

-- a connection of a member, or not, that comes as its address has a quarter of the places, or
-- hasn't
abbrev pub group_of : Bool → Bool → Group
group_of member crowded = if member then Member else if crowded then Surplus else Within

-- the connection at a place
abbrev pub connection_at : Connections → ℕ → Option Connection
connection_at connections place = option_and_then (λ connection. connection) (slice_get connections.places.items place)

-- the one at a place is the one of that number, and its reply is held
abbrev pub is_held_at : Connections → ℕ → ℕ → Bool
is_held_at connections place number = unwrap_or (option_map (is_held_as number) (connection_at connections place)) false

-- a connection stays at its place unless it meets a test
abbrev pub kept_unless : (Connection → Bool) → Option Connection → Option Connection
kept_unless ends = option_and_then (λ connection. if ends connection then None else Some connection)

abbrev pub free_where : (Connection → Bool) → List (Option Connection) → List (Option Connection)
free_where ends places = map (kept_unless ends) places

-- a connection stands there that meets a test
abbrev pub meets : (Connection → Bool) → Option Connection → Bool
meets test slot = unwrap_or (option_map test slot) false

-- how many connections meet a test
abbrev pub count_of : (Connection → Bool) → List (Option Connection) → ℕ
count_of test [] = 0
count_of test (slot ∷ rest) = (if meets test slot then 1 else 0) + count_of test rest

-- it is late, and had no turn
abbrev pub is_unheard : Instant → Connection → Bool
is_unheard now connection = is_late now connection && is_reading connection

-- two addresses are the same
abbrev pub is_same : IpAddr → IpAddr → Bool
is_same (V4 one) (V4 other) = bytes_eq one.octets other.octets
is_same (V6 one) (V6 other) = bytes_eq one.segments other.segments
is_same (V4 one) (V6 other) = false
is_same (V6 one) (V4 other) = false

abbrev pub is_from : IpAddr → Connection → Bool
is_from address connection = is_same address connection.arrival.from

-- an address has a quarter of all places: what comes from it then is beyond its quarter
abbrev pub is_crowded : ℕ → IpAddr → List (Option Connection) → Bool
is_crowded most address slots = nat_le (most / 4) (count_of (is_from address) slots)

abbrev pub rank_of : Group → Phase → Bool → Rank
rank_of group phase stalled = record { group = group; phase = phase; is_stalled = stalled }

abbrev pub ending_rank : Group → Rank
ending_rank group = rank_of group Ending false

abbrev pub reading_rank : Group → Rank
reading_rank group = rank_of group Reading false

abbrev pub stalled_rank : Group → Rank
stalled_rank group = rank_of group Writing true

abbrev pub writing_rank : Group → Rank
writing_rank group = rank_of group Writing false

-- it is of a group, in a phase, and its reply is stalled, or isn't
abbrev pub HasRank : Instant → Rank → Connection → Type 0
HasRank now rank connection = (connection.arrival.group ≡ rank.group) × (connection.phase ≡ rank.phase) × (is_stalled now connection ≡ rank.is_stalled)

-- a connection of that rank may give way to those of an intake: it came before the first of them
abbrev pub MayGo : Rank → Intake → List (Option Connection) → ℕ → Connection → Type 0
MayGo rank intake slots place connection =
    (slice_get slots place ≡ Some (Some connection)) × HasRank intake.now rank connection × (connection.arrival.number < intake.first)

-- of those that may, none came before it
abbrev pub IsOldest : Rank → Intake → List (Option Connection) → ℕ → Type 0
IsOldest rank intake slots place =
    (connection : Connection) × MayGo rank intake slots place connection
    × ((other : ℕ) (next : Connection) → MayGo rank intake slots other next → connection.arrival.number ≤ next.arrival.number)

-- none may
abbrev pub HasNone : Rank → Intake → List (Option Connection) → Type 0
HasNone rank intake slots = (place : ℕ) (connection : Connection) → MayGo rank intake slots place connection → ⊥

-- of a group the oldest that was served and stays open goes first, else the oldest whose request
-- isn't whole, else the oldest of whose reply nothing was taken for a second, else the oldest whose
-- reply isn't out; none that came in the same intake
abbrev pub GoesFirst : Group → Intake → List (Option Connection) → Option ℕ → Type 0
GoesFirst group intake slots None =
    HasNone (ending_rank group) intake slots × HasNone (reading_rank group) intake slots × HasNone (stalled_rank group) intake slots × HasNone (writing_rank group) intake slots
GoesFirst group intake slots (Some place) =
    IsOldest (ending_rank group) intake slots place
    ⊎ (HasNone (ending_rank group) intake slots × IsOldest (reading_rank group) intake slots place)
    ⊎ (HasNone (ending_rank group) intake slots × HasNone (reading_rank group) intake slots × IsOldest (stalled_rank group) intake slots place)
    ⊎ (HasNone (ending_rank group) intake slots × HasNone (reading_rank group) intake slots × HasNone (stalled_rank group) intake slots
    × IsOldest (writing_rank group) intake slots place)

-- where none is beyond its address's quarter: one that comes beyond it puts out nobody, another one
-- that is no member's, and a member's such a one, and a member's where there is none
abbrev pub GoesFor : Group → Intake → List (Option Connection) → Option ℕ → Type 0
GoesFor Surplus intake slots gone = gone ≡ None
GoesFor Within intake slots gone = GoesFirst Within intake slots gone
GoesFor Member intake slots gone =
    (IsSome gone × GoesFirst Within intake slots gone) ⊎ (GoesFirst Within intake slots None × GoesFirst Member intake slots gone)

-- one that is beyond its address's quarter goes; where none does, it depends on who comes
abbrev pub MakesWay : Group → Intake → List (Option Connection) → Option ℕ → Type 0
MakesWay newcomer intake slots gone =
    (IsSome gone × GoesFirst Surplus intake slots gone) ⊎ (GoesFirst Surplus intake slots None × GoesFor newcomer intake slots gone)

-- what stands at a place, if there is one, is put in for what stood there
abbrev pub with_slot : Option ℕ → Option Connection → List (Option Connection) → List (Option Connection)
with_slot place slot slots = unwrap_or (option_map (λ place. slice_set slots place slot) place) slots

-- it is closed, and its place is free
abbrev pub GivesWay : Group → Intake → List (Option Connection) → List (Option Connection) → Option ℕ → Type 0
GivesWay newcomer intake old new gone = MakesWay newcomer intake old gone × (new ≡ with_slot gone None old)

-- no place is free, and fewer are taken than may be
abbrev pub MayGrow : ℕ → List (Option Connection) → Type 0
MayGrow most slots = (position is_none slots ≡ None) × (length slots < most)

-- it is a member's, or so many that aren't are fewer than all places but the sixteenth that is kept
-- back for members
abbrev pub has_room : ℕ → Group → List (Option Connection) → Bool
has_room most newcomer slots = is_member newcomer || nat_lt (count_of is_stranger slots) (most - most / 16)

-- where it may have a place beside the others the first free one is it, else one more, else that of
-- one that gives way; where it may not, that of one that gives way; there is none where none does
abbrev pub MakesPlace : ℕ → Group → Intake → List (Option Connection) → List (Option Connection) → Option ℕ → Type 0
MakesPlace most newcomer intake old new place =
    ((has_room most newcomer old ≡ true) × IsSome place × (place ≡ position is_none old) × (new ≡ old))
    ⊎ ((has_room most newcomer old ≡ true) × MayGrow most old × (place ≡ Some (length old)) × (new ≡ old ++ None ∷ []))
    ⊎ ((has_room most newcomer old ≡ true) × (position is_none old ≡ None) × (most ≤ length old) × GivesWay newcomer intake old new place)
    ⊎ ((has_room most newcomer old ≡ false) × GivesWay newcomer intake old new place)

-- another look at its request is due
abbrev pub is_due : Connection → Bool
is_due connection = nat_le connection.came.due (length connection.came.bytes.items)

-- the bytes that came are answered, for the address from which they came
abbrev pub exchange_by : Connection → Connection → Result ℕ HttpFault → Exchange
exchange_by old new result = exchange old.arrival.from old.came.bytes.items old.told.bytes.items new.told.bytes.items result

-- the input ended within the request, as far as it came
abbrev pub is_end : HttpFault → Bool
is_end fault.Ended = true
is_end fault.NoMemory = false
is_end fault.ReadFault = false
is_end fault.WriteFault = false
is_end fault.BadHead = false
is_end fault.BadForm = false
is_end fault.BadPeer = false
is_end fault.NotFound = false
is_end fault.NotAllowed = false
is_end fault.NoLength = false
is_end fault.TooBig = false
is_end fault.FieldsTooLarge = false
is_end fault.NotDone = false

-- where a look leaves a connection: its reply goes out; it waits on where more has to come and may;
-- else it is closed
abbrev pub phase_by : Bool → Phase → Result ℕ HttpFault → Phase
phase_by ended phase (Ok status) = Writing
phase_by ended phase (Err fault) = if is_end fault && not ended then phase else Over

abbrev pub IsAnswered : {A : Type 0} → (A → Exchange → A → Type 0) → Bool → A → Connection → Connection → A → Type 0
IsAnswered answers ended before old new after =
    (result : Result ℕ HttpFault) × answers before (exchange_by old new result) after × (new.phase ≡ phase_by ended old.phase result)
