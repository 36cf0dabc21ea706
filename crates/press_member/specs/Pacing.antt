-- When a member wakes, looks and asks (own), in milliseconds. Agreement doesn't depend on it.
use Rattle.std.specs.Prelude.{ℕ, ◌≡◌, ◌+◌, ◌-◌, ◌*◌, ◌/◌, ◌%◌, ◌==◌, ◌&&◌, ◌||◌, Bool, false, not, min, max, nat_le, nat_lt, is_some, option_map, unwrap_or, if◌then◌else◌}
use Rattle.press_member.specs.declared.pace.Pace.{Pace}

-- so much later, as far as 64 bits count
abbrev pub later : ℕ → ℕ → ℕ
later at wait = min (at + wait) 18446744073709551615

-- it stands at the same place among as many members, and looks as often
abbrev pub HasSameSeat : Pace → Pace → Type 0
HasSameSeat new old = (new.place ≡ old.place) × (new.members ≡ old.members) × (new.tick ≡ old.tick)

-- it has applied as much, knows as much, and asks and looks as before
abbrev pub HasSameNeeds : Pace → Pace → Type 0
HasSameNeeds new old =
    (new.applied ≡ old.applied) × (new.newest ≡ old.newest) × (new.claim ≡ old.claim) × (new.is_known ≡ old.is_known) × (new.asked_to ≡ old.asked_to)
    × (new.ask_at ≡ old.ask_at) × (new.look_at ≡ old.look_at)

-- it proposed last
abbrev pub leads : Pace → Bool
leads pace = unwrap_or (option_map (λ leader. leader == pace.place) pace.leader) false

-- a block begins with the next slot, and nobody was heard to propose in it
abbrev pub is_unbegun : Pace → Bool
is_unbegun pace = (pace.applied % 16 == 0) && nat_le pace.begun (pace.applied / 16)

-- a command has waited for 100 milliseconds
abbrev pub is_late : Pace → Bool
is_late pace = nat_le (later pace.waiting_at 100) pace.time

-- somebody proposed within 40 milliseconds
abbrev pub is_loud : Pace → Bool
is_loud pace = is_some pace.leader && nat_lt pace.time (later pace.heard_at 40)

abbrev pub is_busy : Pace → Bool
is_busy pace = is_some pace.wake_at || is_loud pace

abbrev pub is_due : Pace → Bool
is_due pace = unwrap_or (option_map (λ at. nat_le at pace.time) pace.wake_at) false

-- what others say is more than this one has, for less than a minute, and for less than two seconds
-- in which it applied nothing
abbrev pub is_held_up : Pace → Bool
is_held_up pace =
    unwrap_or (option_map (λ since. nat_lt pace.applied pace.claim && nat_lt pace.time (later (max since pace.applied_at) 2000) && nat_lt pace.time (later since 60000)) pace.claimed_at) false

-- a majority has said how far it is, and this one has what is known to be chosen, and what others
-- say that is chosen, as far as that comes
abbrev pub has_all : Pace → Bool
has_all pace = pace.is_known && nat_le pace.newest pace.applied && not (is_held_up pace)

-- somebody proposed for this slot, the next one, two seconds ago, and nobody does so now
abbrev pub is_stuck : Pace → ℕ → Bool
is_stuck pace slot =
    (slot == later pace.applied 1) && (slot == pace.proposed) && nat_le (later pace.proposed_at 2000) pace.time && not (is_busy pace)

-- as far as it asks
abbrev pub wanted_slot : Pace → ℕ
wanted_slot pace = max pace.newest pace.claim

-- at that time it lacks a slot that it hasn't asked for, or for which it asks again
abbrev pub asks_at : ℕ → Pace → Bool
asks_at now pace = nat_lt pace.applied (wanted_slot pace) && (nat_le pace.asked_to pace.applied || nat_le pace.ask_at now)

-- the last slot that it asks for: 64 at most
abbrev pub last_asked : Pace → ℕ
last_asked pace = min (wanted_slot pace) (later pace.applied 64)

-- who has its turn behind so many others at four milliseconds each, and not before now
abbrev pub turn_from : Pace → ℕ → ℕ → ℕ
turn_from pace rank from = max pace.time (later from (min (4 * rank) 18446744073709551615))

-- how many of so many have their turn before the one at a place: first those behind who proposed
-- last, and then the others from the first on
abbrev pub rank_behind : ℕ → ℕ → ℕ → ℕ
rank_behind last place members = if nat_lt last place then place - last - 1 else members - last - 1 + place

abbrev pub rank_of : Pace → ℕ
rank_of pace =
    if pace.members == 0 then 0 else rank_behind (unwrap_or pace.leader 0 % pace.members) (pace.place % pace.members) pace.members
