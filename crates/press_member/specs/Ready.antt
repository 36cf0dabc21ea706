-- How many members say or answer something, and whether a member is ready (own).
use Rattle.std.specs.Prelude.{ℕ, ◌*◌, ◌+◌, ◌-◌, ◌==◌, ◌&&◌, not, if◌then◌else◌, Bool, false, nat_lt, nat_le, max, List, [], ◌∷◌, length, unwrap_or, option_map, option_and_then, Option, None, Some}
use Rattle.press_member.specs.declared.peers.Peer.{Peer}
use Rattle.press_member.specs.declared.peers.Peers.{Peers}
use Rattle.press_member.specs.declared.peers.ChosenReport.{ChosenReport}

-- so many of the members are a majority (Paxos Made Simple, 2.1)
abbrev pub is_majority : ℕ → ℕ → Bool
is_majority members count = nat_lt members (2 * count)

-- it is at most two seconds ago
abbrev pub is_lately : ℕ → ℕ → Bool
is_lately now at = nat_le (now - at) 2000

abbrev pub is_heard : ℕ → Peer → Bool
is_heard now peer = unwrap_or (option_map (is_lately now) peer.heard) false

-- how many slots are chosen, as it said lately
abbrev pub claim : ℕ → Peer → Option ℕ
claim now peer = option_and_then (λ (told : ChosenReport). if is_lately now told.at then Some told.chosen else None) peer.told

-- it said lately that so many are
abbrev pub says : ℕ → ℕ → Peer → Bool
says now least peer = unwrap_or (option_map (nat_le least) (claim now peer)) false

-- how many others meet a test, this one being at a place, the first of them at another
abbrev pub others_from : (Peer → Bool) → ℕ → ℕ → List Peer → ℕ
others_from meets own place [] = 0
others_from meets own place (peer ∷ rest) = (if not (place == own) && meets peer then 1 else 0) + others_from meets own (place + 1) rest

abbrev pub others : (Peer → Bool) → Peers → ℕ
others meets peers = others_from meets (peers.own - 1) 0 peers.all.items

-- how many others don't differ, this one being at a place, the first of them at another
abbrev pub agreeing_from : ℕ → ℕ → List Bool → ℕ
agreeing_from own place [] = 0
agreeing_from own place (differs ∷ rest) = (if not (place == own) && not differs then 1 else 0) + agreeing_from own (place + 1) rest

-- so many members, of whom these differ from the one at a place: those that don't, itself among
-- them, are a majority
abbrev pub is_agreed : ℕ → ℕ → List Bool → Bool
is_agreed members own differing = is_majority members (agreeing_from own 0 differing + 1)

-- a majority says that so many slots are chosen, this member saying so up to its own count
abbrev pub is_borne : Peers → ℕ → ℕ → ℕ → Bool
is_borne peers own_count now chosen =
    is_majority (length peers.all.items) (others (says now chosen) peers + (if nat_le chosen own_count then 1 else 0))

abbrev pub if_borne : Peers → ℕ → ℕ → ℕ → ℕ
if_borne peers own_count now chosen = if is_borne peers own_count now chosen then chosen else 0

-- the most of a number and of those that others say and a majority bears out
abbrev pub most_borne : Peers → ℕ → ℕ → ℕ → List Peer → ℕ
most_borne peers own_count now most [] = most
most_borne peers own_count now most (peer ∷ rest) =
    most_borne peers own_count now (max most (if_borne peers own_count now (unwrap_or (claim now peer) 0))) rest

-- the most slots of which a majority says that they are chosen
abbrev pub borne_out : Peers → ℕ → ℕ → ℕ
borne_out peers own_count now = most_borne peers own_count now (if_borne peers own_count now own_count) peers.all.items
