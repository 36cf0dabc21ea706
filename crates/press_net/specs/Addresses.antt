-- Where requests go: the addresses of those who are listed, by place (own).
use Rattle.std.specs.Prelude.{ℕ, ◌≡◌, ◌≤◌, ◌<◌, ◌⊎◌, ◌+◌, ◌-◌, ◌==◌, ◌&&◌, ◌++◌, ◌*◌, Bool, true, false, not, min, max, List, [], ◌∷◌, drop, take, filter, length, nat_eq, Option, Some, None, is_some, option_map, unwrap_or, slice_get, bytes_eq, if◌then◌else◌}
use Rattle.std.specs.List.{list_any}
use Rattle.std.specs.Net.Socket.{socket_ip}
use Rattle.std.specs.declared.net.ip_addr.IpAddr.{IpAddr}
use Rattle.std.specs.declared.net.socket_addr.SocketAddr.{SocketAddr}
use Rattle.std.specs.declared.net.socket_addr.SocketAddr.TheVariants.{V4, V6}
use Rattle.press_net.specs.Talking.{is_same}
use Rattle.press_net.specs.declared.addresses.AddressBook.{AddressBook}
use Rattle.press_net.specs.declared.addresses.AddressEntry.{AddressEntry}

-- how many are listed
abbrev pub listed_count : AddressBook → ℕ
listed_count book = length book.all.items

-- one of these sockets is at that address
abbrev pub has_ip : IpAddr → List SocketAddr → Bool
has_ip address sockets = list_any (λ socket. is_same address (socket_ip socket)) sockets

-- the sockets of the one at a place, the one that requests go to first
abbrev pub sockets_at : AddressBook → ℕ → List SocketAddr
sockets_at book place = unwrap_or (option_map (λ entry. entry.sockets.items) (slice_get book.all.items place)) []

abbrev pub first_at : AddressBook → ℕ → Option SocketAddr
first_at book place = slice_get (sockets_at book place) 0

-- two sockets are the same
abbrev pub is_same_socket : SocketAddr → SocketAddr → Bool
is_same_socket (V4 one) (V4 other) = bytes_eq one.ip.octets other.ip.octets && (one.port == other.port)
is_same_socket (V6 one) (V6 other) =
    bytes_eq one.ip.segments other.ip.segments && (one.port == other.port) && (one.flowinfo == other.flowinfo) && (one.scope_id == other.scope_id)
is_same_socket (V4 one) (V6 other) = false
is_same_socket (V6 one) (V4 other) = false

abbrev pub has_socket : List SocketAddr → SocketAddr → Bool
has_socket sockets socket = list_any (λ other. is_same_socket other socket) sockets

-- a request went to the first
abbrev pub went_first : Option SocketAddr → List SocketAddr → Bool
went_first None sockets = false
went_first (Some tried) [] = false
went_first (Some tried) (first ∷ rest) = is_same_socket first tried

-- behind a request that was lost: where it went to the first, that one goes behind the others
abbrev pub behind_loss : Option SocketAddr → List SocketAddr → List SocketAddr
behind_loss tried sockets = if went_first tried sockets then drop 1 sockets ++ take 1 sockets else sockets

-- those that were known and are found again
abbrev pub found_again : List SocketAddr → List SocketAddr → List SocketAddr
found_again known found = filter (has_socket found) known

-- those that are found, but were not known
abbrev pub newly_found : List SocketAddr → List SocketAddr → List SocketAddr
newly_found known found = filter (λ socket. not (has_socket known socket)) found

-- behind a lookup: first those that are new, and then those that are found again; all that were
-- known where nothing is found
abbrev pub with_found : List SocketAddr → List SocketAddr → List SocketAddr
with_found known found =
    if nat_eq (length found) 0 then known else newly_found (found_again known found) found ++ found_again known found

-- its name was looked up, and these addresses were found
abbrev pub IsLookedUp : AddressEntry → AddressEntry → Type 0
IsLookedUp old new = (found : List SocketAddr) × (new.sockets.items ≡ (if is_some old.name then with_found old.sockets.items found else old.sockets.items))

-- the name of the one at a place was looked up, and these addresses were found
abbrev pub IsLookedUpAt : AddressBook → AddressBook → ℕ → Type 0
IsLookedUpAt old new place = (found : List SocketAddr) × (sockets_at new place ≡ with_found (sockets_at old place) found)

-- milliseconds behind a lookup that took so long
abbrev pub pause : ℕ → ℕ
pause took = max 1000 (min (took * 30) 18446744073709551615)

-- when the next name may be looked up: where the last lookup is over only now, by how long it took
abbrev pub due_behind : AddressBook → ℕ → ℕ
due_behind book now = unwrap_or (option_map (λ begun. min (now + pause (now - begun)) 18446744073709551615) book.begun) book.due

-- its name is to be looked up
abbrev pub wants : AddressEntry → Bool
wants entry = entry.is_wanted && is_some entry.name

abbrev pub wants_at : AddressBook → ℕ → Bool
wants_at book place = unwrap_or (option_map wants (slice_get book.all.items place)) false

-- the next lookup has the same turn and the same time
abbrev pub HasSameTurn : AddressBook → AddressBook → Type 0
HasSameTurn new old = (new.last ≡ old.last) × (new.begun ≡ old.begun) × (new.due ≡ old.due)

-- none of the places from one on, before another, has a name that is to be looked up
abbrev pub NoneWants : AddressBook → ℕ → (ℕ → Type 0) → Type 0
NoneWants book first before = (place : ℕ) → first ≤ place → before place → wants_at book place ≡ false

-- the first place from one on whose name is to be looked up
abbrev pub IsFirstWanted : AddressBook → ℕ → Option ℕ → Type 0
IsFirstWanted book first None = NoneWants book first (λ _. Unit {0})
IsFirstWanted book first (Some found) = (first ≤ found) × (wants_at book found ≡ true) × NoneWants book first (λ place. place < found)

-- the names that are to be looked up have their turns by place: it is the next one behind the last,
-- or the first of all where none is behind it
abbrev pub HasTurn : AddressBook → ℕ → Type 0
HasTurn book place =
    let next = min (book.last + 1) 18446744073709551615 in
    IsFirstWanted book next (Some place) ⊎ (IsFirstWanted book next None × IsFirstWanted book 0 (Some place))
