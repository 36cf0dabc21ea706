-- The members of a cluster (own).
use Rattle.std.specs.Prelude.{ℕ, ◌≡◌, ◌+◌, ◌-◌, ◌==◌, ◌&&◌, List, drop, codes, nat_eq, Bool, true, not, Some}
use Rattle.std.specs.List.{starts_with}
use Rattle.std.specs.declared.net.ip_addr.IpAddr.{IpAddr}
use Rattle.press_batch.specs.Carried.{BatchContent}
use Rattle.press_batch.specs.Spelling.{spelled_batch}
use Rattle.press_net.specs.Addresses.{behind_loss, has_ip, sockets_at}
use Rattle.press_net.specs.Answering.{Credit}
use Rattle.press_cluster.specs.declared.peers.Peers.{Peers}
use Rattle.press_wire.specs.Ranges.{member_id_of}

-- it is another member, which has that address
abbrev pub is_other_at : Peers → ℕ → IpAddr → Bool
is_other_at peers member ip = not (member == peers.own) && has_ip ip (sockets_at peers.book (member - 1))

-- it says that what was asked is done
abbrev pub is_done : List ℕ → Bool
is_done reply = starts_with nat_eq reply (codes "HTTP/1.1 200 ")

-- a reply that something is done is that batch behind its head
abbrev pub IsSaid : List ℕ → BatchContent → Type 0
IsSaid reply batch = (is_done reply ≡ true) × (head : ℕ) × (drop head reply ≡ spelled_batch batch)

-- it is a batch of that member
abbrev pub SaysBatch : ℕ → List ℕ → Type 0
SaysBatch member reply = (batch : BatchContent) × (batch.head.from ≡ member) × IsSaid reply batch

-- where a request to the member at a place came to no batch of that member, and where it went is
-- its first address, the next one goes to the next
abbrev pub LosesAddress : Credit → Peers → Peers → Type 0
LosesAddress credit old new =
    (to : ℕ) → member_id_of (credit.place + 1) ≡ Some to → (SaysBatch to credit.reply → ⊥)
    → sockets_at new.book credit.place ≡ behind_loss credit.errand.addr (sockets_at old.book credit.place)
