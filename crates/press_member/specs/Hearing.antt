-- What is noted of another member (own).
use Rattle.std.specs.Prelude.{ℕ, ◌-◌, Bool, true, false, List, slice_get, slice_set, unwrap_or, option_map, Option, None, Some, if◌then◌else◌}
use Rattle.press_wire.specs.declared.message.Body.{Body}
use Rattle.press_wire.specs.declared.message.Body.TheVariants.{Prepare, Promise, Nack, Accept, Accepted, Query}
use Rattle.press_member.specs.declared.peers.Peer.{Peer}

-- behind something that was heard of it, unless it is foreign by its last report
abbrev pub after_hearing : ℕ → Peer → Peer
after_hearing now peer = if peer.is_foreign then peer else record { heard = Some now; told = peer.told; asked = peer.asked; is_foreign = peer.is_foreign }

-- behind its report that so many slots are chosen; a foreign one is unheard, whatever it said before
abbrev pub after_report : Bool → ℕ → ℕ → Peer → Peer
after_report true chosen now peer = record { heard = None; told = None; asked = peer.asked; is_foreign = true }
after_report false chosen now peer = record { heard = Some now; told = Some (record { chosen = chosen; at = now }); asked = peer.asked; is_foreign = false }

-- so many fewer looks and questions are on their way to it
abbrev pub with_fewer : ℕ → Peer → Peer
with_fewer count peer = record { heard = peer.heard; told = peer.told; asked = peer.asked - count; is_foreign = peer.is_foreign }

-- behind the end of a request with so many of them: who took it was heard
abbrev pub after_end : ℕ → Bool → ℕ → Peer → Peer
after_end count is_taken now peer = if is_taken then after_hearing now (with_fewer count peer) else with_fewer count peer

-- the one at a place changes
abbrev pub changed_at : ℕ → (Peer → Peer) → List Peer → List Peer
changed_at place change peers = unwrap_or (option_map (λ peer. slice_set peers place (change peer)) (slice_get peers place)) peers

-- whether this tells that somebody proposes: who sends it, or, with a vote, somebody for whose
-- proposal it was cast
abbrev pub proposes : Body → Bool
proposes (Prepare round) = true
proposes (Accept round value) = true
proposes (Accepted vote) = true
proposes (Promise ballot votes) = false
proposes (Nack refused promised) = false
proposes Query = false

-- the slot, where a message about it with this body tells that somebody proposes for it
abbrev pub proposed_slot : Body → ℕ → Option ℕ
proposed_slot body slot = if proposes body then Some slot else None
