-- Who may use the file of a store that is there, and who one that isn't (own): a member makes none
-- without being told.
use Rattle.std.specs.Prelude.{ℕ, ◌≡◌, ◌-◌, ◌==◌, ◌&&◌, if◌then◌else◌, Option, None, Some, option_map, unwrap_or}
use Rattle.press_acceptor.specs.StoreMap.{StoreMap}
use Rattle.press_store.specs.Voted.{IsLastVote}
use Rattle.press_store.specs.declared.owner.Owner.{Owner}
use Rattle.press_server.specs.declared.serve_fault.ServeFault.{ServeFault}
use Rattle.press_server.specs.declared.serve_fault.ServeFault.TheVariants as fault
use Rattle.press_server.specs.declared.setup.Role.{Role}
use Rattle.press_server.specs.declared.setup.Role.TheVariants.{Alone, Member, NewMember}
use Rattle.press_server.specs.declared.store_file.Presence.{Presence}
use Rattle.press_server.specs.declared.store_file.Presence.TheVariants.{Absent, Empty, Kept, Unseen}

-- what a file and its log of so many bytes are, if they are there
abbrev pub presence_by : (file log : Option ℕ) → Presence
presence_by None None = Absent
presence_by None (Some size) = Empty
presence_by (Some size) log = if size == 0 && unwrap_or log 0 == 0 then Empty else Kept

-- Why a member is not served over what is there.
abbrev pub refusal_to_member : Presence → Option ServeFault
refusal_to_member Absent = Some fault.NoStore
refusal_to_member Empty = Some fault.NoStore
refusal_to_member Kept = None
refusal_to_member Unseen = Some fault.StoreShut

-- Why no new store is made there.
abbrev pub refusal_to_new_member : Presence → Option ServeFault
refusal_to_new_member Absent = None
refusal_to_new_member Empty = Some fault.StoreThere
refusal_to_new_member Kept = Some fault.StoreThere
refusal_to_new_member Unseen = Some fault.StoreShut

-- A node by itself makes its store where there is none.
abbrev pub store_refusal : Role → Presence → Option ServeFault
store_refusal (Alone port) presence = None
store_refusal (Member id peers tick) presence = refusal_to_member presence
store_refusal (NewMember id peers) presence = refusal_to_new_member presence

-- Why a file that is another's is not served. One that is nobody's can't be another's.
abbrev pub refusal_to_another : (owner asked : Option Owner) → ServeFault
refusal_to_another (Some owner) asked = fault.Foreign (record { owner = owner; asked = asked })
refusal_to_another None asked = fault.Damaged

-- so many slots stand before the last one with a vote; none where no slot has one
abbrev pub IsBeforeLast : StoreMap → ℕ → Type 0
IsBeforeLast store chosen =
    (last : Option ℕ) × IsLastVote store last × (chosen ≡ unwrap_or (option_map (λ slot. slot - 1) last) 0)
