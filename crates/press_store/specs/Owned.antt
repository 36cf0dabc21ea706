-- Whose file it is, by three rows of `meta`, and what is answered to whoever asks for it (own).
use Rattle.std.specs.Prelude.{◌≡◌, ◌^◌, ◌-◌, ◌&&◌, ◌==◌, nat_lt, ℕ, ℤ, pos, negsuc, Bool, if◌then◌else◌, filter, map, List, [], ◌∷◌, codes, Option, None, Some, option_map}
use Rattle.sqlite.specs.declared.types.Value.{Value}
use Rattle.sqlite.specs.declared.types.Value.TheVariants.{Int}
use Rattle.sqlite.specs.Order.{Row, column}
use Rattle.sqlite.specs.Tree.{Trees}
use Rattle.press_store.specs.declared.owner.Owner.{Owner}
use Rattle.press_store.specs.declared.owner.Tie.{Tie}
use Rattle.press_store.specs.declared.owner.Tie.TheVariants.{Own, Taken, Foreign}
use Rattle.press_store.specs.Moving.{is_named}
use Rattle.press_store.specs.Shown.{meta_rows, number_in}
use Rattle.press_wire.specs.Ranges.{most_members}

-- ---- the rows

-- the signed number of the same 64 bits, and the number of the bits of a signed one
abbrev pub signed_number : ℕ → ℤ
signed_number n = if nat_lt n (2 ^ 63) then pos n else negsuc (2 ^ 64 - 1 - n)

abbrev pub unsigned_number : ℤ → ℕ
unsigned_number (pos n) = n
unsigned_number (negsuc n) = 2 ^ 64 - 1 - n

abbrev pub int_in : Value → Option ℤ
int_in (Int n) = Some n
int_in _ = None

-- the number in the rows of one name, where there is a row; or damage
abbrev pub entry_of : List Value → Option (Option ℤ)
entry_of [] = Some None
entry_of (v ∷ []) = option_map Some (int_in v)
entry_of (v ∷ w ∷ more) = None

abbrev pub entry_in : List ℕ → Trees → Option (Option ℤ)
entry_in name db = entry_of (map (λ r. column r 2) (filter (is_named name) (meta_rows db)))

abbrev pub owner_of : Option ℕ → Option ℕ → ℕ → Option Owner
owner_of (Some number) (Some members) peers = Some (record { number = number; members = members; peers = peers })
owner_of _ _ peers = None

-- the member that three numbers name, or damage
abbrev pub owner_from : (number members peers : ℤ) → Option Owner
owner_from number members peers = owner_of (number_in 1 most_members (Int number)) (number_in 0 255 (Int members)) (unsigned_number peers)

-- nobody without a row, and damage with some of them
abbrev pub owner_by : (number members peers : Option (Option ℤ)) → Option (Option Owner)
owner_by (Some None) (Some None) (Some None) = Some None
owner_by (Some (Some number)) (Some (Some members)) (Some (Some peers)) = option_map Some (owner_from number members peers)
owner_by _ _ _ = None

-- Whose file it is: nobody's, a member's, or damaged.
unfoldable pub owner_in : Trees → Option (Option Owner)
owner_in db = owner_by (entry_in (codes "member") db) (entry_in (codes "members") db) (entry_in (codes "peers") db)

-- the one that query shows of a name
abbrev pub shown_entry : List Row → Option (Option ℤ)
shown_entry rows = entry_of (map (λ v. column v 0) rows)

-- ---- the answer

abbrev pub is_same : Owner → Owner → Bool
is_same a b = a.number == b.number && (a.members == b.members && a.peers == b.peers)

-- What is answered to a member, or to a node by itself, of a file that says this; a damaged one gives no answer.
abbrev pub tie_of : Option (Option Owner) → (asked : Option Owner) → Option Tie
tie_of None asked = None
tie_of (Some None) None = Some Own
tie_of (Some None) (Some owner) = Some Taken
tie_of (Some (Some owner)) None = Some Foreign
tie_of (Some (Some owner)) (Some asked) = Some (if is_same owner asked then Own else Foreign)
