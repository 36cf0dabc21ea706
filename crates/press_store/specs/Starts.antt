-- What the tables of starts say: how many saves each start of the member made, what was heard of the others, and what is noted beside the saves (own).
use Rattle.std.specs.Prelude.{◌≡◌, ◌^◌, ◌&&◌, ◌==◌, nat_le, nat_lt, ℕ, pos, Bool, if◌then◌else◌, true, filter, List, [], ◌∷◌, codes, Option, None, Some, option_map}
use Rattle.sqlite.specs.declared.types.Value.{Value}
use Rattle.sqlite.specs.declared.types.Value.TheVariants.{Blob}
use Rattle.sqlite.specs.Order.{Row, column}
use Rattle.sqlite.specs.Tree.{Trees, has_rowid}
use Rattle.press_starts.specs.declared.mark.Mark.{Mark}
use Rattle.press_wire.specs.Ranges.{most_members}
use Rattle.press_starts.specs.declared.sighting.Sighting.{Sighting}
use Rattle.press_store.specs.Named.{rows_of}
use Rattle.press_store.specs.Noted.{is_note}
use Rattle.press_store.specs.Owned.{int_in, signed_number, unsigned_number}

abbrev pub start_rows : Trees → List Row
start_rows db = rows_of (codes "start") db

abbrev pub mark_rows : Trees → List Row
mark_rows db = rows_of (codes "mark") db

abbrev pub note_rows : Trees → List Row
note_rows db = rows_of (codes "note") db

-- ---- the rows

-- the number of 64 bits, or damage
abbrev pub bits_in : Value → Option ℕ
bits_in v = option_map unsigned_number (int_in v)

abbrev pub mark_of : Option ℕ → Option ℕ → Option Mark
mark_of (Some start) (Some saves) = Some (record { start = start; saves = saves })
mark_of _ _ = None

-- of a start: none, how many saves it made, or damage
abbrev pub saves_in : List Row → Option (Option ℕ)
saves_in [] = Some None
saves_in (r ∷ []) = option_map Some (bits_in (column r 2))
saves_in (r ∷ s ∷ more) = None

-- of a member: none, the last mark that was heard of it, or damage
abbrev pub mark_in : List Row → Option (Option Mark)
mark_in [] = Some None
mark_in (r ∷ []) = option_map Some (mark_of (bits_in (column r 2)) (bits_in (column r 3)))
mark_in (r ∷ s ∷ more) = None

-- the bytes that are noted, or damage
abbrev pub bytes_in : Value → Option (List ℕ)
bytes_in (Blob bytes) = Some bytes
bytes_in _ = None

-- of a note: none, its bytes, or damage
abbrev pub note_in : List Row → Option (Option (List ℕ))
note_in [] = Some None
note_in (r ∷ []) = option_map Some (bytes_in (column r 3))
note_in (r ∷ s ∷ more) = None

-- a start has a number of 64 bits, which isn't 0
abbrev pub is_start : ℕ → Bool
is_start n = nat_le 1 n && nat_lt n (2 ^ 64)

abbrev pub is_member : ℕ → Bool
is_member n = nat_le 1 n && nat_le n most_members

unfoldable pub saves_at : List Row → ℕ → Option (Option ℕ)
saves_at starts start = if is_start start then saves_in (filter (has_rowid (signed_number start)) starts) else Some None

unfoldable pub heard_at : List Row → ℕ → Option (Option Mark)
heard_at heard member = if is_member member then mark_in (filter (has_rowid (pos member)) heard) else Some None

unfoldable pub notes_at : List Row → ℕ → Option (Option (List ℕ))
notes_at notes id = if is_note id then note_in (filter (has_rowid (pos id)) notes) else Some None

-- ---- what they say

-- What a file says of starts: where it has a start, how many saves that made, by its name; the last mark that was heard of a member, by its number; and what is noted, by its id.
pub record StartMap : Type 0 where
  pub saves : ℕ → Option (Option ℕ)
  pub heard : ℕ → Option (Option Mark)
  pub notes : ℕ → Option (Option (List ℕ))

unfoldable pub starts_in : Trees → StartMap
starts_in db = record { saves = saves_at (start_rows db); heard = heard_at (mark_rows db); notes = notes_at (note_rows db) }

-- the start made so many saves
abbrev pub with_mark : Mark → StartMap → StartMap
with_mark mark map = record { saves = λ s. if s == mark.start then Some (Some mark.saves) else map.saves s; heard = map.heard; notes = map.notes }

-- this was heard last of the member
abbrev pub with_heard : Sighting → StartMap → StartMap
with_heard it map = record { saves = map.saves; heard = λ m. if m == it.member then Some (Some it.mark) else map.heard m; notes = map.notes }

unfoldable pub with_all_heard : List Sighting → StartMap → StartMap
with_all_heard [] map = map
with_all_heard (it ∷ more) map = with_all_heard more (with_heard it map)

-- these bytes are noted under that id
abbrev pub with_note : ℕ → List ℕ → StartMap → StartMap
with_note id bytes map = record { saves = map.saves; heard = map.heard; notes = λ n. if n == id then Some (Some bytes) else map.notes n }

-- the start is there, with so many saves
pub record HasMark (mark : Mark) (map : StartMap) : Type 0 where
  pub start : is_start mark.start ≡ true
  pub saves : map.saves mark.start ≡ Some (Some mark.saves)

-- ---- what the queries show

-- the number that a query on a start shows: none, one, or damage
abbrev pub shown_saves : List Row → Option (Option ℕ)
shown_saves [] = Some None
shown_saves (v ∷ []) = option_map Some (bits_in (column v 0))
shown_saves (v ∷ w ∷ more) = None

-- the mark that a query on a member shows
abbrev pub shown_mark : List Row → Option (Option Mark)
shown_mark [] = Some None
shown_mark (v ∷ []) = option_map Some (mark_of (bits_in (column v 0)) (bits_in (column v 1)))
shown_mark (v ∷ w ∷ more) = None

-- the bytes that a query on a note shows
abbrev pub shown_note : List Row → Option (Option (List ℕ))
shown_note [] = Some None
shown_note (v ∷ []) = option_map Some (bytes_in (column v 0))
shown_note (v ∷ w ∷ more) = None
