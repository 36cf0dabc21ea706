-- Callbacks as keys of a map: equal ones are the same, and are hashed alike. What a map of them holds, as the members of a group.
use Rattle.std.specs.Prelude.{◌≡◌, ℕ, List, ◌++◌, ◌*◌, IsTrue, bytes_eq, map}
use Rattle.std.specs.Cmp.Lexicographic.{bytes_decides}
use Rattle.std.specs.Hash as fed
use Rattle.std.proofs.Common.{ap}
use Rattle.press_text.specs.Padded.{eight, number, padded_name}
use Rattle.press_hooks.specs.declared.group_entry.GroupEntry.{GroupEntry}

-- the number that eight bytes of a name spell, zeros behind it up to 32
abbrev word : List ℕ → ℕ → ℕ
word name i = number 0 (eight (8 * i) (padded_name name))

-- what a callback gives to a hasher
abbrev pub writes : List ℕ → fed.HashWrites
writes name = fed.u64 (word name 0) ++ fed.u64 (word name 1) ++ fed.u64 (word name 2) ++ fed.u64 (word name 3)

pub writes_alike : (a b : List ℕ) → IsTrue (bytes_eq a b) → writes a ≡ writes b
writes_alike a b e = ap writes ((bytes_decides a b).0 e)

-- one of a group, as a map has it
abbrev pub group_entry_in : List ℕ × ℕ → GroupEntry
group_entry_in e = record { callback = e.0; accepted = e.1 }

abbrev pub group_entries_in : List (List ℕ × ℕ) → List GroupEntry
group_entries_in es = map group_entry_in es
