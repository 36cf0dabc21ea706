-- One of a group: a callback and how many arguments it accepts, and the entry that it is at a priority.
use Rattle.std.specs.Prelude.{ℕ, ℤ, List, Bool, true, cond, bytes_eq, Option, Some, None}
use Rattle.press_hooks.specs.declared.entry.Entry.{Entry}
use Rattle.press_hooks.specs.declared.group_entry.GroupEntry.{GroupEntry}

abbrev pub entry_at : ℤ → GroupEntry → Entry
entry_at p m = record { priority = p; callback = m.callback; accepted = m.accepted }

abbrev pub group_entry_of : Entry → GroupEntry
group_entry_of e = record { callback = e.callback; accepted = e.accepted }

-- with this `accepted`, where it is of the callback
abbrev pub accepted_if : List ℕ → ℕ → GroupEntry → GroupEntry
accepted_if callback accepted m = cond (bytes_eq m.callback callback) (record m { accepted = accepted }) m

-- whether it is of the callback, where one is named
abbrev pub is_group_entry_of : Option (List ℕ) → GroupEntry → Bool
is_group_entry_of None m = true
is_group_entry_of (Some callback) m = bytes_eq m.callback callback
