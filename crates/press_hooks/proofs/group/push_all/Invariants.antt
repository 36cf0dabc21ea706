use Rattle.std.proofs.Common.{◌≡◌, ◌++◌, ◌+◌, ◌≤◌, length, vec_len, vec_capacity}
use Rattle.press_hooks.specs.Keys.{group_entries_in}
use Rattle.press_hooks.proofs.group.push_all.Given as goal

abbrev pub invariant-loop-key : goal.invariant-loop-key
invariant-loop-key l =
    (l.members.items ++ group_entries_in l.key-iterator ≡ l.initial.members.items ++ group_entries_in l.entries.entries)
    × (vec_len l.members + length l.key-iterator ≤ vec_capacity l.members)
