use Rattle.std.proofs.Common.{◌≡◌, ◌+◌, length, drop}
use Rattle.press_hooks.specs.Hooked.{entries_of}
use Rattle.press_hooks.proofs.groups.entry_count.Given as goal

abbrev pub invariant-loop-group : goal.invariant-loop-group
invariant-loop-group l = l.count + length (entries_of (drop l.group-index l.groups)) ≡ length (entries_of l.groups)
