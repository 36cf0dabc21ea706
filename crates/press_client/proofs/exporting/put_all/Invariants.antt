use Rattle.std.proofs.Common.{◌≡◌}
use Rattle.std.specs.Vec.Iter.{into_iter_items}
use Rattle.press_client.specs.Exporting.{put_all, writing_of}
use Rattle.press_client.proofs.exporting.put_all.Given as goal

abbrev pub invariant-loop-entry : goal.invariant-loop-entry
invariant-loop-entry l =
    (put_all l.files.limits (into_iter_items l.entry-iterator) (writing_of l.files) ≡ put_all l.fn.files.limits l.fn.entries.items (writing_of l.fn.files))
    × (l.files.limits ≡ l.fn.files.limits)
