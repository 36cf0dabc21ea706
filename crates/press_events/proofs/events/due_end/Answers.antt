use Rattle.std.proofs.Common.{rules}
use Rattle.std.proofs.lemmas.List.Sorted.{IsPartitionPoint-from_clause}
use Rattle.press_events.specs.DueEvents.{is_due}
use Rattle.press_text.proofs.Parted.{front_kept}
use Rattle.press_events.proofs.Halves.{parted_due}
use Rattle.press_events.proofs.events.due_end.Goals as goal

pub returns-clause-front : goal.returns-clause-front
returns-clause-front c =
    let point = IsPartitionPoint-from_clause (is_due c.args.now) c.args.events.now c.partition_point.result c.partition_point.ensures.partitioned (parted_due c.args.now c.args.events.now c.requires) (λ a r f' k. search rules) in
    front_kept (is_due c.args.now) c.args.events.now c.partition_point.result point.0 point.1
