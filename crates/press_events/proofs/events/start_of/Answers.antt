use Rattle.std.proofs.Common.{rules}
use Rattle.std.proofs.lemmas.List.Sorted.{IsPartitionPoint-from_clause}
use Rattle.press_events.specs.DueEvents.{is_earlier}
use Rattle.press_events.proofs.Halves.{parted_earlier}
use Rattle.press_events.proofs.events.start_of.Goals as goal

pub returns-clause-parts : goal.returns-clause-parts
returns-clause-parts c =
    IsPartitionPoint-from_clause (is_earlier c.args.time) c.args.events.now c.partition_point.result c.partition_point.ensures.partitioned (parted_earlier c.args.time c.args.events.now c.requires) (λ a r f' k. search rules)
