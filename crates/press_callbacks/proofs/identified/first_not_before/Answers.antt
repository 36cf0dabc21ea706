use Rattle.std.proofs.Common.{rules}
use Rattle.std.proofs.lemmas.List.Sorted.{IsPartitionPoint-from_clause}
use Rattle.press_text.specs.NameOrder.{is_before}
use Rattle.press_callbacks.proofs.Halves.{parted}
use Rattle.press_callbacks.proofs.identified.first_not_before.Goals as goal

pub returns-clause-parts : goal.returns-clause-parts
returns-clause-parts g c =
    IsPartitionPoint-from_clause (λ y. is_before (g.T.Identified.id y) c.args.id.now) c.args.sorted.now c.partition_point.result c.partition_point.ensures.partitioned
    (parted g.T.Identified.id c.args.id.now c.args.sorted.now c.requires)
    (λ a r f' k. search rules)
