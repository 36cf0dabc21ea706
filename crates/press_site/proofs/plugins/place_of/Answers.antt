use Rattle.std.proofs.Common.{rules}
use Rattle.std.proofs.lemmas.List.Sorted.{IsPartitionPoint-from_clause}
use Rattle.press_site.proofs.Halves.{not_behind, parted, placed}
use Rattle.press_site.proofs.plugins.place_of.Goals as goal

pub returns-clause-parts : goal.returns-clause-parts
returns-clause-parts c =
    IsPartitionPoint-from_clause (not_behind c.args.name.now) c.args.names.now c.partition_point.result c.partition_point.ensures.partitioned
    (parted c.args.name.now c.args.names.now c.requires)
    (λ a r f' k. search rules)

pub returns-clause-place : goal.returns-clause-place
returns-clause-place c =
    let parts = returns-clause-parts c in
    placed c.args.name.now c.args.names.now c.partition_point.result parts.0 parts.1 c.partition_point.ensures.bound
