use Rattle.std.proofs.Common.{rules}
use Rattle.std.proofs.lemmas.List.Sorted.{IsPartitionPoint-from_clause}
use Rattle.press_events.proofs.Halves.{up_to, parted_up_to, placed, not_true, not_false}
use Rattle.press_events.proofs.events.place_in.Goals as goal

pub returns-clause-place : goal.returns-clause-place
returns-clause-place c =
    let point = IsPartitionPoint-from_clause (up_to c.args.time) c.args.events.now c.partition_point.result c.partition_point.ensures.partitioned (parted_up_to c.args.time c.args.events.now c.requires) (λ a r f' k. search rules) in
    placed c.args.time c.args.events.now c.partition_point.result point.0 point.1 c.partition_point.ensures.bound

pub returns-clause-parts : goal.returns-clause-parts
returns-clause-parts c =
    let point = IsPartitionPoint-from_clause (up_to c.args.time) c.args.events.now c.partition_point.result c.partition_point.ensures.partitioned (parted_up_to c.args.time c.args.events.now c.requires) (λ a r f' k. search rules) in
    ((λ k d a b. not_true _ (point.0 k d a b)), (λ k d a b. not_false _ (point.1 k d a b)))
