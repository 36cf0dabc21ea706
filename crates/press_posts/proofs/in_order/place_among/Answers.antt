use Rattle.std.proofs.Common.{sym, arith, rules}
use Rattle.std.proofs.lemmas.List.Sorted.{IsPartitionPoint-from_clause}
use Rattle.std.proofs.lemmas.List.Sums.{prefix_len_is}
use Rattle.press_posts.specs.Published.{is_older}
use Rattle.press_posts.proofs.Oldest.{parted}
use Rattle.press_posts.proofs.in_order.place_among.Goals as goal

pub returns-clause-place : goal.returns-clause-place
returns-clause-place c =
    let d = c.args.dated.now in
    let point = IsPartitionPoint-from_clause (λ e. is_older e d) c.args.order.now c.partition_point.result c.partition_point.ensures.partitioned (parted d c.args.order.now c.requires) (λ a r f' k. search rules) in
    sym (prefix_len_is (λ e. is_older e d) c.args.order.now c.partition_point.result d c.partition_point.ensures.bound (λ k l. point.0 k d (omega arith) l) (λ l. point.1 c.partition_point.result d (omega arith) l))
