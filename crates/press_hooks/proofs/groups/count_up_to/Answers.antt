use Rattle.std.proofs.Common.{◌∙◌, ap, sym, rules, not, int_lt}
use Rattle.std.proofs.lemmas.List.Sorted.{IsPartitionPoint-from_clause}
use Rattle.press_hooks.specs.Hooked.{up_to}
use Rattle.press_hooks.proofs.ByPriority.{counted, none_counted, parted_up_to}
use Rattle.press_hooks.proofs.groups.count_up_to.Goals as goal

pub returns-in-Some : goal.returns-in-Some
returns-in-Some c =
    counted c.in-Some.priority c.args.groups.now c.partition_point.result c.partition_point.ensures.bound
    (IsPartitionPoint-from_clause (λ g. not (int_lt c.in-Some.priority g.priority)) c.args.groups.now c.partition_point.result c.partition_point.ensures.partitioned (parted_up_to c.in-Some.priority c.args.groups.now c.requires) (λ a r f' k. search rules))
    ∙ ap (λ o. up_to o c.args.groups.now) (sym c.in-Some.is)

pub returns-in-None : goal.returns-in-None
returns-in-None c = rw c.in-None.is (none_counted c.args.groups.now)
