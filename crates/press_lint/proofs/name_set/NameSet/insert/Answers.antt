use Rattle.std.proofs.Common.{◌∙◌, ap}
use Rattle.std.specs.List.{list_any}
use Rattle.std.specs.BTreeMap.{is_at}
use Rattle.std.specs.Cmp.Lexicographic.{slice_cmp}
use Rattle.std.specs.Ordering.{nat_cmp}
use Rattle.press_lint.proofs.Inserted.{inserted}
use Rattle.press_lint.proofs.name_set.NameSet.insert.Goals as goal

pub returns-clause-holds : goal.returns-clause-holds
returns-clause-holds c = λ q. ap (list_any (is_at (λ k. slice_cmp nat_cmp q k.now))) c.in_ok-insert.ensures.keys ∙ inserted (λ k. k.now) q c.args.name c.args.self.now.names.keys
