use Rattle.std.proofs.Common.{◌∙◌, ap}
use Rattle.std.specs.Prelude.{string_bytes}
use Rattle.std.specs.List.{list_any}
use Rattle.std.specs.BTreeMap.{is_at}
use Rattle.std.specs.Cmp.Lexicographic.{slice_cmp}
use Rattle.std.specs.Ordering.{nat_cmp}
use Rattle.press_lint.proofs.Inserted.{inserted}
use Rattle.press_lint.proofs.spots.Spots.put_text.Goals as goal

pub returns : goal.returns
returns c = λ q. ap (list_any (is_at (λ k. slice_cmp nat_cmp q (string_bytes k)))) c.in_ok-insert.ensures.keys ∙ inserted string_bytes q c.args.spot c.args.self.now.spots.keys
