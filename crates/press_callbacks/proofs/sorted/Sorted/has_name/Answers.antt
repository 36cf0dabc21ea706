use Rattle.std.proofs.Common.{rules}
use Rattle.press_callbacks.proofs.Ordered.{placed_named}
use Rattle.press_callbacks.proofs.sorted.Sorted.has_name.Goals as goal

pub returns : goal.returns
returns g c = search (rules, placed_named)
