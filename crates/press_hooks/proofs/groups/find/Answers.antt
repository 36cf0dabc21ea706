use Rattle.std.proofs.Common.{◌≡◌, rules}
use Rattle.std.proofs.lemmas.Fn.{always_returns_same}
use Rattle.press_hooks.proofs.ByPriority.{placed_at}
use Rattle.press_hooks.proofs.groups.find.Goals as goal

pub returns : goal.returns
returns c =
    let facts = c.binary_search_by_key.ensures in
    placed_at c.args.priority.now c.args.groups.now c.binary_search_by_key.result c.requires facts.bound
    (facts.position (λ g. g.priority) (always_returns_same _ (λ a r. r ≡ a.0.now.priority) _ (λ a r f' k. search rules)))
