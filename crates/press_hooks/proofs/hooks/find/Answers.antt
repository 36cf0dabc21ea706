use Rattle.std.proofs.Common.{◌≡◌, rules}
use Rattle.std.specs.Cmp.Lexicographic.{slice_cmp}
use Rattle.std.specs.Ordering.{nat_cmp}
use Rattle.std.proofs.lemmas.Fn.{always_returns_same}
use Rattle.press_hooks.proofs.Named.{placed}
use Rattle.press_hooks.proofs.hooks.find.Goals as goal

pub returns : goal.returns
returns c =
    let facts = c.binary_search_by.ensures in
    placed c.args.name.now c.args.hooks.now c.binary_search_by.result c.requires facts.bound (facts.position (λ h. slice_cmp nat_cmp h.name c.args.name.now) (always_returns_same _ (λ a r. r ≡ slice_cmp nat_cmp a.0.now.name c.args.name.now) _ (λ a r f' k. search rules)))
