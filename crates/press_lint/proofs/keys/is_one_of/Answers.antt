use Rattle.std.proofs.Common.{◌∙◌, bytes_eq, rules, tests}
use Rattle.std.proofs.lemmas.Iterator.{YieldsList-from_slice}
use Rattle.std.proofs.lemmas.Iterator.Search.{any_from_yields_List}
use Rattle.press_lint.proofs.Mapped.{any_mapped}
use Rattle.press_lint.proofs.keys.is_one_of.Goals as goal

pub returns : goal.returns
returns c =
    any_from_yields_List (λ k. bytes_eq c.args.key.now k.now) _ _ _ c.any.ensures.ran (YieldsList-from_slice c.args.keys.now c.iter.ensures.rest) (λ x b q k. search (rules, tests))
    ∙ any_mapped (bytes_eq c.args.key.now) (λ k. k.now) c.args.keys.now
