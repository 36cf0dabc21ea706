use Rattle.std.proofs.Common.{◌∙◌, rules, tests}
use Rattle.std.proofs.lemmas.Iterator.{YieldsList-from_slice}
use Rattle.std.proofs.lemmas.Iterator.Search.{any_from_yields_List}
use Rattle.press_lint.specs.Slips.{reaches}
use Rattle.press_lint.proofs.Mapped.{any_mapped}
use Rattle.press_lint.proofs.hooks.reaches_one.Goals as goal

pub returns : goal.returns
returns c =
    any_from_yields_List (λ w. reaches c.args.hook.now w.now) _ _ _ c.any.ensures.ran (YieldsList-from_slice c.args.words.now c.iter.ensures.rest) (λ x b q k. search (rules, tests))
    ∙ any_mapped (reaches c.args.hook.now) (λ w. w.now) c.args.words.now
