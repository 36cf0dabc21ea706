use Rattle.std.proofs.Common.{◌∙◌, sym}
use Rattle.press_hooks.proofs.Named.{stands_at}
use Rattle.press_hooks.proofs.hooks.find_near.Goals as goal

pub returns-then-is : goal.returns-then-is
returns-then-is c =
    (c.if-place-hooks.true, stands_at c.args.name.now c.args.hooks.now c.args.place c.index-hooks-place.result c.if-place-hooks.true c.index-hooks-place.is (sym c.is.ensures ∙ c.if-is.true))
