use Rattle.std.proofs.Common.{◌∙◌, ap, None}
use Rattle.press_site.specs.Options.{by_bytes, put_back}
use Rattle.press_site.proofs.PutBack.{removed}
use Rattle.press_site.proofs.options.Options.remove.Goals as goal

pub returns : goal.returns
returns c =
    ap by_bytes c.remove.ensures.entries
    ∙ removed c.args.name.now c.self.inside.values.entries
    ∙ ap (put_back c.args.name.now None) c.self.view_is
