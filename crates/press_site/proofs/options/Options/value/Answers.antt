use Rattle.std.proofs.Common.{◌∙◌, ap}
use Rattle.press_site.specs.Options.{option_of}
use Rattle.press_site.proofs.Bytes.{found}
use Rattle.press_site.proofs.options.Options.value.Goals as goal

pub returns : goal.returns
returns c = c.get.ensures.value ∙ found c.args.name.now c.self.inside.values.entries ∙ ap (option_of c.args.name.now) c.self.view_is
