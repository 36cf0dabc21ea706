use Rattle.std.proofs.Common.{◌∙◌, List, ap, bytes_eq}
use Rattle.std.specs.List.{list_any}
use Rattle.press_callbacks.specs.declared.plugin.Plugin.{Plugin}
use Rattle.press_handover.proofs.Named.{among_is}
use Rattle.press_handover.proofs.naming.has_plugin.Goals as goal

pub returns : goal.returns
returns c =
    c.is_among.ensures ∙ ap (λ (ps : List Plugin). list_any (λ (p : Plugin). bytes_eq p.name c.args.name.now) ps) c.as_slice.ensures ∙ among_is c.args.name.now c.args.kit.now.plugins
