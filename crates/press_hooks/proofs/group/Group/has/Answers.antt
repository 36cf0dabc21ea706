use Rattle.std.proofs.Common.{◌∙◌, ap, bytes_eq, is_some}
use Rattle.std.specs.List.{list_any}
use Rattle.std.specs.Map.{lookup}
use Rattle.press_hooks.proofs.Mapped.{has_member}
use Rattle.press_hooks.proofs.group.Group.has.Goals as goal

pub returns : goal.returns
returns c =
    c.contains_key.ensures
    ∙ (ap (λ k. is_some (lookup (bytes_eq k) c.self.inside.members.entries)) c.of.ensures
    ∙ (has_member c.args.callback c.self.inside.members.entries
    ∙ ap (λ g. list_any (λ m. bytes_eq m.callback c.args.callback) g.members) c.self.view_is))
