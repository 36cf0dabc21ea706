use Rattle.std.proofs.Common.{◌≡◌, ◌∙◌, ap, arith, length}
use Rattle.press_hooks.specs.NextEntry.{is_done}
use Rattle.press_hooks.proofs.OfHook.{all_given}
use Rattle.press_hooks.proofs.open_run.Rest.is_empty.Goals as goal

pub returns : goal.returns
returns c =
    let long : c.len.result ≡ length c.self.inside.members.items = omega arith in
    all_given c.self.inside.priority c.self.inside.members.items c.self.inside.given c.len.result long c.self.invariant ∙ ap is_done c.self.view_is
