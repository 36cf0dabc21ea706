use Rattle.std.proofs.Common.{◌∙◌, sym}
use Rattle.press_apply.proofs.applies.activate.Goals as goal

pub returns-in-Ok : goal.returns-in-Ok
returns-in-Ok g c =
    let e = c.work_without_boot.ensures in
    rw (sym c.has_plugin.ensures ∙ c.if-not-has_plugin.false, ← c.in-Ok.ensures) (record { works = e.works; limits = e.limits; memory = e.memory })
