use Rattle.std.proofs.Common.{refl}
use Rattle.press_upgrade.specs.Differences.{kit_given}
use Rattle.press_handover.specs.Voted.{voted_values}
use Rattle.press_handover.proofs.Named.{says}
use Rattle.press_handover.proofs.naming.named_plugin.Goals as goal

pub returns-clause-named : goal.returns-clause-named
returns-clause-named g c = λ h.
    says (kit_given c.args.old.now) (kit_given c.args.new.now) (voted_values (g.S.PromiseStore.seen c.args.store.now).kept) _ c.visit_all.new.visitor refl refl refl (c.in_ok-visit_all.ensures.visits h)
