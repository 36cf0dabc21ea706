use Rattle.std.proofs.Common.{refl}
use Rattle.press_apply.proofs.applies.switch_profile.Goals as goal

pub returns-clause-memory : goal.returns-clause-memory
returns-clause-memory c = c.work_without_boot.ensures.profile c.args.to refl
