use Rattle.std.proofs.Common.{ap}
use Rattle.press_callbacks.proofs.kit.Kit.same.Goals as goal

pub returns-else-same_scripts : goal.returns-else-same_scripts
returns-else-same_scripts g c = (
  λ h. cc,
  λ e. c.same_scripts.ensures.1 (rw (c.callbacks.ensures, c.callbacks-2.ensures) (ap (λ v. v.scripts) e)),
)
