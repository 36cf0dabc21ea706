use Rattle.press_lint.proofs.slipping.Look.load_slip.Goals as goal

pub returns-in-Hook : goal.returns-in-Hook
returns-in-Hook c = rw c.in-Hook.is c.hook_slip.ensures
