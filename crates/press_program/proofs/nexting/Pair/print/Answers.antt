use Rattle.press_program.proofs.Nexts.{of_next}
use Rattle.press_program.proofs.nexting.Pair.print.Goals as goal

pub returns-in-Ok : goal.returns-in-Ok
returns-in-Ok g c = of_next c.print_next.result _ _ _ _ c.args.self.now.old.now c.in-Ok.next c.in-Ok.ensures c.print_next.ensures
