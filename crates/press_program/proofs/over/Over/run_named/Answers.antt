use Rattle.std.specs.Prelude.{None}
use Rattle.press_world.specs.declared.replay_fault.ReplayFault.TheVariants.{NoMemory, ReadFault}
use Rattle.press_program.specs.KitFiles.{view_of_source}
use Rattle.press_program.proofs.Ends.{outside_task, untold_task}
use Rattle.press_program.proofs.over.Over.run_named.Goals as goal

pub returns-in-Ok : goal.returns-in-Ok
returns-in-Ok g c = untold_task (view_of_source c.args.self.now.kit.now) c.args.wanted.now.task _ _ _ c.run_reader.result c.run_reader.ensures.ends

pub returns-in-Err : goal.returns-in-Err
returns-in-Err g c = outside_task (view_of_source c.args.self.now.kit.now) c.args.wanted.now.task None _ NoMemory tt

pub returns-in-Err-2 : goal.returns-in-Err-2
returns-in-Err-2 g c = outside_task (view_of_source c.args.self.now.kit.now) c.args.wanted.now.task None _ ReadFault tt
