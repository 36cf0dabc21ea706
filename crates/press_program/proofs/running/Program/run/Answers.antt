use Rattle.std.proofs.Common.{rules, map, string_bytes}
use Rattle.press_program.specs.Words.{arguments_by}
use Rattle.press_program.proofs.Wanting.{no_memory}
use Rattle.press_program.proofs.running.Program.run.Goals as goal

pub returns-in_default-clause-runs : goal.returns-in_default-clause-runs
returns-in_default-clause-runs g c = no_memory g.S.Serves.served (arguments_by (map string_bytes c.args.words.now)) _ _ _ _ _ c.fail.ensures.status (search rules) c.fail.ensures.told
