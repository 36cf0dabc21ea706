use Rattle.std.proofs.Common.{◌≡◌, drop}
use Rattle.press_run.specs.Boot.{load_all}
use Rattle.press_run.specs.Outcome.{loaded_in}
use Rattle.press_run.proofs.boots.load_all.Given as goal

abbrev pub invariant-loop-load : goal.invariant-loop-load
invariant-loop-load l = record {
  loads : load_all (drop l.load-index l.loads) (loaded_in l.tables) ≡ load_all l.loads (loaded_in l.initial.tables);
  runs : l.tables.hooks.open_runs ≡ l.initial.tables.hooks.open_runs;
}
