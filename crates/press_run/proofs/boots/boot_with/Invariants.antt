use Rattle.std.proofs.Common.{◌≡◌, [], drop}
use Rattle.press_callbacks.specs.Kits.{plugins_in}
use Rattle.press_run.specs.Boot.{boot_with, load_plugins}
use Rattle.press_run.specs.Outcome.{loaded_in}
use Rattle.press_run.proofs.boots.boot_with.Given as goal

abbrev pub invariant-loop-name : goal.invariant-loop-name
invariant-loop-name g l = record {
  loads : load_plugins (plugins_in l.kit) (drop l.name-index l.active) (loaded_in l.tables) ≡ boot_with (plugins_in l.kit) l.active;
  runs : l.tables.hooks.open_runs ≡ [];
}
