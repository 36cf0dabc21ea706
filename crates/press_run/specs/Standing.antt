-- What a machine stands for.
use Rattle.std.specs.Prelude.{Option}
use Rattle.press_site.specs.SiteView.{SiteView}
use Rattle.press_run.specs.declared.machine.Machine.{Machine as AnyMachine}
use Rattle.press_run.specs.Outcome.{Machine, machine}

abbrev pub machine_view : {L : Type 0} → (L → SiteView) → (L → Option SiteView) → AnyMachine L → Machine
machine_view view fixed s = machine s.tables s.counts (view s.site) (fixed s.site) s.out
