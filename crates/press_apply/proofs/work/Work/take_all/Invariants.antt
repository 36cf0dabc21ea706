use Rattle.std.proofs.Common.{◌≡◌, drop, true}
use Rattle.press_callbacks.specs.Kits.{kit_view}
use Rattle.press_apply.specs.Apply.{callbacks_on, takes_all}
use Rattle.press_apply.specs.Works.{GoesBack, state_in}
use Rattle.press_apply.proofs.work.Work.take_all.Given as goal

abbrev pub invariant-loop-event : goal.invariant-loop-event
invariant-loop-event g l = record {
  meaning : takes_all (callbacks_on (kit_view l.kit)) (drop l.event-index l.events) (state_in l.self) ≡ takes_all (callbacks_on (kit_view l.kit)) l.events (state_in l.fn.self);
  back : GoesBack l.fn.self l.self;
  limit : l.self.machine.met_limit ≡ true → l.fn.self.machine.met_limit ≡ true;
}
