use Rattle.std.proofs.Common.{◌≤◌, [], length}
use Rattle.press_callbacks.specs.Kits.{view_of}
use Rattle.press_world.specs.Starts.{AreKit, views_of}
use Rattle.press_node_cases.proofs.schedules.fault_of_replay.Given as goal

abbrev pub invariant-loop : goal.invariant-loop
invariant-loop g l = record {
  few : length l.kits.items ≤ l.counter;
  alike : AreKit (view_of [] []) (views_of l.kits.items);
}
