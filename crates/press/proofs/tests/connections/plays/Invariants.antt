use Rattle.std.proofs.Common.{◌≤◌, [], length}
use Rattle.press_callbacks.specs.Kits.{view_of}
use Rattle.press_world.specs.Starts.{AreKit, views_of}
use Rattle.press.proofs.tests.connections.plays.Given as goal

abbrev pub invariant-loop : goal.invariant-loop
invariant-loop l = record {
  few : length l.kits.items ≤ l.counter;
  alike : AreKit (view_of [] []) (views_of l.kits.items);
}
