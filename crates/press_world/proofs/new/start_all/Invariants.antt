use Rattle.std.proofs.Common.{◌≡◌, ◌++◌, length}
use Rattle.press_world.specs.Seats.{places_of, statics_of}
use Rattle.press_world.specs.Starts.{statics_from, views_of}
use Rattle.press_world.specs.Worlds.{new_places}
use Rattle.press_world.proofs.new.start_all.Given as goal

abbrev pub invariant-loop-kit : goal.invariant-loop-kit
invariant-loop-kit g l = record {
  places : places_of l.seats.items ≡ new_places l.members 1 (length l.yielded);
  statics : statics_of l.seats.items ≡ statics_from 1 l.members (views_of l.yielded);
  from : l.yielded ++ l.kit-iterator.rest.items ≡ l.fn.kits.items;
}
