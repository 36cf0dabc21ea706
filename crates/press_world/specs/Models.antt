-- A cluster as the definitions see it.
use Rattle.std.specs.Prelude.{ℕ, List, length}
use Rattle.press_acceptor.specs.Trace.{Fact}
use Rattle.press_world.specs.Seats.{Static, statics_of, stored_of}
use Rattle.press_world.specs.Stored.{StoredWorld, world_of}
use Rattle.press_world.specs.declared.cluster.Cluster.{Cluster}
use Rattle.press_world.specs.declared.world.World.{World}

abbrev pub kept_in : {t : _} {F : _} {g : _} → Cluster t F g → StoredWorld
kept_in cluster = stored_of cluster.seats.items cluster.sent.items cluster.trace.items

abbrev pub model : {t : _} {F : _} {g : _} → World t F g → StoredWorld
model world = kept_in world.cluster

abbrev pub statics : {t : _} {F : _} {g : _} → World t F g → List Static
statics world = statics_of world.cluster.seats.items

-- how many members there are
abbrev pub size : {t : _} {F : _} {g : _} → World t F g → ℕ
size world = length world.cluster.seats.items

abbrev pub facts : {t : _} {F : _} {g : _} → World t F g → List Fact
facts world = (world_of (model world)).trace
