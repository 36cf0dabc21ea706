use Rattle.std.proofs.Common.{ℕ, ◌≡◌, ◌+◌, ◌++◌, List, drop}
use Rattle.std.specs.Io.KnownBytes.{Appends}
use Rattle.press_callbacks.specs.Kits.{KitView}
use Rattle.press_world.specs.Models.{model, size, statics}
use Rattle.press_world.specs.Replays.{lines}
use Rattle.press_world.specs.Whole.{HaveKit}
use Rattle.press_loop.proofs.looping.Looped.play_all.Given as goal

abbrev pub invariant-loop-step : goal.invariant-loop-step
invariant-loop-step g l = record {
  fixed : statics l.self.world ≡ statics l.initial.self.world;
  number : ◌≡◌ {A = ℕ} l.number (l.step-index + 1);
  told : (kit : KitView) → HaveKit kit (statics l.initial.self.world) →
      (written : List ℕ) × Appends (g.W.Write.contents l.initial.writer) (g.W.Write.contents l.writer) written
      × (written ++ lines kit (size l.initial.self.world) l.number (model l.self.world) (drop l.step-index l.steps) ≡ lines kit (size l.initial.self.world) 1 (model l.initial.self.world) l.steps);
}
