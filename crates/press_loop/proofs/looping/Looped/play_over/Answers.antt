use Rattle.std.proofs.Common.{subst}
use Rattle.press_world.specs.Models.{model, size}
use Rattle.press_world.specs.Stepped.{Steps}
use Rattle.press_loop.proofs.looping.Looped.play_over.Goals as goal

pub returns-then-eq-clause-step : goal.returns-then-eq-clause-step
returns-then-eq-clause-step g c kit = λ have.
    let w = c.args.self.now.world in
    subst (λ x. Steps kit (size w) (model w) x (model c.play-played.new.self) c.play-played.result) c.in_ok-came.ensures.step (c.play-played.ensures.step kit have)
