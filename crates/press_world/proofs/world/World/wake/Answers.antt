use Rattle.press_world.specs.Models.{model, size}
use Rattle.press_world.specs.declared.step.Step.TheVariants.{Wake}
use Rattle.press_world.proofs.Steps.{wake_is}
use Rattle.press_world.proofs.world.World.wake.Goals as goal

pub happen-requires-clause-step : goal.happen-requires-clause-step
happen-requires-clause-step g c =
    let w = c.args.self.now in
    λ stop. (Wake c.args.number stop, wake_is (size w) (model w) c.args.number c.in-Some.index c.in-Some.ensures stop)
