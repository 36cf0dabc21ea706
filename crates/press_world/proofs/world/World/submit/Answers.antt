use Rattle.press_world.specs.Models.{model, size}
use Rattle.press_world.specs.declared.step.Step.TheVariants.{Submit}
use Rattle.press_world.proofs.Steps.{submit_is}
use Rattle.press_world.proofs.world.World.submit.Goals as goal

pub happen-requires-clause-step : goal.happen-requires-clause-step
happen-requires-clause-step g c =
    let w = c.args.self.now in
    λ stop. (Submit c.args.number c.in-Ok.command stop, submit_is (size w) (model w) c.args.number c.in-Some.index c.in-Ok.command c.in-Some.ensures stop)
