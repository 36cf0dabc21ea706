use Rattle.press_world.proofs.world.World.dispatch.Goals as goal

pub returns-in-Submit-clause-step : goal.returns-in-Submit-clause-step
returns-in-Submit-clause-step g c kit = λ have. rw c.in-Submit.is (c.submit.ensures.steps kit)

pub returns-in-Wake-clause-step : goal.returns-in-Wake-clause-step
returns-in-Wake-clause-step g c kit = λ have. rw c.in-Wake.is (c.wake.ensures.steps kit)

pub returns-in-Deliver-clause-step : goal.returns-in-Deliver-clause-step
returns-in-Deliver-clause-step g c kit = λ have. rw c.in-Deliver.is (c.deliver.ensures.steps kit)

pub returns-in-Restart-clause-step : goal.returns-in-Restart-clause-step
returns-in-Restart-clause-step g c kit = λ have. rw c.in-Restart.is (c.restart.ensures.steps kit)

pub returns-in-Get-clause-step : goal.returns-in-Get-clause-step
returns-in-Get-clause-step g c kit = λ have. rw c.in-Get.is (c.get.ensures.steps kit have)
