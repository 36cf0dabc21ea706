use Rattle.std.proofs.Common.{ap, arith}
use Rattle.press_learner.specs.Kept.{KeptVotes}
use Rattle.press_learner.proofs.Turns.{within_then, within_else}
use Rattle.press_learner.proofs.learner.Learner.is_within.Goals as goal

pub returns-then-self-slot : goal.returns-then-self-slot
returns-then-self-slot c = within_then c.self.inside.applied c.args.self.now.applied c.args.slot (omega (arith, c.if-self-slot.true)) (ap (λ (k : KeptVotes). k.applied) c.self.view_is)

pub returns-else-self-slot : goal.returns-else-self-slot
returns-else-self-slot c = within_else c.self.inside.applied c.args.self.now.applied c.args.slot (omega (arith, c.if-self-slot.false)) (ap (λ (k : KeptVotes). k.applied) c.self.view_is)
