use Rattle.std.proofs.Common.{arith, length, ap}
use Rattle.press_learner.proofs.Views.{new_seen, new_seen_window, none_chosen_yet}
use Rattle.press_learner.proofs.learner.Learner.new.Goals as goal

pub invariant_of-result : goal.invariant_of-result
invariant_of-result c = (c.requires, omega arith, new_seen_window c.args.members _ c.new.ensures.items, λ some. absurd (omega (arith, some, ap length c.new.ensures.items)))

pub returns-clause-value : goal.returns-clause-value
returns-clause-value c = new_seen c.args.members _ c.new.ensures.items

pub returns-clause-none : goal.returns-clause-none
returns-clause-none c = none_chosen_yet c.args.members _ c.new.ensures.items
