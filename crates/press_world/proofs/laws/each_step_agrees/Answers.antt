use Rattle.std.proofs.Common.{[], ◌∷◌}
use Rattle.press_world.specs.Agreeing.{MessageAgrees}
use Rattle.press_world.specs.Worlds.{new_world}
use Rattle.press_world.proofs.Growing.{step_adds}
use Rattle.press_world.proofs.Lists.{all_append}
use Rattle.press_world.proofs.Votes.{learns}
use Rattle.press_world.proofs.Worlds.{step_agrees, new_agrees}
use Rattle.press_world.proofs.laws.each_step_agrees.Goals as goal

pub returns-clause-new : goal.returns-clause-new
returns-clause-new c n = new_agrees (learns c.chosen_by_majority.ensures c.only_votes_that_came_are_kept.ensures.vote c.only_votes_that_came_are_kept.ensures.advance) n

pub returns-clause-step : goal.returns-clause-step
returns-clause-step c n w x = λ a. step_agrees (learns c.chosen_by_majority.ensures c.only_votes_that_came_are_kept.ensures.vote c.only_votes_that_came_are_kept.ensures.advance) n w x a

pub returns-clause-adds : goal.returns-clause-adds
returns-clause-adds c n w x = step_adds n w x

pub returns-clause-question : goal.returns-clause-question
returns-clause-question c n w from to slot = λ f t a. record {
  size = a.size;
  legal = a.legal;
  stores = a.stores;
  nodes = a.nodes;
  sent = all_append (MessageAgrees n w.trace) w.sent _ a.sent (record { sender = f; receiver = t; fact = tt }, tt);
}
