use Rattle.std.proofs.Common.{length, refl}
use Rattle.press_world.specs.Stored.{new_stored}
use Rattle.press_world.proofs.Playing.{sound_step, run_stored}
use Rattle.press_world.proofs.Stored.{step_stored}
use Rattle.press_world.proofs.Votes.{learns}
use Rattle.press_world.proofs.Worlds.{new_agrees}
use Rattle.press_world.proofs.laws.entries_stand_for_facts.Goals as goal

pub returns-clause-step : goal.returns-clause-step
returns-clause-step c s x sound = (step_stored (length s.places) s x sound.agrees sound.within).0

pub returns-clause-sound : goal.returns-clause-sound
returns-clause-sound c s x sound =
    sound_step (learns c.chosen_by_majority.ensures c.only_votes_that_came_are_kept.ensures.vote c.only_votes_that_came_are_kept.ensures.advance) (length s.places) s x refl sound

pub returns-clause-run : goal.returns-clause-run
returns-clause-run c n steps =
    let law = learns c.chosen_by_majority.ensures c.only_votes_that_came_are_kept.ensures.vote c.only_votes_that_came_are_kept.ensures.advance in
    run_stored law n steps (new_stored n) (new_agrees law n) tt
