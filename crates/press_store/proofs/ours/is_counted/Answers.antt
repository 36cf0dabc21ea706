use Rattle.press_store.specs.Tables.{FreshStarts, MovedStarts}
use Rattle.press_store.proofs.ours.is_counted.Goals as goal

pub returns-then-is_fresh_starts-clause-tells : goal.returns-then-is_fresh_starts-clause-tells
returns-then-is_fresh_starts-clause-tells c is = (FreshStarts, c.is_fresh_starts.ensures.tells is)

pub returns-else-is_fresh_starts-clause-tells : goal.returns-else-is_fresh_starts-clause-tells
returns-else-is_fresh_starts-clause-tells c is = (MovedStarts, c.is_moved_starts.ensures.tells is)
