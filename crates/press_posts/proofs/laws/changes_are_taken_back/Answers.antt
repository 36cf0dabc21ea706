use Rattle.press_posts.proofs.Taking.{taken_back}
use Rattle.press_posts.proofs.laws.changes_are_taken_back.Goals as goal

pub returns : goal.returns
returns c = taken_back
