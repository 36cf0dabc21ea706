use Rattle.press_posts.proofs.SameIds.{keep_ids}
use Rattle.press_posts.proofs.laws.changes_keep_ids.Goals as goal

pub returns : goal.returns
returns c = keep_ids
