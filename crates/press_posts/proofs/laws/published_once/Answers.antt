use Rattle.press_posts.proofs.Once.{published_once}
use Rattle.press_posts.proofs.laws.published_once.Goals as goal

pub returns : goal.returns
returns c = published_once
