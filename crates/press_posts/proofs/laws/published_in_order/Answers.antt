use Rattle.press_posts.proofs.Order.{in_order}
use Rattle.press_posts.proofs.laws.published_in_order.Goals as goal

pub returns : goal.returns
returns c = in_order
