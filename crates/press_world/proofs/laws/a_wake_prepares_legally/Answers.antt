use Rattle.press_world.proofs.Events.{wake_saves}
use Rattle.press_world.proofs.laws.a_wake_prepares_legally.Goals as goal

pub returns : goal.returns
returns c n store p applied gap save trace = λ a e. wake_saves n store p applied gap save trace a e
