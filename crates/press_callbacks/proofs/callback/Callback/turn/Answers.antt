use Rattle.std.proofs.Common.{refl}
use Rattle.std.specs.Fn.{FnReturnsAt}
use Rattle.press_callbacks.proofs.Plays.{plays_gives}
use Rattle.press_callbacks.proofs.callback.Callback.turn.Goals as goal

pub returns-clause-turn : goal.returns-clause-turn
returns-clause-turn g c =
    plays_gives (FnReturnsAt g.F.Fn c.args.self.now.call) c.args.self.now.script c.args.input.now c.call.result c.requires.plays (record { shown = c.args.input; shows = refl; says = record { met = c.call.ensures } })
