use Rattle.std.proofs.Common.{arith}
use Rattle.press_events.proofs.Halves.{not_full}
use Rattle.press_events.proofs.events.Events.is_full_without.Goals as goal

pub returns-else-len-ge-MOST_EVENTS : goal.returns-else-len-ge-MOST_EVENTS
returns-else-len-ge-MOST_EVENTS c = rw (← c.self.view_is) (not_full c.args.hook.now c.args.arg.now c.self.inside.events.items c.len.result (omega arith) (omega arith))
