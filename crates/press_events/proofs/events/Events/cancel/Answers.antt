use Rattle.std.proofs.Common.{ap, length, ◌-◌, arith}
use Rattle.press_events.proofs.Halves.{told}
use Rattle.press_events.proofs.Numbers.{covers_cancelled, lengths}
use Rattle.press_events.proofs.Schedules.{schedule_cancelled}
use Rattle.press_events.proofs.events.Events.cancel.Goals as goal

pub overflow_sub-all : goal.overflow_sub-all
overflow_sub-all c = omega (arith, ap length c.cancel.ensures, lengths c.args.hook.now c.args.arg.now c.self.inside.events.items)

pub invariant_of-self : goal.invariant_of-self
invariant_of-self c =
    rw c.cancel.ensures (
      schedule_cancelled c.args.hook.now c.args.arg.now c.self.inside.events.items c.self.invariant.0,
      covers_cancelled c.args.hook.now c.args.arg.now c.self.inside.events.items c.self.inside.marks c.remove_times.new.self c.mark.result (c.len-all.result - c.len-left.result) c.mark.ensures c.self.invariant.1
          (omega (arith, ap length c.cancel.ensures, lengths c.args.hook.now c.args.arg.now c.self.inside.events.items)) c.remove_times.ensures,
    )

pub returns-clause-answer : goal.returns-clause-answer
returns-clause-answer c =
    rw (← c.self.view_is) (told c.args.hook.now c.args.arg.now c.self.inside.events.items c.len-left.result c.len-all.result (omega (arith, ap length c.cancel.ensures)) (omega arith))
