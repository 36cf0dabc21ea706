use Rattle.press_events.specs.Marks.{count_of}
use Rattle.press_events.proofs.Numbers.{some_more}
use Rattle.press_events.proofs.marks.Marks.remove_times.Goals as goal

pub loop-preserved : goal.loop-preserved
loop-preserved c = λ x.
    some_more x c.args.mark c.loop.counter (count_of x c.args.self.now) (count_of x c.loop.self) (count_of x c.remove.new.self) (c.loop.invariant x) (c.remove.ensures x)
