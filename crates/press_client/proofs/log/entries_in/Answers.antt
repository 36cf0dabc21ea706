use Rattle.press_client.proofs.Entries.{pushed}
use Rattle.press_client.proofs.log.entries_in.Goals as goal

pub loop-value-preserved : goal.loop-value-preserved
loop-value-preserved c =
    pushed c.loop-value.entries.items c.push.new.self.items c.args.values.now c.loop-value.value-index c.value-item.result c.in_ok-entry_in.field-0 c.loop-value-test.true c.value-item.is c.loop-value.invariant
    c.in_ok-entry_in.ensures c.in-Ok.ensures.items
