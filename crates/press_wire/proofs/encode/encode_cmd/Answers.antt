use Rattle.press_wire.proofs.ValueLaws.{reads_written}
use Rattle.press_wire.proofs.encode.encode_cmd.Goals as goal

pub returns-clause-reads : goal.returns-clause-reads
returns-clause-reads c = reads_written c.args.value.now c.in_ok-bytes.bytes.items c.in-Some.len c.hold_value.ensures c.in-Some.ensures c.in_ok-bytes.ensures
