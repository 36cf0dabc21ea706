use Rattle.std.proofs.Common.{rules}
use Rattle.press_lint.specs.Files.{GivesSlips}
use Rattle.press_lint.specs.Joints.{files_of, read_together}
use Rattle.press_program.specs.KitFiles.{slip_front}
use Rattle.press_program.specs.Nexts.{NextsOf, OverFile}
use Rattle.press_program.proofs.Nexts.{is_read, is_unusable}
use Rattle.press_program.proofs.wanted.Nexting.print.Goals as goal

pub only-requires : goal.only-requires
only-requires g c = record { one = (_, rw (← c.deref.ensures.value) at c.in-Ok.ensures.names) }

pub returns-in-Ok : goal.returns-in-Ok
returns-in-Ok g c =
    let result = c.print_behind.result in
    let out = g.W.Write.contents c.args.writer.now in
    let out' = g.W.Write.contents c.print_behind.new.writer in
    let err' = g.E.Write.contents c.print_behind.new.error in
    let named = rw (← c.deref.ensures.value) at c.in-Ok.ensures.names in
    let slips : GivesSlips slip_front (read_together (files_of c.deref.result.now)) c.as_bytes.result.now = search rules in
    is_read _ _ _ _ _ c.args.self.now.old.now _ c.as_bytes.result.now
    (λ old by_then. OverFile c.args.self.now.new.now (λ new later. NextsOf old result out out' later err') result out out' by_then err') (files_of c.deref.result.now) _ named slips c.tell.ensures
    (c.only.ensures _ named) c.print_behind.ensures

pub returns-in-Err : goal.returns-in-Err
returns-in-Err g c = is_unusable _ _ _ _ _ c.args.self.now.old.now _ c.in-Err.field-0.file.now c.in-Err.field-0.fault c.in-Err.ensures.fault c.refuse_kit.ensures.status (search rules) c.refuse_kit.ensures.told
