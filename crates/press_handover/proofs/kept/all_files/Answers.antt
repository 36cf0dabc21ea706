use Rattle.std.proofs.Common.{◌<◌, ◌^◌, length}
use Rattle.press_handover.specs.Kept.{files_bytes}
use Rattle.press_lint.specs.Joints.{File, files_of}
use Rattle.std.proofs.Common.{map}
use Rattle.press_handover.proofs.Pieces.{ends, puts, short_at}
use Rattle.press_handover.proofs.kept.all_files.Goals as goal

pub put_file-requires : goal.put_file-requires
put_file-requires c =
    let short : length c.file-item.result.bytes.items < 2 ^ 32 = short_at c.args.files.now c.loop-file.file-index c.file-item.result c.loop-file-test.true c.file-item.is c.requires in
    rw c.deref.ensures.value short

pub loop-file-preserved : goal.loop-file-preserved
loop-file-preserved c =
    let total = files_bytes (map (λ (f : File). f.bytes) (files_of c.args.files.now)) in
    puts c.args.files.now c.loop-file.file-index c.file-item.result c.loop-file.kept.items c.put_file.new.kept.items total c.loop-file-test.true c.file-item.is c.loop-file.invariant (rw c.deref.ensures.value at c.in_ok-put_file.ensures)

pub returns : goal.returns
returns c = ends c.args.files.now c.loop-file.file-index c.loop-file.kept.items _ c.loop-file-test.false c.loop-file.invariant
