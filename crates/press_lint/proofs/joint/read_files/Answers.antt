use Rattle.std.proofs.Common.{rules, ◌≡◌, Ok, Err, sym, subst, arith}
use Rattle.press_kit.specs.KitFile.{kit_in}
use Rattle.press_lint.specs.Files.{RefusesBad, RefusesFiles}
use Rattle.press_lint.specs.declared.files.FilesFault.{FilesFault}
use Rattle.press_lint.specs.declared.files.FilesFault.TheVariants.{NoMemory, Refused}
use Rattle.press_lint.specs.Joints.{file_of, files_of, joint_of, read_together}
use Rattle.press_lint.proofs.Shares.{reads_all, reads_bad, reads_on}
use Rattle.press_lint.proofs.joint.read_files.Goals as goal

pub returns-in-Err-BadKitFile-clause-fault : goal.returns-in-Err-BadKitFile-clause-fault
returns-in-Err-BadKitFile-clause-fault c =
    let is : kit_in c.index-files-i.result.bytes.items ≡ Err c.in-Err-BadKitFile.at = search rules in
    let bad = reads_bad c.args.files.now (read_together (files_of c.args.files.now)) (joint_of c.loop-i.joint) c.loop-i.i c.index-files-i.result c.in-Err-BadKitFile.at (omega arith) c.index-files-i.is is c.loop-i.invariant in
    let told : RefusesFiles (Err (file_of c.index-files-i.result, c.in-Err-BadKitFile.at)) c.refusal_at.result = search rules in
    subst (λ found. RefusesFiles found c.refusal_at.result) (sym bad) told

pub returns-in-Err-BadKitFile-clause-bad : goal.returns-in-Err-BadKitFile-clause-bad
returns-in-Err-BadKitFile-clause-bad c =
    let is : kit_in c.index-files-i.result.bytes.items ≡ Err c.in-Err-BadKitFile.at = search rules in
    let bad = reads_bad c.args.files.now (read_together (files_of c.args.files.now)) (joint_of c.loop-i.joint) c.loop-i.i c.index-files-i.result c.in-Err-BadKitFile.at (omega arith) c.index-files-i.is is c.loop-i.invariant in
    go c.refusal_at.result bad
  where
    go : (f : FilesFault) → read_together (files_of c.args.files.now) ≡ Err (file_of c.index-files-i.result, c.in-Err-BadKitFile.at) → RefusesBad (read_together (files_of c.args.files.now)) f
    go NoMemory bad = tt
    go (Refused file number text) bad = ((file_of c.index-files-i.result, c.in-Err-BadKitFile.at), bad)

pub loop-i-preserved : goal.loop-i-preserved
loop-i-preserved c =
    let is : kit_in c.index-files-i.result.bytes.items ≡ Ok c.in-Ok.parts = search rules in
    rw c.in_ok-joint-in-Ok.ensures
    (reads_on c.args.files.now (read_together (files_of c.args.files.now)) (joint_of c.loop-i.joint) c.loop-i.i c.index-files-i.result c.in-Ok.parts (omega arith) c.index-files-i.is is c.loop-i.invariant)

pub returns-clause-joint : goal.returns-clause-joint
returns-clause-joint c = reads_all c.args.files.now (read_together (files_of c.args.files.now)) (joint_of c.loop-i.joint) c.loop-i.i (omega arith) c.loop-i.invariant
