use Rattle.std.proofs.Common.{◌≡◌, ◌∙◌, List, ap, map, subst}
use Rattle.std.specs.Prelude.{IfOk}
use Rattle.press_lint.specs.Joints.{File, files_of}
use Rattle.press_handover.specs.Kept.{IsOfFiles, nameless}
use Rattle.press_handover.proofs.Sealed.{of_kept}
use Rattle.press_handover.proofs.kept.parts_of_kept.Goals as goal

pub returns : goal.returns
returns c = λ files short are.
    let bytes_are = of_kept c.args.kept.now c.in-Some.bytes.now files c.in-Some.ensures are in
    let read : files_of c.deref.result.now ≡ map nameless files = ap files_of c.deref.ensures.value ∙ c.in_ok-files.ensures files short bytes_are in
    subst (λ (fs : List File). IfOk c.parts_of_files.result (λ kit. IsOfFiles fs kit)) read c.parts_of_files.ensures.parts
