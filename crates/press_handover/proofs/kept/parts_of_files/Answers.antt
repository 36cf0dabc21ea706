use Rattle.std.proofs.Common.{◌≡◌, ◌∙◌, true, length}
use Rattle.std.proofs.lemmas.Bool.{eq-eqb}
use Rattle.press_lint.specs.Joints.{files_of, joint_of}
use Rattle.press_handover.proofs.Sealed.{given, no_file}
use Rattle.press_handover.proofs.kept.parts_of_files.Goals as goal

pub returns-in-Ok-clause-parts : goal.returns-in-Ok-clause-parts
returns-in-Ok-clause-parts c =
    given (files_of c.args.files.now) (joint_of c.in-Ok.joint)
    (λ none. let is : c.is_empty.result ≡ true = c.is_empty.ensures ∙ eq-eqb (length c.args.files.now) 0 (no_file c.args.files.now none) in let not = c.if-is_empty.false in cc) c.in-Ok.ensures.joint
