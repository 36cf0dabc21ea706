use Rattle.std.proofs.Common.{rules, ◌≡◌, ◌==◌, ◌∙◌, false, length, sym, ap, arith}
use Rattle.std.proofs.lemmas.Bool.{eqb-true}
use Rattle.std.proofs.lemmas.List.{length-map, nil_from_length}
use Rattle.std.specs.Vec.{vec_len}
use Rattle.press_lint.specs.Files.{GivesSlips}
use Rattle.press_lint.specs.Joints.{files_of, read_together}
use Rattle.press_program.specs.KitFiles.{slip_front}
use Rattle.press_program.specs.Words.{job_of}
use Rattle.press_program.proofs.KitRuns.{demonstrated, played, refused}
use Rattle.press_program.proofs.Named.{texts}
use Rattle.press_program.proofs.wanted.Arguments.runs.Goals as goal

pub returns-then-is_empty-clause-runs : goal.returns-then-is_empty-clause-runs
returns-then-is_empty-clause-runs g c =
    let kits = c.args.self.now.kits in
    let long : length (texts kits.items) ≡ vec_len kits = length-map kits.items (λ n. n.now) ∙ omega arith in
    let none : vec_len kits ≡ 0 = eqb-true (vec_len kits) 0 (sym c.is_empty.ensures ∙ c.if-is_empty.true) in
    demonstrated g.S.Serves.served (job_of c.args.self.now.job) _ _ _ _ _ _ (texts kits.items) (nil_from_length (texts kits.items) (long ∙ none)) c.run_job.ensures.does

pub returns-in-Ok-clause-runs : goal.returns-in-Ok-clause-runs
returns-in-Ok-clause-runs g c =
    let kits = c.args.self.now.kits in
    let long : length (texts kits.items) ≡ vec_len kits = length-map kits.items (λ n. n.now) ∙ omega arith in
    let some : (length (texts kits.items) == 0) ≡ false = ap (λ n. n == 0) long ∙ sym c.is_empty.ensures ∙ c.if-is_empty.false in
    let gives : GivesSlips slip_front (read_together (files_of c.in-Ok.field-0.files.items)) c.as_bytes.result.now = search rules in
    played g.S.Serves.served (job_of c.args.self.now.job) _ _ _ _ _ _ (texts kits.items) (files_of c.in-Ok.field-0.files.items) c.as_bytes.result.now _ some (rw c.deref.ensures.value at c.in-Ok.ensures.names) gives c.tell.ensures c.run_job-in-Ok.ensures.does

pub returns-in-Err-clause-runs : goal.returns-in-Err-clause-runs
returns-in-Err-clause-runs g c =
    let kits = c.args.self.now.kits in
    let long : length (texts kits.items) ≡ vec_len kits = length-map kits.items (λ n. n.now) ∙ omega arith in
    let some : (length (texts kits.items) == 0) ≡ false = ap (λ n. n == 0) long ∙ sym c.is_empty.ensures ∙ c.if-is_empty.false in
    refused g.S.Serves.served (job_of c.args.self.now.job) _ _ _ _ _ _ (texts kits.items) c.in-Err.field-0.file.now c.in-Err.field-0.fault some (rw c.deref.ensures.value at c.in-Err.ensures.fault) c.refuse_kit.ensures.status (search rules) c.refuse_kit.ensures.told
