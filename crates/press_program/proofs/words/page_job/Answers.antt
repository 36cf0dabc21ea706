use Rattle.std.proofs.Common.{◌≡◌, ◌==◌, ◌∙◌, false, length, sym, ap, arith}
use Rattle.std.proofs.lemmas.Bool.{eqb-true}
use Rattle.std.proofs.lemmas.List.{length-map, nil_from_length}
use Rattle.std.specs.Vec.{vec_len}
use Rattle.press_program.proofs.Named.{texts}
use Rattle.press_program.proofs.Behind.{job_alone, job_behind}
use Rattle.press_program.proofs.words.page_job.Goals as goal

pub returns-then-is_empty : goal.returns-then-is_empty
returns-then-is_empty c =
    let names = c.args.further.items in
    let long : length (texts names) ≡ vec_len c.args.further = length-map names (λ n. n.now) ∙ omega arith in
    let none : vec_len c.args.further ≡ 0 = eqb-true (vec_len c.args.further) 0 (sym c.is_empty.ensures ∙ c.if-is_empty.true) in
    job_alone c.args.file.now (texts names) c.args.target (nil_from_length (texts names) (long ∙ none))

pub returns : goal.returns
returns c =
    let names = c.args.further.items in
    let long : length (texts names) ≡ vec_len c.args.further = length-map names (λ n. n.now) ∙ omega arith in
    let some : (length (texts names) == 0) ≡ false = ap (λ n. n == 0) long ∙ sym c.is_empty.ensures ∙ c.if-is_empty.false in
    job_behind c.args.file.now (texts names) c.args.target some
