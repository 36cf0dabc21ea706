use Rattle.std.proofs.Common.{◌≤◌, length, string_bytes, arith}
use Rattle.std.proofs.lemmas.Option.{slice_get_past}
use Rattle.press_program.proofs.Exports.{lines_end}
use Rattle.press_program.specs.Exports.{lines_from}
use Rattle.press_program.proofs.exporting.lines_of_files.Goals as goal

pub returns : goal.returns
returns c =
    let past : length c.args.files.now ≤ c.loop-place.place = omega arith in
    lines_end (string_bytes c.loop-place.text) c.loop-place.place c.args.file.now c.args.files.now (lines_from c.args.file.now 0 c.args.files.now) (slice_get_past c.args.files.now c.loop-place.place past) c.loop-place.invariant
