use Rattle.std.proofs.Common.{◌≤◌, length, string_bytes, arith}
use Rattle.std.proofs.lemmas.Option.{slice_get_past}
use Rattle.press_program.proofs.Nexts.{lines_end}
use Rattle.press_program.specs.Nexts.{task_lines}
use Rattle.press_program.proofs.nexting.task_lines.Goals as goal

pub returns : goal.returns
returns c =
    let past : length c.args.names.now ≤ c.loop-place.place = omega arith in
    lines_end (string_bytes c.loop-place.text) c.loop-place.place c.args.task.now c.args.names.now (task_lines c.args.task.now c.args.names.now) (slice_get_past c.args.names.now c.loop-place.place past) c.loop-place.invariant
