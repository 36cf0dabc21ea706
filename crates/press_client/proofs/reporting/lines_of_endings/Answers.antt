use Rattle.std.proofs.Common.{◌≤◌, inr, length, string_bytes, arith}
use Rattle.std.proofs.lemmas.Option.{slice_get_past}
use Rattle.press_client.proofs.Lines.{lines_end}
use Rattle.press_client.specs.Reporting.{lines_from}
use Rattle.press_client.proofs.reporting.lines_of_endings.Goals as goal

pub returns : goal.returns
returns c =
    let past : length c.args.endings.now ≤ c.loop-place.place = omega arith in
    lines_end (string_bytes c.loop-place.text) c.loop-place.place c.args.commands.now c.args.endings.now (lines_from 0 c.args.commands.now c.args.endings.now) (inr (slice_get_past c.args.endings.now c.loop-place.place past)) c.loop-place.invariant
