use Rattle.std.proofs.Common.{refl}
use Rattle.press_world.specs.Models.{model, size}
use Rattle.press_world.specs.Replays.{line_of, to_in}
use Rattle.press_world.specs.Transcript.{step_line}
use Rattle.press_world.proofs.Outcomes.{as_lines, as_outcome, line_is, on_ok}
use Rattle.press_world.proofs.replaying.play_one.Goals as goal

pub returns-clause-step : goal.returns-clause-step
returns-clause-step g c kit = λ have.
    let w = c.args.world.now in
    on_ok c.write_step.result (as_outcome kit (size w) (model w) (model c.play-played.new.self) c.args.step.now c.play-played.result (c.play-played.ensures.step kit have) (c.if-is_wanting.ensures.other refl)).0

pub returns-clause-line : goal.returns-clause-line
returns-clause-line g c kit = λ have.
    let w = c.args.world.now in
    let after = model c.play-played.new.self in
    let x = c.args.step.now in
    let out = as_outcome kit (size w) (model w) after x c.play-played.result (c.play-played.ensures.step kit have) (c.if-is_wanting.ensures.other refl) in
    as_lines c.write_step.result (step_line (to_in after x) c.args.number x c.play-played.result) (line_of kit (size w) c.args.number (model w) x) (g.W.Write.contents c.args.writer.now) (g.W.Write.contents c.write_step.new.writer)
    (line_is kit (size w) c.args.number (model w) after x c.play-played.result out) c.write_step.ensures.ok c.write_step.ensures.err
