use Rattle.std.proofs.Common.{refl}
use Rattle.std.proofs.lemmas.Result.{err_from_is_err_and}
use Rattle.press_world.specs.Models.{model, size}
use Rattle.press_world.specs.Replays.{line_of, to_in}
use Rattle.press_world.specs.Transcript.{step_line}
use Rattle.press_loop.proofs.Carried.{nothing}
use Rattle.press_world.proofs.Onward.{err_lines}
use Rattle.press_world.proofs.Outcomes.{as_lines, as_outcome, line_is, on_ok}
use Rattle.press_loop.proofs.looping.Looped.play_one.Goals as goal

pub returns-in_err-played-clause-line : goal.returns-in_err-played-clause-line
returns-in_err-played-clause-line g c kit = λ have.
    let w = c.args.self.now.world in
    let old = g.W.Write.contents c.args.writer.now in
    let line = line_of kit (size w) c.args.number (model w) c.args.step.now in
    let p = err_from_is_err_and c.from_residual.result c.from_residual.ensures.1 in
    err_lines c.from_residual.result line old old p.0 p.1 (nothing line old)

pub returns-clause-step : goal.returns-clause-step
returns-clause-step g c kit = λ have.
    let w = c.args.self.now.world in
    on_ok c.write_step.result (as_outcome kit (size w) (model w) (model c.play.new.self.world) c.args.step.now c.in_ok-played.played (c.in_ok-played.ensures.step kit have) (c.if-is_wanting.ensures.other refl)).0

pub returns-clause-line : goal.returns-clause-line
returns-clause-line g c kit = λ have.
    let w = c.args.self.now.world in
    let after = model c.play.new.self.world in
    let x = c.args.step.now in
    let out = as_outcome kit (size w) (model w) after x c.in_ok-played.played (c.in_ok-played.ensures.step kit have) (c.if-is_wanting.ensures.other refl) in
    as_lines c.write_step.result (step_line (to_in after x) c.args.number x c.in_ok-played.played) (line_of kit (size w) c.args.number (model w) x) (g.W.Write.contents c.args.writer.now) (g.W.Write.contents c.write_step.new.writer)
    (line_is kit (size w) c.args.number (model w) after x c.in_ok-played.played out) c.write_step.ensures.ok c.write_step.ensures.err
