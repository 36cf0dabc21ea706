use Rattle.std.proofs.Common.{◌+◌, ◌≡◌, ◌≤◌, [], length, refl, sym, subst, ap, ◌∙◌, arith}
use Rattle.std.proofs.lemmas.Result.{err_from_is_err_and}
use Rattle.std.specs.Io.KnownBytes.{Appends}
use Rattle.press_text.specs.Streams.{AppendsFront}
use Rattle.press_world.specs.Models.{model, size}
use Rattle.press_world.specs.Replays.{line_of, lines}
use Rattle.press_world.specs.Seats.{static_of}
use Rattle.press_world.specs.Stored.{stored_step}
use Rattle.press_world.specs.Whole.{HaveKit}
use Rattle.press_world.proofs.Members.{same_count}
use Rattle.press_loop.proofs.Carried.{unchanged}
use Rattle.press_world.proofs.Onward.{ends, err_lines, goes_on, stops}
use Rattle.press_loop.proofs.looping.Looped.play_all.Goals as goal

pub returns-in_err-play_one-clause-lines : goal.returns-in_err-play_one-clause-lines
returns-in_err-play_one-clause-lines g c kit = λ have.
    let w = c.args.self.now.world in
    let p = err_from_is_err_and c.from_residual.result c.from_residual.ensures.1 in
    let inv = c.loop-step.invariant.told kit have in
    let n : size c.loop-step.self.world ≡ size w = same_count static_of w.cluster.seats.items c.loop-step.self.world.cluster.seats.items c.loop-step.invariant.fixed in
    let line = c.in_err-play_one.ensures.line kit (subst (HaveKit kit) (sym c.loop-step.invariant.fixed) have) in
    err_lines c.from_residual.result (lines kit (size w) 1 (model w) c.args.steps.now) (g.W.Write.contents c.args.writer.now) (g.W.Write.contents c.play_one.new.writer) p.0 p.1
    (stops kit (size w) c.args.steps.now c.loop-step.step-index c.loop-step.number (model c.loop-step.self.world) (g.W.Write.contents c.args.writer.now) (g.W.Write.contents c.loop-step.writer) inv.0 (lines kit (size w) 1 (model w) c.args.steps.now) inv.1 inv.2
    c.step-item.result c.loop-step-test.true c.step-item.is (g.W.Write.contents c.play_one.new.writer) (subst (λ k. AppendsFront (g.W.Write.contents c.loop-step.writer) (g.W.Write.contents c.play_one.new.writer) (line_of kit k c.loop-step.number (model c.loop-step.self.world) c.step-item.result)) n line))

pub loop-step-init : goal.loop-step-init
loop-step-init g c = record { fixed = refl; number = refl; told = λ kit have. ([], unchanged (g.W.Write.contents c.args.writer.now), refl) }

pub loop-step-preserved : goal.loop-step-preserved
loop-step-preserved g c =
    let w = c.args.self.now.world in
    let n : size c.loop-step.self.world ≡ size w = same_count static_of w.cluster.seats.items c.loop-step.self.world.cluster.seats.items c.loop-step.invariant.fixed in
    record {
      fixed = c.in_ok-play_one.ensures.statics ∙ c.loop-step.invariant.fixed;
      number = ap (λ k. k + 1) c.loop-step.invariant.number;
      told = λ kit have.
          let inv = c.loop-step.invariant.told kit have in
          let kept = subst (HaveKit kit) (sym c.loop-step.invariant.fixed) have in
          goes_on kit (size w) c.args.steps.now c.loop-step.step-index c.loop-step.number (model c.loop-step.self.world) (g.W.Write.contents c.args.writer.now) (g.W.Write.contents c.loop-step.writer) inv.0 (lines kit (size w) 1 (model w) c.args.steps.now) inv.1 inv.2
          c.step-item.result c.loop-step-test.true c.step-item.is (model c.play_one.new.self.world) (g.W.Write.contents c.play_one.new.writer)
          (c.in_ok-play_one.ensures.step kit kept ∙ ap (λ k. stored_step k (model c.loop-step.self.world) c.step-item.result) n)
          (subst (λ k. Appends (g.W.Write.contents c.loop-step.writer) (g.W.Write.contents c.play_one.new.writer) (line_of kit k c.loop-step.number (model c.loop-step.self.world) c.step-item.result)) n (c.in_ok-play_one.ensures.line kit kept));
    }

pub returns-clause-lines : goal.returns-clause-lines
returns-clause-lines g c kit = λ have.
    let w = c.args.self.now.world in
    let inv = c.loop-step.invariant.told kit have in
    let done : length c.args.steps.now ≤ c.loop-step.step-index = omega arith in
    ends kit (size w) c.args.steps.now c.loop-step.step-index c.loop-step.number (model c.loop-step.self.world) (g.W.Write.contents c.args.writer.now) (g.W.Write.contents c.loop-step.writer) inv.0 (lines kit (size w) 1 (model w) c.args.steps.now) inv.1 inv.2
    c.write_end.result (g.W.Write.contents c.write_end.new.writer) done c.write_end.ensures.ok c.write_end.ensures.err
