use Rattle.std.proofs.Common.{ap, ◌∙◌, arith, string_bytes}
use Rattle.press_callbacks.specs.Kits.{scripts_in}
use Rattle.press_play.specs.Lines.{state_in}
use Rattle.press_play.proofs.Onward.{goes_on, stops, is_done}
use Rattle.press_play.proofs.plays.lines_of.Goals as goal

pub returns-then-not-branch : goal.returns-then-not-branch
returns-then-not-branch g c =
    ap string_bytes c.into_lines.ensures ∙ stops (scripts_in c.args.kit.now) c.args.plays.now (string_bytes c.loop-play.playing.lines) (string_bytes c.play.new.self.lines) c.loop-play.play-index c.play-item.result (state_in c.loop-play.playing.machine) _
    (omega arith) c.play-item.is (rw c.if-not-branch.true at c.in_ok-play.ensures) c.loop-play.invariant

pub loop-play-preserved : goal.loop-play-preserved
loop-play-preserved g c =
    goes_on (scripts_in c.args.kit.now) c.args.plays.now (string_bytes c.loop-play.playing.lines) (string_bytes c.play.new.self.lines) c.loop-play.play-index c.play-item.result (state_in c.loop-play.playing.machine) (state_in c.play.new.self.machine) _
    (omega arith) c.play-item.is (rw c.if-not-branch.false at c.in_ok-play.ensures) c.loop-play.invariant

pub returns : goal.returns
returns g c =
    ap string_bytes c.into_lines-2.ensures ∙ is_done (scripts_in c.args.kit.now) c.args.plays.now (string_bytes c.loop-play.playing.lines) c.loop-play.play-index (state_in c.loop-play.playing.machine) _ (omega arith) c.loop-play.invariant
