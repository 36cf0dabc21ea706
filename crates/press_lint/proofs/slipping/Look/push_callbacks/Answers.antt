use Rattle.std.proofs.Common.{rules, arith, ◌≡◌, ◌++◌, List, [], ℕ, refl, string_bytes}
use Rattle.press_lint.specs.Slips as spec
use Rattle.press_lint.proofs.Alongs.{goes_on}
use Rattle.press_lint.proofs.slipping.Look.push_callbacks.Goals as goal

pub loop-n-preserved : goal.loop-n-preserved
loop-n-preserved c =
    let more : List ℕ = spec.callback_slips c.args.self.now.front.now c.args.self.now.run.kit.now c.args.self.now.run.plays.now
    c.loop-n.n c.index-callbacks-n.result [] in
    let pushed : string_bytes c.push_callback.new.out ≡ string_bytes c.loop-n.out ++ more = search rules in
    rw pushed (goes_on (spec.callback_slips c.args.self.now.front.now c.args.self.now.run.kit.now c.args.self.now.run.plays.now) c.args.callbacks.now
    (string_bytes c.loop-n.out) more _ c.loop-n.n c.index-callbacks-n.result (omega arith) c.index-callbacks-n.is refl c.loop-n.invariant)
