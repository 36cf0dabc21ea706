use Rattle.std.proofs.Common.{◌<◌, length, arith}
use Rattle.press_callbacks.specs.Kits.{named_script}
use Rattle.press_callbacks.proofs.Sames.{same_at}
use Rattle.press_callbacks.proofs.same.same_scripts.Goals as goal

pub returns-then-not-same_script : goal.returns-then-not-same_script
returns-then-not-same_script g c =
    let short : c.loop-i.i < length c.args.b.now = omega arith in (
      λ h. cc,
      λ e. c.if-not-same_script.ensures.1
          (same_at (named_script g.T.Named.name g.T.Scripted.script) c.args.a.now c.args.b.now c.loop-i.i c.index-a-i.result c.index-b-i.result c.loop-i-test.true short c.index-a-i.is c.index-b-i.is e),
    )
