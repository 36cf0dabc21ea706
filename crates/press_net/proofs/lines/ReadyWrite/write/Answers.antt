use Rattle.std.proofs.Common.{◌≡◌, subst}
use Rattle.std.specs.Io.KnownBytes.{WriteAppends}
use Rattle.press_net.proofs.Pieces.{front_written}
use Rattle.press_net.proofs.lines.ReadyWrite.write.Goals as goal

pub returns-clause-bytes : goal.returns-clause-bytes
returns-clause-bytes g c =
    let same : c.is_ready.new.self.writer ≡ c.args.self.now.writer = c.is_ready.ensures.same in
    subst (λ w. WriteAppends (g.W.Write.contents w) (g.W.Write.contents c.write.new.self) c.write.result c.args.bytes.now) same
    (front_written _ _ c.min-count.result c.args.bytes.now c.write.result c.write.ensures.bound c.write.ensures.bytes)
