use Rattle.std.proofs.Common.{refl}
use Rattle.press_net.proofs.Padding.{wants}
use Rattle.press_net.proofs.request_buffer.missing_count.Goals as goal

pub returns : goal.returns
returns c = wants _ c.read_pieces.ensures.0 _ _ (refl, refl, refl) c.read_pieces.ensures.1
