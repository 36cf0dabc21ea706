use Rattle.press_handover.proofs.Sealed.{too_short}
use Rattle.press_handover.proofs.kept.unsealed.Goals as goal

pub returns-then-kept-lt-DIGEST : goal.returns-then-kept-lt-DIGEST
returns-then-kept-lt-DIGEST c = too_short c.args.kept.now c.if-kept-lt-DIGEST.true
