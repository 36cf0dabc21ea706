use Rattle.press_lint.proofs.Names.{name_is_text}
use Rattle.press_handover.proofs.obstacle.Obstacle.text.Goals as goal

pub unreachable-requires : goal.unreachable-requires
unreachable-requires c = (c.in_default.ensures.cases).0 (name_is_text 32 c.as_bytes.result.now c.as_bytes.ensures.class)
