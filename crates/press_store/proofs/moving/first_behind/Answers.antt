use Rattle.std.proofs.Common.{◌≡◌, ◌∙◌, ap, arith}
use Rattle.press_wire.specs.Blocks.{is_first}
use Rattle.press_store.specs.Moving as spec
use Rattle.press_store.proofs.Blocks.{first_is_first}
use Rattle.press_store.proofs.moving.first_behind.Goals as goal

pub returns-clause-first : goal.returns-clause-first
returns-clause-first c =
    let number : c.slot_behind.result ≡ spec.first_behind c.args.count = omega (arith, c.slot_behind.ensures) in
    ap is_first number ∙ first_is_first c.args.count
