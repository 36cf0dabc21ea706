use Rattle.std.proofs.Common.{◌≡◌, ◌+◌, ◌*◌, ℕ, true, rules, subst, sym}
use Rattle.press_wire.specs.Blocks.{is_first}
use Rattle.press_handover.proofs.Blocks.{first_is_first}
use Rattle.press_handover.proofs.visiting.first_of.Goals as goal

pub returns-clause-first : goal.returns-clause-first
returns-clause-first c =
    let value : c.in-Some.first ≡ 16 * c.args.block + 1 = search rules in
    subst (λ (n : ℕ). is_first n ≡ true) (sym value) (first_is_first c.args.block)
