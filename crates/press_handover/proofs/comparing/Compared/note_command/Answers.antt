use Rattle.std.proofs.Common.{◌≡◌, ◌∙◌, ◌≤◌, false, length, refl, sym, arith}
use Rattle.press_handover.specs.Handovers.{same_outcome}
use Rattle.press_handover.proofs.Telling.{adds_past}
use Rattle.press_handover.proofs.comparing.Compared.note_command.Goals as goal

pub returns-else-len-lt-MOST_TOLD : goal.returns-else-len-lt-MOST_TOLD
returns-else-len-lt-MOST_TOLD c =
    let other : same_outcome c.args.before c.args.after ≡ false = sym c.is_same.ensures ∙ c.if-is_same.false in
    let full : 20 ≤ length c.args.self.now.first.items = omega (arith, c.len.ensures, c.if-len-lt-MOST_TOLD.false) in
    rw other (adds_past c.args.self.now (record { first = c.args.self.now.first; count = c.saturating_add-self.result }) _ full refl (λ room. omega (arith, c.saturating_add-self.ensures, room)))
