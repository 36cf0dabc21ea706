-- Two majorities have a member in common.
use Rattle.std.proofs.Common.{ℕ, arith}
use Rattle.press_text.proofs.InCommon.{common}
use Rattle.press_acceptor.specs.Trace.{Majority, IsMember}

-- a member of which both hold
pub shared : {P Q : ℕ → Type 0} (n : ℕ) → Majority n P → Majority n Q → (m : ℕ) × IsMember n m × P m × Q m
shared n s t =
    let r = common s.group t.group 1 n (omega (arith, s.more_than_half, t.more_than_half)) in
    let inside : IsMember n r.0 = (r.1, omega arith) in
    (r.0, inside, s.each r.0 inside r.3, t.each r.0 inside r.4)
