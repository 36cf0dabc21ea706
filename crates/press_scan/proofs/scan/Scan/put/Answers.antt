use Rattle.press_scan.proofs.scan.Scan.put.Goals as goal

pub invariant_of-self-in-Some : goal.invariant_of-self-in-Some
invariant_of-self-in-Some c = (c.self.invariant.2 c.in-Some.shortcode c.in-Some.is, c.self.invariant.1, (λ w e. absurd (cc)), c.self.invariant.3)
