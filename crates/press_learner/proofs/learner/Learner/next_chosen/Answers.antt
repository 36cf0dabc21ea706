use Rattle.std.proofs.Common.{◌≡◌, ◌+◌, Some, None, ap, subst, arith}
use Rattle.press_learner.specs.Chosen.{majority_value}
use Rattle.press_learner.specs.Kept.{KeptVotes, vote_at}
use Rattle.press_learner.proofs.Turns.{first_here, first_more, first_none}
use Rattle.press_learner.proofs.learner.Learner.next_chosen.Goals as goal

pub returns-in-Some-clause-value : goal.returns-in-Some-clause-value
returns-in-Some-clause-value c =
    let now = c.args.self.now in
    let here = subst (λ a. Some c.in-Some.value.now ≡ majority_value now (a + 1) (vote_at now (a + 1) (c.loop-i.i + 1))) (ap (λ (k : KeptVotes). k.applied) c.self.view_is) c.in-Some.ensures in
    first_here now c.loop-i.i c.in-Some.value.now (omega (arith, c.loop-i-test.true, ap (λ (k : KeptVotes). k.members) c.self.view_is)) here c.loop-i.invariant

pub loop-i-preserved : goal.loop-i-preserved
loop-i-preserved c =
    let now = c.args.self.now in
    let here = subst (λ a. ◌≡◌ {A = _} None (majority_value now (a + 1) (vote_at now (a + 1) (c.loop-i.i + 1)))) (ap (λ (k : KeptVotes). k.applied) c.self.view_is) c.in-None.ensures in
    first_more now (now.applied + 1) c.loop-i.i here c.loop-i.invariant

pub returns-clause-value : goal.returns-clause-value
returns-clause-value c =
    let now = c.args.self.now in
    first_none now c.loop-i.i (omega (arith, c.loop-i-test.false, ap (λ (k : KeptVotes). k.members) c.self.view_is)) (omega (arith, c.loop-i.auto.i-end, ap (λ (k : KeptVotes). k.members) c.self.view_is)) c.loop-i.invariant
