use Rattle.std.proofs.Common.{◌≡◌, sym, subst}
use Rattle.press_cluster.specs.Living.{MemberLives}
use Rattle.press_cluster.proofs.clustered.Clustered.take.Goals as goal

pub returns-clause-lives : goal.returns-clause-lives
returns-clause-lives g c = subst (λ m. MemberLives g.S.PromiseStore.seen c.args.self.now.member m) (sym c.answer_batch.ensures.member) c.in_ok-hear.ensures.lives
