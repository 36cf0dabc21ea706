use Rattle.press_cluster.proofs.Hearing.{hears_none}
use Rattle.press_cluster.proofs.clustered.Clustered.hear_recall.Goals as goal

pub returns-in-Unanswered-clause-only : goal.returns-in-Unanswered-clause-only
returns-in-Unanswered-clause-only g c = hears_none g.S.PromiseStore.seen c.args.head.from c.args.self.now.member
