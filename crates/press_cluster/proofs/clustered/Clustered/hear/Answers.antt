use Rattle.std.proofs.Common.{refl}
use Rattle.press_member.specs.declared.input.Input.TheVariants as input
use Rattle.press_cluster.proofs.Hearing.{hears_none, hears_one}
use Rattle.press_cluster.proofs.clustered.Clustered.hear.Goals as goal

pub returns-then-has_forgotten-clause-only : goal.returns-then-has_forgotten-clause-only
returns-then-has_forgotten-clause-only g c = hears_none g.S.PromiseStore.seen c.args.head.from c.args.self.now.member

pub returns-in_err-hear_report-clause-only : goal.returns-in_err-hear_report-clause-only
returns-in_err-hear_report-clause-only g c =
    hears_one g.S.PromiseStore.seen c.args.head.from (input.Report c.args.head.from c.args.head.report) c.args.self.now.member c.hear_report.new.self.member refl c.hear_report.ensures.takes

pub returns-clause-only : goal.returns-clause-only
returns-clause-only g c =
    hears_one g.S.PromiseStore.seen c.args.head.from (input.Report c.args.head.from c.args.head.report) c.args.self.now.member c.hear_report.new.self.member refl c.hear_report.ensures.takes
