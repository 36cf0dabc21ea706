use Rattle.std.proofs.Common.{refl}
use Rattle.press_member.specs.Acts.{view_of}
use Rattle.press_cluster.specs.Living.{more_come}
use Rattle.press_member.specs.declared.input.Input.TheVariants as input
use Rattle.press_cluster.proofs.Hearing.{hears_both, hears_one}
use Rattle.press_cluster.proofs.clustered.Clustered.hear_all.Goals as goal

pub returns-in_err-hear_report-clause-only : goal.returns-in_err-hear_report-clause-only
returns-in_err-hear_report-clause-only g c =
    hears_one g.S.PromiseStore.seen c.args.head.from (input.Report c.args.head.from c.args.head.report) c.args.self.now.member c.hear_report.new.self.member refl c.hear_report.ensures.takes

pub returns-then-not-branch-clause-only : goal.returns-then-not-branch-clause-only
returns-then-not-branch-clause-only g c =
    hears_one g.S.PromiseStore.seen c.args.head.from (input.Report c.args.head.from c.args.head.report) c.args.self.now.member c.hear_report.new.self.member refl c.hear_report.ensures.takes

pub returns-in_err-hear_messages-clause-only : goal.returns-in_err-hear_messages-clause-only
returns-in_err-hear_messages-clause-only g c =
    hears_both g.S.PromiseStore.seen c.args.head.from c.args.self.now.member c.hear_report.new.self.member c.hear_messages.new.self.member
    (hears_one g.S.PromiseStore.seen c.args.head.from (input.Report c.args.head.from c.args.head.report) c.args.self.now.member c.hear_report.new.self.member refl c.hear_report.ensures.takes) c.hear_messages.ensures.only

pub returns-clause-only : goal.returns-clause-only
returns-clause-only g c =
    hears_both g.S.PromiseStore.seen c.args.head.from c.args.self.now.member c.hear_report.new.self.member c.hear_messages.new.self.member
    (hears_one g.S.PromiseStore.seen c.args.head.from (input.Report c.args.head.from c.args.head.report) c.args.self.now.member c.hear_report.new.self.member refl c.hear_report.ensures.takes) c.hear_messages.ensures.only

pub returns-in_err-hear_messages-clause-lives : goal.returns-in_err-hear_messages-clause-lives
returns-in_err-hear_messages-clause-lives g c = more_come (view_of c.args.self.now.member) (view_of c.hear_report.new.self.member) (view_of c.hear_messages.new.self.member) c.hear_report.ensures.lives c.hear_messages.ensures.lives

pub returns-clause-lives : goal.returns-clause-lives
returns-clause-lives g c = more_come (view_of c.args.self.now.member) (view_of c.hear_report.new.self.member) (view_of c.hear_messages.new.self.member) c.hear_report.ensures.lives c.hear_messages.ensures.lives
