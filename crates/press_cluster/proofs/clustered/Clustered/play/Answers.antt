use Rattle.std.proofs.Common.{refl}
use Rattle.press_member.specs.Acts.{view_of}
use Rattle.press_cluster.specs.Living.{compares_by_answers, one_comes}
use Rattle.press_cluster.proofs.clustered.Clustered.play.Goals as goal

pub returns-in_err-answer-clause-lives : goal.returns-in_err-answer-clause-lives
returns-in_err-answer-clause-lives g c = one_comes (view_of c.args.self.now.member) (view_of c.on.new.self) c.args.input c.on.result c.on.ensures.acts c.on.ensures.moves

pub loop-message-init : goal.loop-message-init
loop-message-init g c = (
  one_comes (view_of c.args.self.now.member) (view_of c.on.new.self) c.args.input c.on.result c.on.ensures.acts c.on.ensures.moves,
  record { result = c.on.result; acts = c.on.ensures.acts; moves = c.on.ensures.moves },
  λ place. refl,
  refl,
  refl,
)

pub returns-clause-compares : goal.returns-clause-compares
returns-clause-compares g c = compares_by_answers (view_of c.args.self.now.member) _ _ c.args.input c.in_ok-answer.ensures.acts.refused c.in_ok-answer.field-0.answer
    c.in_ok-answer.ensures.acts.answered
