use Rattle.std.proofs.Common.{◌∙◌, sym, subst}
use Rattle.press_cluster.specs.Living.{MemberLives}
use Rattle.press_cluster.proofs.clustered.ClusteredAnswers.answer.Goals as goal

pub returns-clause-lives : goal.returns-clause-lives
returns-clause-lives g c = subst (λ m. MemberLives g.S.PromiseStore.seen c.args.self.now.member m) (sym c.note_reply.ensures) c.reply.ensures.lives

pub returns-clause-forgotten : goal.returns-clause-forgotten
returns-clause-forgotten g c = λ forgot. c.note_reply.ensures ∙ c.reply.ensures.forgotten forgot
