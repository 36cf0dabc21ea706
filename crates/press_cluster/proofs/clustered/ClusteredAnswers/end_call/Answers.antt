use Rattle.std.proofs.Common.{ℕ, ◌≡◌, ◌∙◌, ◌+◌, false, IsTrue, Some, refl, rules, subst, sym}
use Rattle.press_member.specs.Acts.{view_of}
use Rattle.press_net.specs.Addresses.{behind_loss, sockets_at}
use Rattle.press_net.specs.Answering.{credit}
use Rattle.press_cluster.proofs.Hearing.{reply_heard}
use Rattle.press_cluster.proofs.Owing.{told_last}
use Rattle.press_cluster.specs.Going.{open_at}
use Rattle.press_cluster.specs.Living.{HearsReply, MemberLives, more_come}
use Rattle.press_cluster.specs.Members.{SaysBatch}
use Rattle.press_cluster.specs.Recalling.{has_forgotten}
use Rattle.press_cluster.proofs.clustered.ClusteredAnswers.end_call.Goals as goal
use Rattle.press_cluster.proofs.clustered.ClusteredAnswers.end_call.Goals.{then-is_none, else-is_none}
use Rattle.press_wire.specs.Ranges.{member_id_of}

pub returns-clause-hears : goal.returns-clause-hears
returns-clause-hears g c =
    let same : c.if-is_none.self.member ≡ c.args.self.now.member =
    elim c.if-is_none.branch [ then-is_none w ↦ search rules | else-is_none w ↦ search rules ]
    in
    let recalled : c.if-is_none.self.recollection ≡ c.args.self.now.recollection =
    elim c.if-is_none.branch [ then-is_none w ↦ search rules | else-is_none w ↦ search rules ]
    in
    let lanes : c.if-is_none.self.lanes ≡ c.end.new.self =
    elim c.if-is_none.branch [ then-is_none w ↦ search rules | else-is_none w ↦ search rules ]
    in
    let lost : (to : ℕ) → member_id_of (c.args.place + 1) ≡ Some to → (SaysBatch to c.args.reply.now → ⊥)
    → sockets_at c.if-is_none.self.peers.book c.args.place ≡ behind_loss c.args.errand.addr (sockets_at c.args.self.now.peers.book c.args.place) =
    λ to is none. elim c.if-is_none.branch [ then-is_none w ↦ search rules | else-is_none w ↦ search rules ]
    in
    let to : member_id_of (c.args.place + 1) ≡ Some c.in-Some.to = sym c.member_at.ensures ∙ c.in-Some.is in
    let heard : IsTrue c.hear_back-is_taken.result → HearsReply g.S.PromiseStore.seen c.in-Some.to c.args.reply.now c.args.self.now.member c.hear_back-is_taken.new.self.member =
    λ is. subst (λ m. HearsReply g.S.PromiseStore.seen c.in-Some.to c.args.reply.now m c.hear_back-is_taken.new.self.member) same
    (reply_heard g.S.PromiseStore.seen c.in-Some.to c.args.reply.now c.batch_by-said.result c.if-is_none.self.member c.hear_back-is_taken.new.self.member c.batch_by-said.ensures.from c.batch_by-said.ensures.said (c.hear_back-is_taken.ensures.heard is))
    in (
      λ other. c.note.ensures.ways other ∙ c.hear_back-is_taken.ensures.ways other
          ∙ subst (λ it. open_at c.if-is_none.self.lanes other ≡ open_at it other) lanes refl ∙ c.end.ensures.ways other,
      λ to is none. subst (λ it. sockets_at it.book c.args.place ≡ behind_loss c.args.errand.addr (sockets_at c.args.self.now.peers.book c.args.place))
          (sym (c.note.ensures.peers ∙ c.hear_back-is_taken.ensures.peers)) (lost to is none),
      λ remembers. told_last g.S.PromiseStore.seen (credit c.args.place c.args.errand c.args.reply.now) c.args.self.now.member c.hear_back-is_taken.new.self.member c.note.new.self.member c.in-Some.to c.hear_back-is_taken.result to heard
          (subst (λ m. MemberLives g.S.PromiseStore.seen m c.hear_back-is_taken.new.self.member) same c.hear_back-is_taken.ensures.lives)
          (c.note.ensures.takes (subst (λ it. has_forgotten it.witness ≡ false) c.note.ensures.recalls remembers)),
      λ forgot.
          let before = subst (λ it. IsTrue (has_forgotten it.witness)) (sym recalled) forgot in
          let back = c.hear_back-is_taken.ensures.forgotten before in
          c.note.ensures.forgotten (subst (λ it. IsTrue (has_forgotten it.witness)) (sym back.1) before) ∙ back.0 ∙ same,
    )

pub returns-clause-becomes : goal.returns-clause-becomes
returns-clause-becomes g c =
    let same : c.if-is_none.self.member ≡ c.args.self.now.member =
    elim c.if-is_none.branch [ then-is_none w ↦ search rules | else-is_none w ↦ search rules ]
    in more_come (view_of c.args.self.now.member) (view_of c.hear_back-is_taken.new.self.member) (view_of c.note.new.self.member)
    (subst (λ m. MemberLives g.S.PromiseStore.seen m c.hear_back-is_taken.new.self.member) same c.hear_back-is_taken.ensures.lives) c.note.ensures.lives
