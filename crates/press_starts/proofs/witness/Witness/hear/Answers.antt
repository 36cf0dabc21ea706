use Rattle.std.proofs.Common.{◌≡◌, ◌∷◌, subst, sym}
use Rattle.std.proofs.lemmas.List.Elements.{All-set}
use Rattle.press_starts.proofs.Sound.{made_by_hearing}
use Rattle.press_starts.specs.Witnesses.{IsAnswerMade, hearing_of}
use Rattle.press_starts.proofs.witness.Witness.hear.Goals as goal

pub invariant_of-self : goal.invariant_of-self
invariant_of-self c =
    let made = made_by_hearing (record { file = c.self.inside.mark ∷ c.self.inside.earlier.items; number = c.self.inside.number; peers = c.self.inside.peers; reminder = c.self.inside.reminder }) c.args.from c.place_of-place.result c.args.recall.now c.hearing-hearing.result c.place_of-place.ensures.place (sym c.if-is_some.ensures) c.self.invariant (subst (λ w. c.hearing-hearing.result ≡ hearing_of w c.args.from c.args.recall.now) (sym c.self.view_is) c.hearing-hearing.ensures) in
    All-set (λ peer. IsAnswerMade (c.self.inside.mark ∷ c.self.inside.earlier.items) peer) c.self.inside.peers c.place_of-place.result c.after.result (rw c.after.ensures made) c.self.invariant
