use Rattle.std.proofs.Common.{rules, ◌≡◌, ◌+◌, ◌-◌, ◌<◌, length, subst, sym}
use Rattle.press_cluster.proofs.Owing.{given_up}
use Rattle.press_cluster.specs.Going.{AreKept, GoOut, owed_at}
use Rattle.press_cluster.proofs.clustered.Clustered.outgoing_batch.Goals as goal

pub returns-clause-asks : goal.returns-clause-asks
returns-clause-asks g c =
    let is : c.place_of-place.result ≡ c.args.to - 1 = c.place_of-place.ensures in
    let out : GoOut c.in_ok-batch.field-0.asked (owed_at c.args.self.now.lanes (c.args.to - 1)) (owed_at c.parcel_to.new.self.lanes (c.args.to - 1)) = search rules in
    let there : c.args.to - 1 < length c.parcel_to.new.self.lanes.all.items = search rules in
    let kept = c.give_up.ensures.kept (subst (λ p. p < length c.parcel_to.new.self.lanes.all.items) (sym is) there) in
    given_up _ _ _ _ out (subst (λ p. AreKept (owed_at c.parcel_to.new.self.lanes p + c.in_ok-batch.field-0.asked) (owed_at c.give_up.new.self p)) is kept)
