use Rattle.std.proofs.Common.{◌≡◌, Some, None, nat_eq}
use Rattle.std.specs.List.{position}
use Rattle.press_wire.specs.declared.votes.SlotVote.{SlotVote}
use Rattle.press_wire.proofs.Casts.{cast_none, cast_some}
use Rattle.press_wire.proofs.votes.Votes.cast_again.Goals as goal

pub returns-in-Some : goal.returns-in-Some
returns-in-Some c =
    let e : position (λ (v : SlotVote). nat_eq v.slot c.args.slot) c.self.inside.votes.items ≡ Some c.in-Some.place = cc in
    cast_some c.args.slot c.args.ballot c.self.inside.votes.items c.args.self.now c.in-Some.place _ c.index_mut.result.now c.self.view_is e c.index_mut.ensures.value

pub returns-in_default : goal.returns-in_default
returns-in_default c =
    let e : position (λ (v : SlotVote). nat_eq v.slot c.args.slot) c.self.inside.votes.items ≡ None = cc in
    cast_none c.args.slot c.args.ballot c.self.inside.votes.items c.args.self.now c.self.view_is e
