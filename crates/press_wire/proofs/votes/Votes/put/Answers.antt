use Rattle.std.proofs.Common.{rules, ◌≡◌, OnOk, Some, None, nat_le, sym, ◌∙◌}
use Rattle.std.specs.List.{position}
use Rattle.press_wire.specs.declared.votes.SlotVote.{SlotVote}
use Rattle.press_wire.specs.Votes.{put}
use Rattle.press_wire.proofs.Puts.{put_last, put_over, put_between}
use Rattle.press_wire.proofs.votes.Votes.put.Goals as goal

pub returns-then-eq-clause-put : goal.returns-then-eq-clause-put
returns-then-eq-clause-put c =
    let e : position (λ (v : SlotVote). nat_le c.args.slot v.slot) c.self.inside.votes.items ≡ Some c.in-Some.place = cc in
    put_over c.args.slot c.args.vote c.self.inside.votes.items c.args.self.now c.in-Some.place _ c.index.result.now c.self.view_is e c.index.ensures (sym c.eq.ensures ∙ c.if-eq.true)

pub returns-clause-put : goal.returns-clause-put
returns-clause-put c =
    let e : position (λ (v : SlotVote). nat_le c.args.slot v.slot) c.self.inside.votes.items ≡ Some c.in-Some.place = cc in
    c.in_ok-insert.ensures.items ∙ put_between c.args.slot c.args.vote c.self.inside.votes.items c.args.self.now c.in-Some.place _ c.index.result.now c.self.view_is e c.index.ensures (sym c.eq.ensures ∙ c.if-eq.false)

pub returns-in_default-clause-put : goal.returns-in_default-clause-put
returns-in_default-clause-put c =
    let e : position (λ (v : SlotVote). nat_le c.args.slot v.slot) c.self.inside.votes.items ≡ None = cc in
    let f = put_last c.args.slot c.args.vote c.self.inside.votes.items c.args.self.now c.self.view_is e in
    let f' : OnOk c.push.result (c.push.new.self ≡ put c.args.slot c.args.vote c.args.self.now) = search (rules, f) in f'
