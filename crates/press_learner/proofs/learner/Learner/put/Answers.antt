use Rattle.std.proofs.Common.{subst}
use Rattle.press_learner.specs.Kept.{IsWindow}
use Rattle.press_learner.proofs.Views.{none_kept, on_err, put_room, put_seen, put_window, put_within}
use Rattle.press_learner.proofs.learner.Learner.put.Goals as goal

pub returns-in_err-make_room-clause-memory : goal.returns-in_err-make_room-clause-memory
returns-in_err-make_room-clause-memory c =
    let f = c.self.inside in
    on_err c.from_residual.result (λ slot member. none_kept f.members f.applied f.ring.items c.args.self.now c.self.view_is slot member c.in_err-make_room.ensures.memory)

pub put_vote-requires : goal.put_vote-requires
put_vote-requires c =
    let f = c.self.inside in
    put_within f.members f.applied f.ring.items c.args.self.now c.self.view_is c.make_room.new.ring.items c.in_ok-make_room.ensures.same c.in_ok-make_room.ensures.room c.args.slot c.args.from c.requires

pub invariant_of-self-2 : goal.invariant_of-self-2
invariant_of-self-2 c =
    let f = c.self.inside in
    let now = c.args.self.now in
    let room = c.make_room.new.ring.items in
    let full = c.put_vote.new.ring.items in
    let window : IsWindow now = subst IsWindow c.self.view_is c.self.invariant.2 in (
      c.self.invariant.0,
      c.self.invariant.1,
      put_window f.members f.applied f.ring.items now c.self.view_is room c.in_ok-make_room.ensures.same c.in_ok-make_room.ensures.room c.args.slot c.args.from c.requires c.args.vote full c.put_vote.ensures window,
      put_room f.members f.applied f.ring.items now c.self.view_is room c.in_ok-make_room.ensures.same c.in_ok-make_room.ensures.room c.args.slot c.args.from c.requires c.args.vote full c.put_vote.ensures,
    )

pub returns-clause-ok : goal.returns-clause-ok
returns-clause-ok c =
    let f = c.self.inside in
    put_seen f.members f.applied f.ring.items c.args.self.now c.self.view_is c.make_room.new.ring.items c.in_ok-make_room.ensures.same c.in_ok-make_room.ensures.room c.args.slot c.args.from c.requires c.args.vote
    c.put_vote.new.ring.items c.put_vote.ensures
