use Rattle.std.proofs.Common.{◌∙◌, ap, refl, length, IsTrue, true, false, None}
use Rattle.std.proofs.lemmas.Result.{err_from_is_err_and}
use Rattle.press_member.specs.declared.input.Input.TheVariants as input
use Rattle.press_node.specs.Nodes.{node_move}
use Rattle.press_member.specs.Played.{moment_of}
use Rattle.press_member.specs.Turns.{HearsAll, HearsFirst, MayWake}
use Rattle.press_member.proofs.Inputs.{turns}
use Rattle.press_member.proofs.Turning.{hears_first, hears_only, other_kind, turns_on}
use Rattle.press_member.proofs.member.Member.on_own.Goals as goal

pub returns-in_err-hear_own : goal.returns-in_err-hear_own
returns-in_err-hear_own g c =
    let p = err_from_is_err_and c.from_residual.result c.from_residual.ensures.1 in
    let h = c.in_err-hear_own.ensures in
    let n = (length c.args.self.now.peers.all.items) in
    let id = c.args.self.now.player.id in
    let own = c.args.self.now.player.own.items in
    rw (p.1) (record {
      acts = turns (λ a b. node_move g.S.PromiseStore.seen a b) input.HearOwn _ _ _ None c.new-messages.result.items c.hear_own.new.out.items (record { id = h.id; members = refl; digests = refl; chain = refl; differing = refl; kit = h.kit }) c.new-messages.ensures.items
          (other_kind (λ a b. node_move g.S.PromiseStore.seen a b) n id (HearsAll id (IsTrue false) own) (HearsFirst id (IsTrue false) own) (IsTrue false) (moment_of c.args.self.now.player) (moment_of c.hear_own.new.self) c.new-messages.result.items c.hear_own.new.out.items (hears_only id (IsTrue false) own) (h.turned n)) tt tt tt refl;
    })

pub returns-in_err-follow : goal.returns-in_err-follow
returns-in_err-follow g c =
    let p = err_from_is_err_and c.from_residual-in_err-follow.result c.from_residual-in_err-follow.ensures.1 in
    let h = c.in_ok-hear_own.ensures in
    let f = c.in_err-follow.ensures in
    let n = (length c.args.self.now.peers.all.items) in
    let id = c.args.self.now.player.id in
    let own = c.args.self.now.player.own.items in
    rw (p.1) (record {
      acts = turns (λ a b. node_move g.S.PromiseStore.seen a b) input.HearOwn _ _ _ None c.new-messages.result.items c.follow.new.out.items (record { id = f.id ∙ h.id; members = refl; digests = refl; chain = refl; differing = refl; kit = f.kit ∙ h.kit }) c.new-messages.ensures.items
          (turns_on (λ a b. node_move g.S.PromiseStore.seen a b) n id (HearsAll id (IsTrue true) own) MayWake (HearsFirst id (IsTrue false) own) (IsTrue true) (IsTrue false) (IsTrue false) (moment_of c.args.self.now.player) (moment_of c.hear_own.new.self) (moment_of c.follow.new.self) c.new-messages.result.items c.hear_own.new.out.items c.follow.new.out.items
          (h.turned n) c.hear_own.new.self.id h.id (f.turned n) (hears_first id (IsTrue true) (IsTrue false) own (λ w. refl)) (λ w. refl) (λ w. w)) tt tt tt refl;
    })

pub returns : goal.returns
returns g c =
    let h = c.in_ok-hear_own.ensures in
    let f = c.in_ok-follow.ensures in
    let a = c.begin_all.ensures in
    let n = (length c.args.self.now.peers.all.items) in
    let id = c.args.self.now.player.id in
    let own = c.args.self.now.player.own.items in
    record {
      acts = turns (λ a b. node_move g.S.PromiseStore.seen a b) input.HearOwn _ _ _ None c.new-messages.result.items c.follow.new.out.items (record { id = f.id ∙ h.id; members = a.count; digests = a.digests; chain = refl; differing = a.differing; kit = f.kit ∙ h.kit }) c.new-messages.ensures.items
          (turns_on (λ a b. node_move g.S.PromiseStore.seen a b) n id (HearsAll id (IsTrue true) own) MayWake (HearsFirst id (IsTrue true) own) (IsTrue true) (IsTrue true) (IsTrue true) (moment_of c.args.self.now.player) (moment_of c.hear_own.new.self) (moment_of c.follow.new.self) c.new-messages.result.items c.hear_own.new.out.items c.follow.new.out.items
          (h.turned n) c.hear_own.new.self.id h.id (f.turned n) (hears_first id (IsTrue true) (IsTrue true) own (λ w. w)) (λ w. w) (λ w. w))
          (ap (λ v. v.items) c.with.ensures.messages) c.with.ensures.answer tt a.differing;
    }
