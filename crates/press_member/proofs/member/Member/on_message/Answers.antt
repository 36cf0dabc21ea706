use Rattle.std.proofs.Common.{◌+◌, ◌≡◌, ◌∙◌, Some, ap, length, refl, IsTrue, true, false}
use Rattle.std.proofs.lemmas.Result.{err_from_is_err_and}
use Rattle.press_member.specs.declared.input.Input.TheVariants as input
use Rattle.press_node.specs.declared.event.Event.TheVariants as event
use Rattle.press_node.specs.Nodes.{node_move, state_of}
use Rattle.press_node.specs.States.{applied_count}
use Rattle.press_member.specs.Acts.{View, view_of}
use Rattle.press_member.specs.Parts.{IsSame}
use Rattle.press_member.specs.Played.{moment_of}
use Rattle.press_member.specs.Turns.{Brings, Delivers, MaySubmit}
use Rattle.press_member.proofs.Inputs.{delivers, delivers_only, same_then, turns, turns_then}
use Rattle.press_member.proofs.Turning.{other_kind}
use Rattle.press_member.proofs.member.Member.on_message.Goals as goal

pub returns-in_err-answer : goal.returns-in_err-answer
returns-in_err-answer g c =
    let p = err_from_is_err_and c.from_residual.result c.from_residual.ensures.1 in
    let b = c.in_err-answer.ensures in
    let m = c.args.message in
    let next = applied_count (state_of c.args.self.now.player.node) + 1 in
    rw (p.1) (record {
      acts = turns (λ a b. node_move g.S.PromiseStore.seen a b) (input.Message m) _ _ _ b.brings.0 c.new-messages.result.items c.bring.new.out.items b.same c.new-messages.ensures.items
          (other_kind (λ a b. node_move g.S.PromiseStore.seen a b) (length c.args.self.now.peers.all.items) c.args.self.now.player.id (Brings (event.Deliver m) b.brings.0) (Delivers c.args.self.now.player.id next m b.brings.0) (IsTrue false) (moment_of c.args.self.now.player) (moment_of c.bring.new.self.player) c.new-messages.result.items c.bring.new.out.items (delivers_only c.args.self.now.player.id next m b.brings.0) b.brings.1)
          tt tt tt b.same.differing;
    })

pub returns-in_err-submit_stuck : goal.returns-in_err-submit_stuck
returns-in_err-submit_stuck g c =
    let p = err_from_is_err_and c.from_residual-in_err-submit_stuck.result c.from_residual-in_err-submit_stuck.ensures.1 in
    let b = c.in_ok-answer.ensures in
    let h = c.hear.ensures in
    let s = c.in_err-submit_stuck.ensures in
    let m = c.args.message in
    let next = applied_count (state_of c.args.self.now.player.node) + 1 in
    let mid : View _ = record { id = c.bring.new.self.player.id; members = length c.hear.new.self.all.items; digests = c.hear.new.self.digests; node = c.bring.new.self.player.node; own = c.bring.new.self.player.own.items; stop = c.bring.new.self.player.stopped_by; is_open = c.hear_of.new.self.is_open; chain = c.bring.new.self.chain; differing = c.hear.new.self.differing.items } in
    let same : IsSame (λ a b. node_move g.S.PromiseStore.seen a b) (view_of c.args.self.now) mid = record { id = b.same.id; members = h.count ∙ b.same.members; digests = h.digests ∙ b.same.digests; chain = b.same.chain; differing = h.differing ∙ b.same.differing; kit = b.same.kit } in
    rw (p.1) (record {
      acts = turns (λ a b. node_move g.S.PromiseStore.seen a b) (input.Message m) _ _ _ b.brings.0 c.new-messages.result.items c.submit_stuck.new.out.items (same_then (λ a b. node_move g.S.PromiseStore.seen a b) _ mid _ same s.same) c.new-messages.ensures.items
          (turns_then (λ a b. node_move g.S.PromiseStore.seen a b) (Brings (event.Deliver m) b.brings.0) (MaySubmit (λ it. c.stuck_command-stuck.result ≡ Some it)) (Delivers c.args.self.now.player.id next m b.brings.0) (view_of c.args.self.now) mid (view_of c.submit_stuck.new.self) (IsTrue true) (IsTrue false) (IsTrue false) c.new-messages.result.items c.bring.new.out.items c.submit_stuck.new.out.items same b.brings.1 s.turned (delivers c.args.self.now.player.id next m b.brings.0 c.stuck_command-stuck.result c.stuck_command-stuck.ensures) (λ w. refl) (λ w. w))
          tt tt tt (s.same.differing ∙ h.differing ∙ b.same.differing);
    })

pub returns : goal.returns
returns g c =
    let b = c.in_ok-answer.ensures in
    let h = c.hear.ensures in
    let s = c.in_ok-submit_stuck.ensures in
    let a = c.begin_all.ensures in
    let m = c.args.message in
    let next = applied_count (state_of c.args.self.now.player.node) + 1 in
    let mid : View _ = record { id = c.bring.new.self.player.id; members = length c.hear.new.self.all.items; digests = c.hear.new.self.digests; node = c.bring.new.self.player.node; own = c.bring.new.self.player.own.items; stop = c.bring.new.self.player.stopped_by; is_open = c.hear_of.new.self.is_open; chain = c.bring.new.self.chain; differing = c.hear.new.self.differing.items } in
    let same : IsSame (λ a b. node_move g.S.PromiseStore.seen a b) (view_of c.args.self.now) mid = record { id = b.same.id; members = h.count ∙ b.same.members; digests = h.digests ∙ b.same.digests; chain = b.same.chain; differing = h.differing ∙ b.same.differing; kit = b.same.kit } in
    record {
      acts = turns (λ a b. node_move g.S.PromiseStore.seen a b) (input.Message m) _ _ _ b.brings.0 c.new-messages.result.items c.submit_stuck.new.out.items
          (record { id = s.same.id ∙ b.same.id; members = a.count ∙ s.same.members ∙ h.count ∙ b.same.members; digests = a.digests ∙ s.same.digests ∙ h.digests ∙ b.same.digests; chain = s.same.chain ∙ b.same.chain; differing = a.differing ∙ s.same.differing ∙ h.differing ∙ b.same.differing; kit = s.same.kit ∙ b.same.kit }) c.new-messages.ensures.items
          (turns_then (λ a b. node_move g.S.PromiseStore.seen a b) (Brings (event.Deliver m) b.brings.0) (MaySubmit (λ it. c.stuck_command-stuck.result ≡ Some it)) (Delivers c.args.self.now.player.id next m b.brings.0) (view_of c.args.self.now) mid (view_of c.submit_stuck.new.self) (IsTrue true) (IsTrue true) (IsTrue true) c.new-messages.result.items c.bring.new.out.items c.submit_stuck.new.out.items same b.brings.1 s.turned (delivers c.args.self.now.player.id next m b.brings.0 c.stuck_command-stuck.result c.stuck_command-stuck.ensures) (λ w. w) (λ w. w))
          (ap (λ v. v.items) c.with.ensures.messages) (c.with.ensures.answer ∙ b.brings.2) tt (a.differing ∙ s.same.differing ∙ h.differing ∙ b.same.differing);
    }
