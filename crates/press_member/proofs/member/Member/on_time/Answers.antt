use Rattle.std.proofs.Common.{◌∙◌, refl, inl, None}
use Rattle.std.proofs.lemmas.Result.{err_from_is_err_and}
use Rattle.press_node.specs.Nodes.{node_move}
use Rattle.press_member.specs.declared.input.Input.TheVariants as input
use Rattle.press_member.specs.Acts.{view_of}
use Rattle.press_member.proofs.Inputs.{rests, turns}
use Rattle.press_member.proofs.Turning.{no_wake}
use Rattle.press_member.proofs.member.Member.on_time.Goals as goal

pub returns-then-is_down : goal.returns-then-is_down
returns-then-is_down g c = record { acts = rests (λ a b. node_move g.S.PromiseStore.seen a b) (input.Time c.args.now) _ _ c.only.result (record { id = refl; members = refl; digests = refl; chain = refl; differing = refl; kit = refl }) refl c.only.ensures.messages (inl no_wake) c.only.ensures.answer refl; time = refl }

pub returns-in_err-do_due : goal.returns-in_err-do_due
returns-in_err-do_due g c =
    let p = err_from_is_err_and c.from_residual.result c.from_residual.ensures.1 in
    let d = c.in_err-do_due.ensures in
    rw (p.1) (record { acts = turns (λ a b. node_move g.S.PromiseStore.seen a b) (input.Time c.args.now) (view_of c.args.self.now) (view_of c.do_due.new.self) _ None c.new-messages.result.items c.do_due.new.messages.items (record { id = d.same.id; members = d.same.members; digests = d.same.digests; chain = d.same.chain; differing = d.same.differing; kit = d.same.kit }) c.new-messages.ensures.items d.turned tt tt tt d.same.differing; time = d.time })

pub returns : goal.returns
returns g c =
    let d = c.in_ok-do_due.ensures in
    let b = c.begin_all.ensures in
    record {
      acts = turns (λ a b. node_move g.S.PromiseStore.seen a b) (input.Time c.args.now) _ _ _ None c.new-messages.result.items c.do_due.new.messages.items (record { id = d.same.id; members = b.count ∙ d.same.members; digests = b.digests ∙ d.same.digests; chain = d.same.chain; differing = b.differing ∙ d.same.differing; kit = d.same.kit }) c.new-messages.ensures.items d.turned refl refl tt (b.differing ∙ d.same.differing);
      time = d.time;
    }
