use Rattle.std.proofs.Common.{◌∙◌, ◌-◌, ap, length, refl, subst, inl, inr}
use Rattle.press_chain.specs.Chains.{count_of}
use Rattle.press_chain.specs.Comparing.{ComparesTip}
use Rattle.press_node.specs.Nodes.{node_move}
use Rattle.press_member.specs.Differing.{after_comparison}
use Rattle.press_member.proofs.Inputs.{reports}
use Rattle.press_member.proofs.member.Member.on_report.Goals as goal

pub returns-then-not-take_report : goal.returns-then-not-take_report
returns-then-not-take_report g c =
    let r = c.take_report.ensures in
    let foreign = r.foreign c.if-not-take_report.true in
    record { acts = reports (λ a b. node_move g.S.PromiseStore.seen a b) c.args.from c.args.report _ _ c.only.result refl r.same.count r.same.digests refl refl refl c.only.ensures.messages (inr (c.only.ensures.answer, foreign)) (inr (foreign, r.same.differing)) }

pub returns : goal.returns
returns g c =
    let s = c.note_reports.ensures.same in
    let r = c.take_report.ensures in
    let n = c.note_comparison.ensures in
    let t = c.compare.ensures in
    let taken = r.taken c.if-not-take_report.false in
    record {
      acts = reports (λ a b. node_move g.S.PromiseStore.seen a b) c.args.from c.args.report _ _ c.only-2.result s.id (s.members ∙ ap (λ v. length v.items) n.all ∙ r.same.count) (s.digests ∙ n.digests ∙ r.same.digests) s.chain s.kit c.note_reports.ensures.moment c.only-2.ensures.messages (inl (c.only-2.ensures.answer, taken))
          (inl (taken, record { comparison = c.compare.result; compares = λ values kept. subst (λ x. ComparesTip (count_of c.args.self.now.chain) values x c.compare.result) c.tip_in-tip.ensures (t values kept); is = s.differing ∙ n.notes ∙ ap (after_comparison (c.args.from - 1) c.compare.result) r.same.differing }));
    }
