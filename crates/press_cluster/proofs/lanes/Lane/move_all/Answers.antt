use Rattle.std.proofs.Common.{◌≡◌, ◌+◌, arith, rules, refl, ◌∙◌}
use Rattle.press_cluster.proofs.Owing.{counted_more}
use Rattle.press_cluster.specs.Going.{HasSameWay, question_count}
use Rattle.press_cluster.specs.Going.GoIn.{none_goes, one_goes}
use Rattle.press_cluster.proofs.lanes.Lane.move_all.Goals as goal

pub loop-init : goal.loop-init
loop-init c = ((refl, refl, refl), (0, omega arith, search rules), refl, none_goes _ _)

pub loop-preserved : goal.loop-preserved
loop-preserved c =
    let before = c.loop.invariant in
    let went = before.1 in
    let way : HasSameWay c.move_one.new.self c.args.self.now = search rules in
    let fewer : question_count c.loop.self.waiting.items ≡ c.in-Some.count + question_count c.move_one.new.self.waiting.items = search rules in (
      way,
      (went.0 + c.in-Some.count, omega (arith, went.1, fewer), c.saturating_add-asked.ensures ∙ counted_more _ went.0 _ _ went.2 refl),
      c.move_one.ensures.lost ∙ before.2,
      one_goes _ _ _ _ _ _ before.3 (search rules),
    )
