use Rattle.std.proofs.Common.{◌≡◌, ◌+◌, arith, rules, ◌∙◌}
use Rattle.press_cluster.proofs.Owing.{counted_more}
use Rattle.press_cluster.specs.Going.{u32_count}
use Rattle.press_cluster.proofs.lanes.Lane.pack.Goals as goal

pub returns-clause-asks : goal.returns-clause-asks
returns-clause-asks c =
    let went = c.move_all-asked.ensures.asks in
    let looks : c.move_all-asked.new.self.looks ≡ c.args.self.now.looks = search rules in
    let first : c.saturating_add.result ≡ u32_count (went.0 + c.args.self.now.looks) =
    c.saturating_add.ensures ∙ counted_more _ went.0 _ _ went.2 looks in (
      went.0 + c.args.self.now.looks + c.args.self.now.lost,
      omega (arith, went.1),
      c.saturating_add-asked.ensures ∙ counted_more _ (went.0 + c.args.self.now.looks) _ _ first c.move_all-asked.ensures.lost,
    )
