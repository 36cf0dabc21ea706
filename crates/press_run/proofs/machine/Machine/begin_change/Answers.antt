use Rattle.std.proofs.Common.{◌≡◌, ap, length, rules, arith}
use Rattle.std.proofs.lemmas.List.{nil_from_length}
use Rattle.press_run.specs.Run.{at_depth}
use Rattle.press_run.specs.Standing.{machine_view}
use Rattle.press_run.proofs.Begins.{change_done}
use Rattle.press_run.proofs.machine.Machine.begin_change.Goals as goal

pub returns-then-is_empty-clause-begins : goal.returns-then-is_empty-clause-begins
returns-then-is_empty-clause-begins g c = λ scripts.
    let old = machine_view g.L.SiteLink.view g.L.SiteLink.fixed c.args.self.now in
    let empty : length c.in_ok-changed.changed.fires ≡ 0 = search rules in
    let none = nil_from_length c.in_ok-changed.changed.fires empty in
    record {
      same = rw (c.in-Some.is, c.in_ok-gives.ensures.text)
          (change_done g.L.SiteLink.changes (at_depth g.L.SiteLink.changes c.args.room scripts) old c.in-Some.effect (g.L.SiteLink.view c.change.new.link) c.in_ok-changed.changed c.in_ok-changed.ensures.changed none);
      stands = ap (λ x. record { open_runs = c.args.self.now.tables.hooks.open_runs; doing = c.args.self.now.counts.doing; fixed = x }) c.in_ok-changed.ensures.fixed;
      less = omega arith;
    }
