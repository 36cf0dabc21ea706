use Rattle.std.proofs.Common.{◌≡◌, ◌∙◌, sym, ap₂, subst, arith, ◌<◌, ◌^◌, false, length}
use Rattle.std.specs.Prelude.{nat_le}
use Rattle.std.proofs.lemmas.Result.{err_from_is_err_and}
use Rattle.press_events.specs.DueEvents.{Refuses, add_event}
use Rattle.press_site.specs.Contents.{events_without}
use Rattle.press_site.proofs.Beside.{put_in, refused}
use Rattle.press_site.proofs.content.Content.events_with.Goals as goal

pub returns-in_err-add : goal.returns-in_err-add
returns-in_err-add c =
    let p = err_from_is_err_and c.from_residual-in_err-add.result c.from_residual-in_err-add.ensures.1 in
    let small : c.args.id < 2 ^ 64 = omega arith in
    let same = ap₂ add_event c.in_ok-event.ensures c.in_ok-events.ensures in
    let room : nat_le 4096 (length (events_without c.args.id c.args.self.now.events)) ≡ false = sym c.is_full_beside.ensures ∙ c.if-is_full_beside.false in
    rw (p.1, p.2) (refused c.args.id c.args.date c.args.self.now.events c.in_err-add.field-0.0 small room (subst (λ r. Refuses c.in_err-add.field-0.0 r) same c.in_err-add.ensures.0))

pub returns : goal.returns
returns c =
    let small : c.args.id < 2 ^ 64 = omega arith in
    let same = ap₂ add_event c.in_ok-event.ensures c.in_ok-events.ensures in
    put_in c.args.id c.args.date c.args.self.now.events c.add.new.self c.in_ok-add.field-0 small (sym same ∙ c.in_ok-add.ensures)
