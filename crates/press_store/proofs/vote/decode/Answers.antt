use Rattle.std.proofs.Common.{rules, ◌≡◌, ◌≤◌, ◌<◌, ◌+◌, length, None, refl, sym, subst, ap, ◌∙◌, arith}
use Rattle.press_wire.proofs.Blocks.{last_block}
use Rattle.press_store.specs.Shown.{shown_vote, shown_votes}
use Rattle.press_store.proofs.Decoded.{behind_none, row_read, row_damaged, none_left}
use Rattle.press_store.proofs.Maps.{first_is}
use Rattle.press_store.proofs.vote.decode.Goals as goal

pub loop-row-init : goal.loop-row-init
loop-row-init c =
    let least = c.number-least.ensures in
    let last = last_block c.args.first (first_is c.args.first c.requires) (subst (λ n. 1 ≤ n) least.value least.range.0) (subst (λ n. n ≤ 1000000) least.value least.range.1) in
    rw (c.new-votes.ensures, least.value) (behind_none (shown_votes c.args.first (c.args.first + 15) c.args.rows.now), subst (λ n. 1 ≤ n) least.value least.range.0, refl, omega (arith, last))

pub returns-in_default : goal.returns-in_default
returns-in_default c =
    let low : c.loop-row.row-index < length c.args.rows.now = search rules in
    let last = c.number-least.result + 15 in
    let none : c.in_ok-vote.field-0 ≡ None = search rules in
    let damaged = ap (shown_vote c.loop-row.least last) (sym c.row-item.is) ∙ sym c.in_ok-vote.ensures ∙ none in
    sym (row_damaged c.loop-row.votes c.loop-row.least last c.args.rows.now c.loop-row.row-index c.row-item.result low damaged) ∙ c.loop-row.invariant.0

pub loop-row-preserved : goal.loop-row-preserved
loop-row-preserved c =
    let low : c.loop-row.row-index < length c.args.rows.now = search rules in
    let last = c.number-least.result + 15 in
    let vote = c.in-Some.vote in
    let is = ap (shown_vote c.loop-row.least last) (sym c.row-item.is) ∙ sym c.in_ok-vote.ensures ∙ c.in-Some.is in
    let read = row_read c.loop-row.votes c.loop-row.least last c.args.rows.now c.loop-row.row-index c.row-item.result vote low is in
    rw (c.in_ok-push.ensures.pushed, c.number-least-in-loop-row.ensures.value) (read ∙ c.loop-row.invariant.0, omega arith, c.loop-row.invariant.2, c.loop-row.invariant.3)

pub returns : goal.returns
returns c =
    let high : length c.args.rows.now ≤ c.loop-row.row-index = search rules in
    sym (none_left c.loop-row.votes c.loop-row.least (c.number-least.result + 15) c.args.rows.now c.loop-row.row-index high) ∙ c.loop-row.invariant.0
