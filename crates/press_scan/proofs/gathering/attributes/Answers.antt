use Rattle.std.proofs.Common.{arith, ℕ, List, length, ◌<◌, ◌≤◌, ◌+◌, subst, sym, ◌∙◌}
use Rattle.std.proofs.lemmas.Str.{IsCharBoundary-start}
use Rattle.press_scan.specs.Attributes.{IsAttributes}
use Rattle.press_scan.proofs.Many.{on_err, some_bytes}
use Rattle.press_scan.proofs.OneToken.{attributes_computed}
use Rattle.press_scan.proofs.Gathers.{Leads, leads_at_first, leads_to_all, leads_more, next_more}
use Rattle.press_scan.specs.declared.att.Att.{Att}
use Rattle.press_scan.proofs.gathering.attributes.Goals as goal

pub tokens-init : goal.tokens-init
tokens-init c =
    let empty = subst (λ (xs : List Att). Leads c.args.text.now 0 xs 0) (sym c.in_ok-found.ensures.atts) (leads_at_first c.args.text.now) in
    (IsCharBoundary-start _ c.utf8.text, omega (arith, c.in_ok-found.ensures.next), subst (λ (n : ℕ). Leads c.args.text.now 0 c.in_ok-found.found.atts n) (sym c.in_ok-found.ensures.next) empty)

pub into_atts-requires-clause-text : goal.into_atts-requires-clause-text
into_atts-requires-clause-text c = attributes_computed c.args.text.now c.tokens.found.atts (leads_to_all c.args.text.now c.tokens.at c.next_place-place.result c.tokens.found.atts c.tokens.found.next c.tokens.invariant.2 c.if-place-text.true c.next_place-place.ensures.first)

pub returns-then-place-text-clause-list : goal.returns-then-place-text-clause-list
returns-then-place-text-clause-list c = subst (IsAttributes c.args.text.now) (sym c.in_ok-atts.ensures.value) (leads_to_all c.args.text.now c.tokens.at c.next_place-place.result c.tokens.found.atts c.tokens.found.next c.tokens.invariant.2 c.if-place-text.true c.next_place-place.ensures.first)

pub returns-then-place-text-clause-computed : goal.returns-then-place-text-clause-computed
returns-then-place-text-clause-computed c = c.in_ok-atts.ensures.value ∙ attributes_computed c.args.text.now c.tokens.found.atts (leads_to_all c.args.text.now c.tokens.at c.next_place-place.result c.tokens.found.atts c.tokens.found.next c.tokens.invariant.2 c.if-place-text.true c.next_place-place.ensures.first)

pub returns-in_err-atts-clause-memory : goal.returns-in_err-atts-clause-memory
returns-in_err-atts-clause-memory c = on_err c.from_residual-in_err-atts.result (some_bytes c.args.text.now (subst (λ (xs : List Att). 64 < length xs) (attributes_computed c.args.text.now c.tokens.found.atts (leads_to_all c.args.text.now c.tokens.at c.next_place-place.result c.tokens.found.atts c.tokens.found.next c.tokens.invariant.2 c.if-place-text.true c.next_place-place.ensures.first)) c.in_err-atts.ensures.memory))

pub tokens-preserved : goal.tokens-preserved
tokens-preserved c =
    let step : c.take.new.found.next ≤ c.tokens.found.next + 1 = next_more _ _ c.tokens.found.next c.take.new.found.next c.args.text.now c.token_of-token.result c.in_ok-take.ensures.gathers in (
      c.token_of-token.ensures.edge,
      omega (arith, c.tokens.invariant.1, c.next_place-place.ensures.first.after, c.token_of-token.ensures.end.0),
      leads_more c.args.text.now c.tokens.at c.next_place-place.result c.token_of-token.result c.tokens.found.atts c.take.new.found.atts c.tokens.found.next c.take.new.found.next c.tokens.invariant.2 c.next_place-place.ensures.first (omega (arith, c.token_of-token.ensures.end)) c.token_of-token.ensures.token c.in_ok-take.ensures.gathers,
    )
