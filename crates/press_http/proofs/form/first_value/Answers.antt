use Rattle.std.proofs.Common.{ℕ, List, sym, rules, subst}
use Rattle.std.specs.Prelude.{All}
use Rattle.form_urlencoded.specs.Form.{IsPlainText}
use Rattle.press_http.proofs.Names.{plain_rest}
use Rattle.press_http.proofs.form.first_value.Goals as goal

pub loop-key-init : goal.loop-key-init
loop-key-init c = record {
  same = search rules;
  plain = subst (λ (l : List (List ℕ × List ℕ)). All (λ p. IsPlainText p.0) l) (sym c.raw_pairs-pairs.ensures.value);
}

pub loop-key-preserved-else-eq : goal.loop-key-preserved-else-eq
loop-key-preserved-else-eq c = record {
  same = search rules;
  plain = λ h. plain_rest _ _ _ c.in-Some.ensures.steps (c.loop-key.invariant.plain h);
}

pub loop-key-preserved : goal.loop-key-preserved
loop-key-preserved c = record {
  same = search rules;
  plain = λ h. plain_rest _ _ _ c.in-Some.ensures.steps (c.loop-key.invariant.plain h);
}
