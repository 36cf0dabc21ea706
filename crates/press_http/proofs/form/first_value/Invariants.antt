use Rattle.std.proofs.Common.{◌≡◌, length}
use Rattle.std.specs.Prelude.{All}
use Rattle.form_urlencoded.specs.Parse.{raw_pairs_left}
use Rattle.form_urlencoded.specs.Form.{raw_pairs, IsPlainText}
use Rattle.press_http.specs.Forms.{first_in}
use Rattle.press_http.proofs.form.first_value.Given as goal

abbrev pub invariant-loop-key : goal.invariant-loop-key
invariant-loop-key l = record {
  same : first_in l.name (raw_pairs_left l.pairs) ≡ first_in l.name (raw_pairs l.form);
  plain : All (λ pair. IsPlainText pair.0) (raw_pairs l.form) → All (λ pair. IsPlainText pair.0) (raw_pairs_left l.pairs);
}

abbrev pub decreases-loop-key : goal.decreases-loop-key
decreases-loop-key l = length (raw_pairs_left l.pairs)
