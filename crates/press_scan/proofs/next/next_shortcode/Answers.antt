use Rattle.std.proofs.Common.{ℕ, List, subst}
use Rattle.press_scan.specs.Tags.{names_of}
use Rattle.press_scan.proofs.Computes.{IsAnswer, is_computed}
use Rattle.press_scan.proofs.next.next_shortcode.Goals as goal

pub returns-clause-first : goal.returns-clause-first
returns-clause-first c = subst (λ (t : List ℕ). IsAnswer t (names_of c.args.tags.now) c.args.from c.shortcode_in.result) c.as_bytes.ensures.value c.shortcode_in.ensures

pub returns-clause-computed : goal.returns-clause-computed
returns-clause-computed c = is_computed c.args.text.now (names_of c.args.tags.now) c.args.from c.shortcode_in.result (subst (λ (t : List ℕ). IsAnswer t (names_of c.args.tags.now) c.args.from c.shortcode_in.result) c.as_bytes.ensures.value c.shortcode_in.ensures)
