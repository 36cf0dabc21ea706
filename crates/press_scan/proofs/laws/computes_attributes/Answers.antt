use Rattle.std.proofs.Common.{List, subst, sym}
use Rattle.press_scan.specs.Attributes.{IsAttributes}
use Rattle.press_scan.specs.declared.att.Att.{Att}
use Rattle.press_scan.proofs.OneToken.{attributes_computed, attributes_stand}
use Rattle.press_scan.proofs.laws.computes_attributes.Goals as goal

pub returns : goal.returns
returns c = λ text atts. (attributes_computed text atts, λ e. subst (λ (xs : List Att). IsAttributes text xs) (sym e) (attributes_stand text))
