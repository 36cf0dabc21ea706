use Rattle.std.proofs.Common.{rules, ◌≡◌, subst, IfOk, string_bytes}
use Rattle.std.specs.Prelude.{option_map}
use Rattle.serde_json.specs.View.{view}
use Rattle.press_lint.specs.Unfit as spec
use Rattle.press_lint.proofs.unfit.unfit_item.Goals as goal

pub returns : goal.returns
returns c =
    let path_is : c.as_str.result.now ≡ spec.item_path c.args.path.now c.args.n = search rules in
    subst (λ p. IfOk c.unfit_text.result (λ told. option_map string_bytes told ≡ spec.unfit_text p (view c.args.value.now))) path_is c.unfit_text.ensures
