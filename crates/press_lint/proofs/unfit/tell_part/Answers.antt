use Rattle.std.proofs.Common.{rules, ◌≡◌, subst, IfOk, string_bytes, codes}
use Rattle.serde_json.specs.View.{view}
use Rattle.press_lint.specs.Unfit as spec
use Rattle.press_lint.proofs.unfit.tell_part.Goals as goal

pub returns : goal.returns
returns c =
    let path_is : c.as_str.result.now ≡ spec.item_path c.args.path.now c.args.n = search rules in
    subst (λ p. IfOk c.tell_value.result (λ t. string_bytes t ≡ spec.tell_value p (view c.args.value.now) (codes "a part"))) path_is c.tell_value.ensures
