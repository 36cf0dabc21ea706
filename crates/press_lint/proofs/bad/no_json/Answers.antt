use Rattle.std.proofs.Common.{rules, ◌≡◌, Some, codes}
use Rattle.press_lint.specs.Bad as spec
use Rattle.press_lint.proofs.bad.no_json.Goals as goal

pub returns-then-starts_with-clause-json : goal.returns-then-starts_with-clause-json
returns-then-starts_with-clause-json c = λ none utf8 some.
    let told : spec.tell_front c.args.bytes.now ≡ Some (codes "begins with a byte order mark, which JSON may not") = search rules in
    absurd (cc)
