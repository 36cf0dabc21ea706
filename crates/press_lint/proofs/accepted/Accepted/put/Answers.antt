use Rattle.std.proofs.Common.{rules, ◌≡◌, ◌∙◌, ap, ℕ, List, Some, cond, bytes_eq}
use Rattle.std.specs.BTreeMap.{is_at}
use Rattle.std.specs.Map.{lookup}
use Rattle.std.specs.Cmp.Lexicographic.{slice_cmp}
use Rattle.std.specs.Ordering.{nat_cmp}
use Rattle.press_lint.specs.Accepts.{count_of, greater}
use Rattle.press_lint.proofs.Folded.{counted, same_count}
use Rattle.press_lint.proofs.accepted.Accepted.put.Goals as goal

pub returns : goal.returns
returns c = λ q.
    let most_is : c.greater-most.result ≡ greater (count_of c.args.self.now c.args.id.now) c.args.count = search rules in
    ap (lookup (is_at (λ k. slice_cmp nat_cmp q k.now))) c.in_ok-insert.ensures.entries
    ∙ counted q c.as_bytes-name.result c.greater-most.result c.args.self.now.counts.entries
    ∙ ap (λ (k : List ℕ). cond (bytes_eq k q) (Some c.greater-most.result) (count_of c.args.self.now q)) c.as_bytes-name.ensures.value
    ∙ ap (λ (n : ℕ). cond (bytes_eq c.args.id.now q) (Some n) (count_of c.args.self.now q)) most_is
    ∙ same_count q c.args.id.now c.args.count (count_of c.args.self.now)
