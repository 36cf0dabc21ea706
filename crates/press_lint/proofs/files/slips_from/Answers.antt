use Rattle.std.proofs.Common.{rules, ◌≡◌, ◌∙◌, ◌++◌, string_bytes, arith}
use Rattle.press_lint.proofs.Shares.{slips_end, slips_on}
use Rattle.press_lint.proofs.files.slips_from.Goals as goal

pub loop-i-preserved : goal.loop-i-preserved
loop-i-preserved c =
    let pushed : string_bytes c.push_str.new.self ≡ string_bytes c.loop-i.out ++ c.as_str.result.now = search rules in
    rw (c.turn_parts-parts.ensures, pushed)
    (slips_on c.args.shares.now c.loop-i.parts c.loop-i.i c.args.before.now (string_bytes c.loop-i.out) c.as_str.result.now _ _ (omega arith) (c.as_str.ensures.value ∙ c.in_ok-slips.ensures) c.loop-i.invariant)

pub returns : goal.returns
returns c = slips_end c.args.shares.now c.loop-i.parts c.loop-i.i c.args.before.now (string_bytes c.loop-i.out) _ (omega arith) c.loop-i.invariant
