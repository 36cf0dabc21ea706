use Rattle.std.proofs.Common.{arith, ◌+◌}
use Rattle.press_scan.proofs.Missings.{missing_more}
use Rattle.press_scan.proofs.missing.shortcode_of.Goals as goal

pub returns-in_ok-push-in-None-clause-missing : goal.returns-in_ok-push-in-None-clause-missing
returns-in_ok-push-in-None-clause-missing c = missing_more _ _ _ (record { name = c.args.opening.head.tag; from = c.args.opening.close + 1 }) c.in_ok-push-in-None.ensures.items c.requires.missing (omega arith, c.requires.name.1, c.in-None.ensures)
