use Rattle.std.proofs.Common.{List, ℕ, subst, IfNone}
use Rattle.press_scan.specs.Tags.{names_of}
use Rattle.press_scan.specs.Places.{NoneFrom}
use Rattle.press_scan.specs.Shortcodes.{HasShortcode}
use Rattle.press_scan.specs.Scans.{Progress}
use Rattle.press_scan.proofs.scan.Scan.opening.Goals as goal

pub returns-clause-none : goal.returns-clause-none
returns-clause-none c =
    subst (λ (p : Progress). IfNone c.next_opening.result (NoneFrom (HasShortcode p.text (names_of c.args.tags.now)) p.at)) c.self.view_is
    (subst (λ (t : List ℕ). IfNone c.next_opening.result (NoneFrom (HasShortcode t (names_of c.args.tags.now)) c.self.inside.at)) c.as_bytes.ensures.value c.next_opening.ensures.none)
