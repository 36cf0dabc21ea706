use Rattle.press_scan.proofs.Forms.{no_equals, past_end}
use Rattle.press_scan.proofs.token.read_name.Goals as goal
use Rattle.press_scan.proofs.token.read_name.Goals.{then-equals-text-via-then-equals-text, then-equals-text-via-else-equals-text+then-text-equals-ne61}

pub returns-then-equals-text : goal.returns-then-equals-text
returns-then-equals-text c = no_equals _ _ c.name_end-end.result c.skip_spaces-equals.result c.name_end-end.ensures.first c.skip_spaces-equals.ensures.first
    (elim c.then-equals-text.branch [
      | then-equals-text-via-then-equals-text w ↦ past_end _ _ w.if-equals-text.true
      | then-equals-text-via-else-equals-text+then-text-equals-ne61 w ↦ w.if-text-equals-ne61.true
    ])
