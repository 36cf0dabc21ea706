use Rattle.press_page.proofs.Profiled.{pages_alike}
use Rattle.press_page.proofs.earlier.pages_as_before.Goals as goal

pub returns : goal.returns
returns c = λ kit site target first. pages_alike c.changes_keep_profile.ensures.reads c.runs_as_before.ensures.same c.runs_as_before.ensures.profile kit site target first
