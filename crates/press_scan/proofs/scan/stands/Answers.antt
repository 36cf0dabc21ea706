use Rattle.press_scan.proofs.Edges.{has_edges}
use Rattle.press_scan.proofs.Named.{named_of}
use Rattle.press_scan.proofs.scan.stands.Goals as goal

pub returns-clause-edges : goal.returns-clause-edges
returns-clause-edges c = has_edges _ _ _ c.utf8.text c.requires.next.stands

pub returns-clause-named : goal.returns-clause-named
returns-clause-named c = named_of _ _ _ c.requires.next.stands
