use Rattle.press_scan.proofs.Edges.{has_edges}
use Rattle.press_scan.proofs.scan.is_registered.Goals as goal

pub returns-clause-edges : goal.returns-clause-edges
returns-clause-edges c = has_edges _ _ c.args.shortcode c.utf8.text c.requires
