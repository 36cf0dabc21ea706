use Rattle.press_scan.specs.Tags.{names_of}
use Rattle.press_scan.proofs.Parts as shown
use Rattle.press_scan.proofs.laws.has_parts.Goals as goal

pub returns : goal.returns
returns c = shown.has_parts c.args.text.now (names_of c.args.tags.now) c.args.shortcode c.utf8.text c.requires
