use Rattle.press_run.proofs.shortcodes.content_of.Goals as goal

pub part-requires : goal.part-requires
part-requires c = c.requires c.in-Some.span c.in-Some.is
