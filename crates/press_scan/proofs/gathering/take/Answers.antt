use Rattle.press_scan.proofs.gathering.take.Goals as goal

pub lower-requires-clause-start : goal.lower-requires-clause-start
lower-requires-clause-start c = (c.requires.token.name c.in-Some.name c.in-Some.is).1
