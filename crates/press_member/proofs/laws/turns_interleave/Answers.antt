use Rattle.std.proofs.Common.{[]}
use Rattle.press_member.proofs.Others.{after_then, all_stay, moves_then}
use Rattle.press_member.proofs.laws.turns_interleave.Goals as goal

pub returns-clause-others : goal.returns-clause-others
returns-clause-others g c = λ n index other w moves store state mail apart by a. all_stay g.S.PromiseStore.seen index other apart store state mail [] moves w by a

pub returns-clause-joined : goal.returns-clause-joined
returns-clause-joined g c = λ n w first last h k. (moves_then g.S.PromiseStore.seen n first last w h k, after_then first last w)
