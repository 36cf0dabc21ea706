use Rattle.std.proofs.Common.{Err, refl}
use Rattle.press_member.proofs.Turning.{none_sorted}
use Rattle.press_member.proofs.player.Player.play.Goals as goal

pub returns-in-Err-clause-deed : goal.returns-in-Err-clause-deed
returns-in-Err-clause-deed g c = record {
  outcome = Err c.in-Err.fault;
  plays = c.in-Err.ensures.plays;
  sorted = none_sorted c.args.self.now.id c.args.self.now.own.items c.args.out.now.items _;
  stop_is = c.stop_behind-self.ensures;
  refused_so = refl;
}
