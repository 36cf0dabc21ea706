use Rattle.std.proofs.Common.{◌∙◌, sym}
use Rattle.press_member.proofs.Sorting.{one_own, one_out}
use Rattle.press_member.proofs.letters.put.Goals as goal

pub returns-in_ok-push_back : goal.returns-in_ok-push_back
returns-in_ok-push_back c = one_own c.args.id c.args.message c.args.own.now.items c.push_back.new.self.items c.args.out.now.items (sym c.eq.ensures ∙ c.if-eq.true) c.in_ok-push_back.ensures.items

pub returns-in_ok-push : goal.returns-in_ok-push
returns-in_ok-push c = one_out c.args.id c.args.message c.args.own.now.items c.args.out.now.items c.push.new.self.items (sym c.eq.ensures ∙ c.if-eq.false) c.in_ok-push.ensures.items
