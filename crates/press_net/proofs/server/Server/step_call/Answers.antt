use Rattle.std.proofs.Common.{rules, ◌≡◌, Some, None, refl}
use Rattle.press_net.specs.Lanes.{call_at, reply_in}
use Rattle.press_net.proofs.Credited.{credited, named}
use Rattle.press_net.proofs.server.Server.step_call.Goals as goal

pub returns-in_default-final_reply : goal.returns-in_default-final_reply
returns-in_default-final_reply g c =
    let is : call_at c.args.self.now.calls c.args.place ≡ Some c.in-Some.call.now = search rules in
    let none : None ≡ reply_in c.step.new.self.course c.step.new.self.reply.items = search rules in
    record { credits = credited g.A.Answers.hears _ c.in-Some.call.now c.step.new.self None _ _ is c.step.ensures none refl; rest = search rules; becomes = g.met.A.Answers.rests _ }

pub returns : goal.returns
returns g c =
    let is : call_at c.args.self.now.calls c.args.place ≡ Some c.in-Some.call.now = search rules in
    let some : Some c.in-Some-final_reply.reply.now ≡ reply_in c.step.new.self.course c.step.new.self.reply.items = search rules in
    let place : c.place.result ≡ c.in-Some.call.now.place = search rules in
    let errand : c.errand.result ≡ c.in-Some.call.now.errand = search rules in
    record {
      credits = credited g.A.Answers.hears _ c.in-Some.call.now c.step.new.self (Some c.in-Some-final_reply.reply.now) _ _ is c.step.ensures some
          (named g.A.Answers.hears c.place.result _ c.errand.result _ c.in-Some-final_reply.reply.now _ _ place errand c.end_call.ensures.hears);
      rest = search rules;
      becomes = c.end_call.ensures.becomes;
    }
