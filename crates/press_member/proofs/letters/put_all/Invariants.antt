use Rattle.std.proofs.Common.{◌≡◌, ◌++◌}
use Rattle.press_member.specs.Deeds.{for_others, for_self}
use Rattle.press_member.proofs.letters.put_all.Given as goal

-- what was given so far went where it goes
abbrev pub invariant-loop-message : goal.invariant-loop-message
invariant-loop-message l = record {
  own : l.own.items ≡ l.initial.own.items ++ for_self l.fn.id l.yielded;
  from : l.yielded ++ l.message-iterator.rest.items ≡ l.fn.sent.items;
  out : l.out.items ≡ l.initial.out.items ++ for_others l.fn.id l.yielded;
}
