use Rattle.std.proofs.Common.{◌≤◌, length}
use Rattle.press_program.proofs.Behind.{AreRead}
use Rattle.press_program.proofs.sites.read_all_named.Given as goal

abbrev pub invariant-loop-i : goal.invariant-loop-i
invariant-loop-i g l = record {
  most : l.i ≤ length l.names;
  read : AreRead l.i l.commands.items;
}
