use Rattle.std.proofs.Common.{subst, sym}
use Rattle.press_scan.specs.Kept.{IsNumbered}
use Rattle.press_scan.specs.contracts.gathering.Gathering.{the_invariant}
use Rattle.press_scan.proofs.gathering.Gathering.put_name.Goals as goal
use Rattle.press_scan.proofs.gathering.Gathering.put_name.Goals.{in-Listed, in-Keyed}

pub invariant_of-self : goal.invariant_of-self
invariant_of-self c = elim c.match-self.branch [
  | in-Listed w ↦ subst the_invariant (sym w.self-inside-is) tt
  | in-Keyed w ↦ (
      let stood = subst (IsNumbered c.self.inside.next) w.in-Keyed.is c.self.invariant in
      subst the_invariant (sym w.self-inside-is) (w.key_name.ensures.before c.self.inside.next (rw w.deref_mut.ensures.value stood)))
]
