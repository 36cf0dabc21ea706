-- Looks into a store, one after the other.
use Rattle.std.proofs.Common.{◌∙◌, refl}
use Rattle.press_acceptor.specs.Seen.{Looks, Seen}

pub looks_itself : (s : Seen) → Looks s s
looks_itself s = record { was_open = λ is_open. is_open; same = λ is_open. refl; crash = λ left may. may }

pub looks_both : (a b c : Seen) → Looks a b → Looks b c → Looks a c
looks_both a b c x y = record {
  was_open = λ is_open. x.was_open (y.was_open is_open);
  same = λ is_open. y.same is_open ∙ x.same (y.was_open is_open);
  crash = λ left may. x.crash left (y.crash left may);
}
