use Rattle.std.specs.Prelude.{◌<◌}
use Rattle.press_net.specs.Addresses.{NoneWants}
use Rattle.press_net.proofs.addresses.AddressBook.wanted_from.Given as goal

abbrev pub invariant-loop-place : goal.invariant-loop-place
invariant-loop-place l = NoneWants l.fn.self l.fn.first (λ place. place < l.place)
