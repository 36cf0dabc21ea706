-- Meanings that are a value or a fault, and what a fault says of one; out of memory may come at any growth (own).
use Rattle.std.specs.Prelude.{◌≡◌, Option, Some, None, Result, Ok, Err}
use Rattle.press_http.specs.declared.fault.HttpFault.{HttpFault}
use Rattle.press_http.specs.declared.fault.HttpFault.TheVariants as fault

infixl 10 ◌>>=◌
abbrev pub ◌>>=◌ : {A B : Type 0} → Result A HttpFault → (A → Result B HttpFault) → Result B HttpFault
(Ok x) >>= f = f x
(Err e) >>= f = Err e

abbrev pub or_fault : {A : Type 0} → HttpFault → Option A → Result A HttpFault
or_fault e None = Err e
or_fault e (Some x) = Ok x

-- what is made of one answer
abbrev pub map_ok : {A B : Type 0} → (A → B) → Result A HttpFault → Result B HttpFault
map_ok make meant = do
  x ← meant
  Ok (make x)

abbrev pub Refuses : {Y : Type 0} → HttpFault → Result Y HttpFault → Type 0
Refuses fault.NoMemory meant = Unit {0}
Refuses fault.ReadFault meant = meant ≡ Err fault.ReadFault
Refuses fault.Ended meant = meant ≡ Err fault.Ended
Refuses fault.WriteFault meant = meant ≡ Err fault.WriteFault
Refuses fault.BadHead meant = meant ≡ Err fault.BadHead
Refuses fault.BadForm meant = meant ≡ Err fault.BadForm
Refuses fault.BadPeer meant = meant ≡ Err fault.BadPeer
Refuses fault.NotFound meant = meant ≡ Err fault.NotFound
Refuses fault.NotAllowed meant = meant ≡ Err fault.NotAllowed
Refuses fault.NoLength meant = meant ≡ Err fault.NoLength
Refuses fault.TooBig meant = meant ≡ Err fault.TooBig
Refuses fault.FieldsTooLarge meant = meant ≡ Err fault.FieldsTooLarge
Refuses fault.NotDone meant = meant ≡ Err fault.NotDone
