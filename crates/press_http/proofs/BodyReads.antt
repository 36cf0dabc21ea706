-- What a read that gave nothing to keep says of a body.
use Rattle.std.proofs.Common.{ℕ, ◌+◌, ◌<◌, List, ◌∷◌, length, ap, arith, length-append}
use Rattle.std.specs.Prelude.{Option}
use Rattle.press_http.specs.declared.fault.HttpFault.{HttpFault}
use Rattle.press_http.specs.declared.fault.HttpFault.TheVariants as fault
use Rattle.press_http.specs.Bodies.{RefusesBody}
use Rattle.press_http.specs.Heads.{Misses}
use Rattle.press_http.specs.Reads.{bytes_of_read, seen_by}
use Rattle.press_http.specs.Requests.{EndsBy}
use Rattle.press_http.proofs.Joined.{failed}

pub missed_body : (e : HttpFault) (n : ℕ) (rest : List ℕ) (reads : List (Option (List ℕ))) (read : Option (List ℕ)) (left : Option (List ℕ)) → length rest + length (seen_by reads) < n → Misses e read
    → RefusesBody e n rest (seen_by (read ∷ reads)) left × EndsBy e (read ∷ reads)
missed_body fault.NoMemory n rest reads read left short m = (tt, tt)
missed_body fault.ReadFault n rest reads read left short m = (omega (arith, short, ap (λ (r : Option (List ℕ)). length (bytes_of_read r)) m, length-append (seen_by reads) (bytes_of_read read)), failed read reads m)
missed_body fault.Ended n rest reads read left short m = absurd m
missed_body fault.WriteFault n rest reads read left short m = absurd m
missed_body fault.BadHead n rest reads read left short m = absurd m
missed_body fault.BadForm n rest reads read left short m = absurd m
missed_body fault.BadPeer n rest reads read left short m = absurd m
missed_body fault.NotFound n rest reads read left short m = absurd m
missed_body fault.NotAllowed n rest reads read left short m = absurd m
missed_body fault.NoLength n rest reads read left short m = absurd m
missed_body fault.TooBig n rest reads read left short m = absurd m
missed_body fault.FieldsTooLarge n rest reads read left short m = absurd m
missed_body fault.NotDone n rest reads read left short m = absurd m
