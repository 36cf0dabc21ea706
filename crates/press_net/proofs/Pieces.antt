-- A write of a front of some bytes.
use Rattle.std.proofs.Common.{◌≤◌, subst, ℕ, List, take, Option, Result, Ok, Err, arith, length-take, take-take}
use Rattle.std.specs.Io.{WritesAtMost}
use Rattle.std.specs.Io.KnownBytes.{Appends, WriteAppends}

-- it is one of these bytes
pub front_written : {E : Type 0} (old new : Option (List ℕ)) (count : ℕ) (bytes : List ℕ) (result : Result ℕ E) → WritesAtMost result (take count bytes) → WriteAppends old new result (take count bytes) → WriteAppends old new result bytes
front_written old new count bytes (Ok n) most wrote =
    let fits : n ≤ count = omega (arith, most, length-take count bytes) in
    subst (Appends old new) (take-take n count bytes fits) wrote
front_written old new count bytes (Err e) most wrote = wrote
