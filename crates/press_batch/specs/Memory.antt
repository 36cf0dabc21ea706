-- What has to be read before memory is taken (own).
use Rattle.std.specs.Prelude.{ℕ, ◌==◌, List, length, Result, Ok, Err, if◌then◌else◌}
use Rattle.press_batch.specs.declared.fault.BatchFault.{BatchFault}
use Rattle.press_batch.specs.declared.fault.BatchFault.TheVariants.{Short}
use Rattle.press_batch.specs.Fields.{◌>>=◌}
use Rattle.press_batch.specs.Reading.{head_at}

-- the bytes behind a head, where there are some: their messages take memory
unfoldable pub some_behind : List ℕ → Result (List ℕ) BatchFault
some_behind bytes = head_at bytes >>= λ head. if length head.1 == 0 then Err Short else Ok head.1
