-- Nothing is a front of any bytes.
use Rattle.std.proofs.Common.{ℕ, List, sym, append-nil}
use Rattle.std.specs.Prelude.{Option, Some, None}
use Rattle.press_text.specs.Streams.{AppendsFront}

pub nothing : (bytes : List ℕ) (old : Option (List ℕ)) → AppendsFront old old bytes
nothing bytes None = (0, tt)
nothing bytes (Some known) = (0, sym (append-nil known))
