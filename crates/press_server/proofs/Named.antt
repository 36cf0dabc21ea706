-- A name at the beginning of a line.
use Rattle.std.proofs.Common.{◌≡◌, ap, ℕ, Bool, true, List, [], ◌∷◌, length, ◌<◌, ◌==◌, Some, arith}
use Rattle.press_server.specs.Files.{behind, behind_name, or_else}

pub found : (name text rest : List ℕ) (begins : Bool) → begins ≡ true → 0 < length text → Some rest ≡ behind name text → Some rest ≡ behind_name name begins text
found name [] rest begins e some is = absurd (omega arith)
found name (byte ∷ text) rest begins e some is = rw e (ap (λ it. or_else it (behind_name name (byte == 10) text)) is)
