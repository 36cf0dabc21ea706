-- What a text holds, in place or shared, and what comes of an append to it.
use Rattle.std.specs.Prelude.{◌≡◌, ℕ, List, ◌++◌, Bool, true, false, Result, MatchResult, string_bytes}
use Rattle.press_text.specs.declared.text.Held.{Held}
use Rattle.press_text.specs.declared.text.Held.TheVariants.{Inline, Shared}
use Rattle.press_text.specs.declared.text.Long.{Long}
use Rattle.press_text.specs.declared.text.Long.TheVariants.{Here, Apart}

abbrev pub bytes_in : Long → List ℕ
bytes_in (Here s) = s
bytes_in (Apart s) = string_bytes s

abbrev pub bytes_of : Held → List ℕ
bytes_of (Inline s) = s
bytes_of (Shared rc) = bytes_in rc.value

-- the bytes with more behind them, where that was done
abbrev pub append_where : Bool → List ℕ → List ℕ → List ℕ
append_where true old more = old ++ more
append_where false old more = old

-- an append that is done where there is room says whether it was, and a fault leaves the bytes as they were
abbrev pub AppendsIfRoom : {E : Type 0} → Result Bool E → List ℕ → List ℕ → List ℕ → Type 0
AppendsIfRoom result old new more = MatchResult result (λ done. new ≡ append_where done old more) (λ fault. new ≡ old)
