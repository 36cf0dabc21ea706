-- A text was written in front part, whichever way the write ended.
use Rattle.std.proofs.Common.{ℕ, List, length, Result, Ok, Err, OnOk, OnErr, sym, subst}
use Rattle.std.specs.Prelude.{Option}
use Rattle.std.specs.Io.KnownBytes.{Appends}
use Rattle.press_text.specs.Streams.{AppendsFront}
use Rattle.std.proofs.Math.Seq.{take-length}

either : {T E : Type 0} (P Q : Type 0) (r : Result T E) → OnOk r P → OnErr r Q → (P → Q) → Q
either P Q (Ok x) p q f = f p
either P Q (Err e) p q f = q

pub front_written : {T E : Type 0} (a b : Option (List ℕ)) (line : List ℕ) (r : Result T E) → OnOk r (Appends a b line) → OnErr r (AppendsFront a b line) → AppendsFront a b line
front_written a b line r p q = either (Appends a b line) (AppendsFront a b line) r p q (λ w. (length line, subst (Appends a b) (sym (take-length line)) w))
