-- A text with many attributes has bytes.
use Rattle.std.proofs.Common.{ℕ, ◌<◌, List, [], ◌∷◌, length, arith}
use Rattle.std.specs.Prelude.{Result, Ok, Err, OnErr}
use Rattle.press_scan.specs.AttributesOf.{attributes_of}

pub some_bytes : (text : List ℕ) → 64 < length (attributes_of text) → 0 < length text
unfolding attributes_of
some_bytes [] many = (let none : 64 < 0 = many in absurd (omega (arith, none)))
some_bytes (b ∷ bs) many = omega arith

pub on_err : {T E P : Type 0} (r : Result T E) → P → OnErr r P
on_err (Ok x) p = tt
on_err (Err e) p = p
