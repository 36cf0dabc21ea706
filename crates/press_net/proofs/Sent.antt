-- What several writes put at the end, one after the other.
use Rattle.std.proofs.Common.{◌≡◌, ℕ, ◌+◌, ◌-◌, ◌≤◌, List, ◌++◌, length, sym, ap, ◌∙◌, arith, length-take, length-drop, take, drop, take-append-drop}
use Rattle.std.proofs.Math.Seq.{take-append-add}
use Rattle.std.proofs.lemmas.List.{drop-drop}
use Rattle.std.specs.Prelude.{Option}
use Rattle.std.specs.Io.KnownBytes.{Appends}
use Rattle.press_text.proofs.Taken.{Appends-trans}

split : (i n : ℕ) (xs : List ℕ) → i ≤ length xs → take (i + n) xs ≡ take i xs ++ take n (drop i xs)
split i n xs h =
    let e = take-append-add (take i xs) (drop i xs) n in
    let len : length (take i xs) ≡ i = omega (arith, length-take i xs) in
    rw (len, take-append-drop i xs) at e

pub wrote_more : (old mid new : Option (List ℕ)) (bytes : List ℕ) (from sent n : ℕ) → from ≤ sent → sent ≤ length bytes → Appends old mid (take (sent - from) (drop from bytes)) → Appends mid new (take n (drop sent bytes)) → Appends old new (take (sent + n - from) (drop from bytes))
wrote_more old mid new bytes from sent n up within before more =
    let there : from + (sent - from) ≡ sent = omega arith in
    let count : sent + n - from ≡ (sent - from) + n = omega arith in
    let long : sent - from ≤ length (drop from bytes) = omega (arith, length-drop from bytes) in
    let rest : drop sent bytes ≡ drop (sent - from) (drop from bytes) = ap (λ i. drop i bytes) (sym there) ∙ sym (drop-drop (sent - from) from bytes) in
    rw (count, split (sent - from) n (drop from bytes) long) (Appends-trans old mid new _ _ before (rw rest at more))
