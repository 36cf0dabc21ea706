-- What is escaped of a text that isn't empty isn't either, nor is a text with a part that isn't.
use Rattle.std.proofs.Common.{ℕ, ◌<◌, ◌==◌, List, [], ◌∷◌, Bool, true, false, length, ◌≡◌, arith, ap, get_or, length-append, if◌then◌else◌}
use Rattle.std.proofs.lemmas.List.Concat.{flat_map-cons}
use Rattle.std.proofs.lemmas.List.Folds.{length-flat_map-take}
use Rattle.press_callbacks.specs.Turns.{part_text, text_of}
use Rattle.press_callbacks.specs.declared.script.CallIn.{CallIn}
use Rattle.press_callbacks.specs.declared.script.Part.{Part}
use Rattle.press_text.specs.Escapes.{escaped_byte, escaped_text}

some_chosen : (b : Bool) (xs ys : List ℕ) → 0 < length xs → 0 < length ys → 0 < length (if b then xs else ys)
some_chosen true xs ys p q = p
some_chosen false xs ys p q = q

some_escaped : (b : ℕ) → 0 < length (escaped_byte b)
some_escaped b =
    some_chosen (b == 38) _ _ (omega arith) (some_chosen (b == 60) _ _ (omega arith) (some_chosen (b == 62) _ _ (omega arith)
    (some_chosen (b == 34) _ _ (omega arith) (some_chosen (b == 39) _ _ (omega arith) (omega arith)))))

pub escaped_some : (xs : List ℕ) → 0 < length xs → 0 < length (escaped_text xs)
escaped_some [] p = absurd (omega (arith, p))
escaped_some (x ∷ xs) p = rw (flat_map-cons escaped_byte x xs) (omega (arith, length-append (escaped_byte x) (escaped_text xs), some_escaped x))

-- a text with a part that isn't empty
pub text_some : (call : CallIn) (parts : List Part) (i : ℕ) (p : Part) → i < length parts → get_or parts i p ≡ p → 0 < length (part_text call p) → 0 < length (text_of call parts)
text_some call parts i p below is some = omega (arith, length-flat_map-take (part_text call) parts i p below, ap (λ (x : Part). length (part_text call x)) is, some)
