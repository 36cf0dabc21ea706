-- What is around the first place of a text in another.
use Rattle.std.proofs.Common.{ℕ, ◌≡◌, ◌++◌, List, take, drop, sym, ap, ◌∙◌, take-append-drop}
use Rattle.std.specs.Str.Pattern.{FindsText, SplitsAroundMatch}

pub around : (text front back n : List ℕ) → SplitsAroundMatch (FindsText n) text front back → (head : List ℕ) × (text ≡ head ++ (n ++ back))
around text front back n h =
    let split : drop h.0 text ≡ n ++ drop h.1 text = h.2.1.split in
    let behind : drop h.0 text ≡ n ++ back = split ∙ ap (λ b. n ++ b) (sym h.4) in
    (take h.0 text, sym (take-append-drop h.0 text) ∙ ap (λ r. take h.0 text ++ r) behind)
