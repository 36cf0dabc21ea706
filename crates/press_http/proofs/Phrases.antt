-- The phrase of a code, and none of what is no code.
use Rattle.std.proofs.Common.{◌≡◌, ℕ, Bor, Bool, true, List, [], Some, None, sym, ap, ◌∙◌, arith}
use Rattle.std.specs.Prelude.{Option, option_map, unwrap_or}
use Rattle.std.proofs.lemmas.Bool.Decides.{nat_tests}
use Rattle.http.specs.StatusCode.{IsStatusCode, reason_phrase}
use Rattle.press_http.specs.Replies.{is_code, phrase_where, phrase_of}

unwrapped : (o : Option (Bor (List ℕ))) (d : Bor (List ℕ)) (x : Option (List ℕ)) → option_map (λ s. s.now) o ≡ x → d.now ≡ [] → (unwrap_or o d).now ≡ unwrap_or x []
unwrapped None d x p q = q ∙ ap (λ (y : Option (List ℕ)). unwrap_or y []) p
unwrapped (Some s) d x p q = ap (λ (y : Option (List ℕ)). unwrap_or y []) p

is_one : (n : ℕ) → IsStatusCode n → is_code n ≡ true
is_one n p = grind (arith, nat_tests, p.0, p.1)

pub phrased : (n code : ℕ) (o : Option (Bor (List ℕ))) (d r : Bor (List ℕ)) → IsStatusCode n → code ≡ n → option_map (λ s. s.now) o ≡ reason_phrase code → d.now ≡ [] → r ≡ unwrap_or o d → r.now ≡ phrase_of n
unfolding phrase_of
phrased n code o d r is same found empty e =
    let value : r.now ≡ unwrap_or (reason_phrase n) [] = ap (λ (b : Bor (List ℕ)). b.now) e ∙ unwrapped o d (reason_phrase n) (found ∙ ap reason_phrase same) empty in
    value ∙ sym (ap (λ (b : Bool). phrase_where b n) (is_one n is))
