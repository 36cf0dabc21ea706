-- One slash after the other.
use Rattle.std.proofs.Common.{◌≡◌, ℕ, suc, ◌+◌, ◌-◌, ◌<◌, ◌≤◌, List, ◌==◌, refl, arith}
use Rattle.std.specs.List.{after_first}
use Rattle.press_http.specs.Routes.{behind}

pub one_more : (n i : ℕ) (path : List ℕ) → i < n → behind (n - i) path ≡ behind (n - (i + 1)) (after_first (λ b. b == 47) path)
unfolding behind
one_more n i path h =
    let e : n - i ≡ suc (n - (i + 1)) = omega (arith, h) in
    rw e refl

pub none_left : (n i : ℕ) (path : List ℕ) → n ≤ i → behind (n - i) path ≡ path
unfolding behind
none_left n i path h =
    let e : n - i ≡ 0 = omega (arith, h) in
    rw e refl
