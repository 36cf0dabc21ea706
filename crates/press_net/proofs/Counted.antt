-- Connections that meet a test, counted one by one.
use Rattle.std.proofs.Common.{◌≡◌, ℕ, Bool, zero, suc, ◌+◌, ◌<◌, List, [], ◌∷◌, length, get_or, take, arith, if◌then◌else◌, Option}
use Rattle.press_net.specs.declared.connection.Connection.{Connection}
use Rattle.press_net.specs.Talking.{count_of, meets}

abbrev pub one : (Connection → Bool) → Option Connection → ℕ
one test slot = if meets test slot then 1 else 0

pub count_more : (test : Connection → Bool) (xs : List (Option Connection)) (i : ℕ) (d : Option Connection) → i < length xs → count_of test (take (i + 1) xs) ≡ count_of test (take i xs) + one test (get_or xs i d)
count_more test [] i d h = absurd (omega arith)
count_more test (y ∷ ys) zero d h =
    let it : one test y + 0 ≡ 0 + one test y = omega arith in
    it
count_more test (y ∷ ys) (suc i) d h =
    let k : suc i + 1 ≡ suc (i + 1) = omega arith in
    let lt : i < length ys = omega arith in
    let more = count_more test ys i d lt in
    let sum : one test y + count_of test (take (i + 1) ys) ≡ (one test y + count_of test (take i ys)) + one test (get_or ys i d) = omega arith in
    rw k sum
