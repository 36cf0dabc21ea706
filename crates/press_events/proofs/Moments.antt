-- The moment at which a recurring event comes again is the least, and after its time.
use Rattle.std.proofs.Common.{◌≡◌, refl, ℕ, Bool, true, false, cond, Some, None, ◌+◌, ◌-◌, ◌*◌, ◌/◌, ◌<◌, ◌≤◌, ◌^◌, arith, inl, inr}
use Rattle.std.specs.Prelude.{nat_le}
use Rattle.press_text.specs.Moments.{moment_of}
use Rattle.press_text.specs.declared.every.Every.{Every}
use Rattle.press_text.specs.declared.every.Every.TheVariants.{Once, Hourly, TwiceDaily, Daily}
use Rattle.std.proofs.Math.Nat.{mul-le-mul_left}
use Rattle.std.proofs.lemmas.Bool.{cases_lt}
use Rattle.press_events.specs.DueEvents.{IsLeastAfter, interval, moment_after, moment_again}

later : (interval time now : ℕ) → 0 < interval → now < moment_after interval time now
later interval time now h = omega arith

least : (interval time now n : ℕ) → 0 < interval → 1 ≤ n → now < time + n * interval → moment_after interval time now ≤ time + n * interval
least interval time now n h one after = elim (cases_lt n ((now - time) / interval + 1)) [
  | inl few ↦
      let below : n ≤ (now - time) / interval = omega arith in
      absurd (omega (arith, mul-le-mul_left interval below, mul-le-mul_left interval one))
  | inr many ↦ omega (arith, mul-le-mul_left interval many)
]

pub least_after : (interval time now : ℕ) → 0 < interval → IsLeastAfter interval time now (moment_after interval time now)
least_after interval time now h = record {
  counts = ((now - time) / interval + 1, (omega arith, refl));
  later = later interval time now h;
  least = λ n one after. least interval time now n h one after;
}

-- ---- after its time

behind : (interval time now : ℕ) → 0 < interval → time < moment_after interval time now
behind interval time now h = omega arith

of_moment : (b : Bool) (x t : ℕ) → cond b (Some x) None ≡ Some t → x ≡ t
of_moment true x t e = cc
of_moment false x t e = absurd (cc)

by_interval : (interval time now t : ℕ) → 0 < interval → moment_of (moment_after interval time now) ≡ Some t → time < t
by_interval interval time now t h e =
    let same : moment_after interval time now ≡ t = of_moment (nat_le (moment_after interval time now) (2 ^ 40)) (moment_after interval time now) t e in
    omega (arith, same, behind interval time now h)

pub next_behind : (every : Every) (time now t : ℕ) → moment_again (interval every) time now ≡ Some t → time < t
next_behind Once time now t e = absurd (cc)
next_behind Hourly time now t e = by_interval 3600 time now t (omega arith) e
next_behind TwiceDaily time now t e = by_interval 43200 time now t (omega arith) e
next_behind Daily time now t e = by_interval 86400 time now t (omega arith) e
