-- What a search of many bytes at once finds in a text from a place on.
use Rattle.std.proofs.Common.{◌≡◌, ◌∙◌, sym, ap, subst, ℕ, ◌+◌, ◌-◌, ◌<◌, ◌≤◌, List, length, drop, take_all, arith}
use Rattle.std.proofs.lemmas.List.{get_or-drop, length-drop}
use Rattle.std.specs.Prelude.{slice_index, slice_range}
use Rattle.std.specs.Cmp.{unsigned_Decides}
use Rattle.memchr.specs.Find.{Passes, NoneBefore, Nowhere, is_byte}
use Rattle.press_scan.specs.Places.{At, IsFirst, NoneFrom}
use Rattle.press_scan.proofs.Firsts.{at_within}

module _ (text : List ℕ) (byte from : ℕ) where
  abbrev IsIt : List ℕ → ℕ → Type 0
  IsIt = Passes (is_byte byte)

  abbrev ahead_of : List ℕ
  ahead_of = slice_range text from (length text)

  all_ahead : ahead_of ≡ drop from text
  all_ahead = take_all (length text - from) (drop from text) (omega (arith, length-drop from text))

  is_there : (k : ℕ) → IsIt (drop from text) k → At text byte (from + k)
  is_there k it = sym (get_or-drop from text k 0) ∙ (unsigned_Decides (slice_index (drop from text) k) byte).0 it

  is_ahead : (k : ℕ) → from ≤ k → At text byte k → IsIt ahead_of (k - from)
  is_ahead k late here =
      let same : k ≡ from + (k - from) = omega arith in
      subst (λ (bytes : List ℕ). IsIt bytes (k - from)) (sym all_ahead)
      ((unsigned_Decides (slice_index (drop from text) (k - from)) byte).1 (get_or-drop from text (k - from) 0 ∙ subst (At text byte) same here))

  pub found_byte : (ahead : ℕ) → NoneBefore (IsIt ahead_of) 0 (length ahead_of) ahead × IsIt ahead_of ahead → IsFirst (At text byte) from (from + ahead)
  found_byte ahead found = record {
    after = omega arith;
    holds = is_there ahead (subst (λ (bytes : List ℕ). IsIt bytes ahead) all_ahead found.1);
    none_before = λ k late early here. found.0.before (k - from) (omega arith) (omega arith) (is_ahead k late here);
  }

  pub no_byte : 0 < byte → Nowhere (IsIt ahead_of) 0 (length ahead_of) → NoneFrom (At text byte) from
  no_byte some none k late here =
      let within : k < length text = at_within text byte k some here in
      let all : length ahead_of ≡ length text - from = ap length all_ahead ∙ length-drop from text in
      none (k - from) (omega arith) (omega arith) (is_ahead k late here)
