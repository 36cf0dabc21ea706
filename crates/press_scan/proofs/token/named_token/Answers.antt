use Rattle.std.proofs.Common.{inl, inr, arith}
use Rattle.press_scan.specs.Tokens.{IsQuoted, IsBare}
use Rattle.press_scan.proofs.Forms.{no_value, no_name, is_named}
use Rattle.press_scan.proofs.token.named_token.Goals as goal

pub returns-in-None-clause-none : goal.returns-in-None-clause-none
returns-in-None-clause-none c = (no_name (IsQuoted 34) _ _ c.in-None.ensures, no_name (IsQuoted 39) _ _ c.in-None.ensures, no_name IsBare _ _ c.in-None.ensures)

pub returns-in-Some-read_quoted-2-clause-some : goal.returns-in-Some-read_quoted-2-clause-some
returns-in-Some-read_quoted-2-clause-some c = (
  inr (no_value (IsQuoted 34) _ _ c.in-Some.part c.in-Some.ensures.0 c.in_default.ensures, inl (is_named (IsQuoted 39) _ _ c.in-Some.part c.in-Some-read_quoted-2.single _ c.in-Some.ensures.0 c.in-Some-read_quoted-2.ensures.0 c.with_value-in-Some-read_quoted-2.ensures)),
  omega (arith, c.in-Some.ensures.1, c.in-Some-read_quoted-2.ensures.1, c.with_value-in-Some-read_quoted-2.ensures.2),
  omega (arith, c.in-Some-read_quoted-2.ensures.2, c.with_value-in-Some-read_quoted-2.ensures.2),
)

pub returns-in-Some-bare-clause-some : goal.returns-in-Some-bare-clause-some
returns-in-Some-bare-clause-some c = (
  inr (no_value (IsQuoted 34) _ _ c.in-Some.part c.in-Some.ensures.0 c.in_default.ensures, inr (no_value (IsQuoted 39) _ _ c.in-Some.part c.in-Some.ensures.0 c.in_default-read_quoted.ensures, is_named IsBare _ _ c.in-Some.part c.in-Some-bare.word _ c.in-Some.ensures.0 c.in-Some-bare.ensures.0 c.with_value-in-Some-bare.ensures)),
  omega (arith, c.in-Some.ensures.1, c.in-Some-bare.ensures.1, c.with_value-in-Some-bare.ensures.2),
  omega (arith, c.in-Some-bare.ensures.2, c.with_value-in-Some-bare.ensures.2),
)

pub returns-in-None-bare-clause-none : goal.returns-in-None-bare-clause-none
returns-in-None-bare-clause-none c = (
  no_value (IsQuoted 34) _ _ c.in-Some.part c.in-Some.ensures.0 c.in_default.ensures,
  no_value (IsQuoted 39) _ _ c.in-Some.part c.in-Some.ensures.0 c.in_default-read_quoted.ensures,
  no_value IsBare _ _ c.in-Some.part c.in-Some.ensures.0 c.in-None-bare.ensures,
)
