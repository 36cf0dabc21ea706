use Rattle.std.proofs.Common.{inl, inr, refl}
use Rattle.press_scan.specs.Tokens.{IsQuoted}
use Rattle.press_scan.proofs.Forms.{no_nameless}
use Rattle.press_scan.proofs.token.nameless_token.Goals as goal

pub returns-clause-token : goal.returns-clause-token
returns-clause-token c = inr (no_nameless (IsQuoted 34) _ _ c.in_default.ensures, inr (no_nameless (IsQuoted 39) _ _ c.in_default-read_quoted.ensures, inl (record { called = refl; value = record { starts = refl; longest = c.run_end-end.ensures.first; next = refl } })))
