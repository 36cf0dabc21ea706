use Rattle.std.proofs.Common.{List, ℕ, subst}
use Rattle.press_scan.specs.Tokens.{IsToken}
use Rattle.press_scan.proofs.gathering.token_of.Goals as goal

pub cuts-requires-clause-token : goal.cuts-requires-clause-token
cuts-requires-clause-token c = subst (λ (t : List ℕ). IsToken t c.args.place c.token_at-token.result) c.as_bytes.ensures.value c.token_at-token.ensures.token

pub returns-clause-token : goal.returns-clause-token
returns-clause-token c = subst (λ (t : List ℕ). IsToken t c.args.place c.token_at-token.result) c.as_bytes.ensures.value c.token_at-token.ensures.token
