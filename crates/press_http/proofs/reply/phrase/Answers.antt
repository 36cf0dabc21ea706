use Rattle.std.proofs.Common.{refl}
use Rattle.press_http.proofs.Phrases.{phrased}
use Rattle.press_http.proofs.reply.phrase.Goals as goal

pub returns-in-Ok : goal.returns-in-Ok
returns-in-Ok c = phrased c.args.status c.in-Ok.code _ _ _ c.in-Ok.ensures.0 c.in-Ok.ensures.1 c.canonical_reason.ensures.value refl c.unwrap_or.ensures
