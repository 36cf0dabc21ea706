use Rattle.std.proofs.Common.{rules, subst, sym}
use Rattle.press_program.specs.Endings.{IsSite, known_of}
use Rattle.press_program.proofs.Mails.{broken, unread}
use Rattle.press_program.proofs.wanted.Mailing.send_to.Goals as goal

pub returns-in-Err-clause-mails : goal.returns-in-Err-clause-mails
returns-in-Err-clause-mails g c =
    unread (known_of c.args.self.now.file.now (g.R.Read.remaining c.args.reader.now)) _ _ _ _ _ c.in-Err.fault c.fail.ensures.status (search rules) c.fail.ensures.told

pub returns-clause-mails : goal.returns-clause-mails
returns-clause-mails g c =
    broken (known_of c.args.self.now.file.now (g.R.Read.remaining c.args.reader.now)) _ _ _ _ _ c.in-Err-sends.fault
    (c.in-Err-sends.ensures _ (subst (IsSite (known_of c.args.self.now.file.now (g.R.Read.remaining c.args.reader.now))) (sym c.as_slice.ensures) c.in-Ok.ensures.site)) c.fail-in-Err-sends.ensures.status c.fail-in-Err-sends.ensures.told
