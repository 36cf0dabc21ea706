-- What a run that sends commands comes to.
use Rattle.std.proofs.Common.{ℕ, ◌≡◌, List, inl, inr, length, sym, subst}
use Rattle.std.proofs.Math.Seq.{take-length}
use Rattle.std.specs.Prelude.{IfOk, MatchResult, Option, Result, Ok, Err}
use Rattle.std.specs.Io.KnownBytes.{Appends, Keeps}
use Rattle.press_apply.specs.declared.command.Stamped.{Stamped}
use Rattle.press_client.specs.Reporting.{counts_of, report_of}
use Rattle.press_client.specs.declared.ending.Ending.{Ending}
use Rattle.press_kit.specs.SiteFile.{site_in}
use Rattle.press_text.specs.Streams.{AppendsFront}
use Rattle.press_world.specs.ReadingFiles.{ReadsAs}
use Rattle.press_world.specs.declared.replay_fault.ReplayFault.{ReplayFault}
use Rattle.press_world.specs.declared.replay_fault.ReplayFault.TheVariants.{NoMemory}
use Rattle.press_program.specs.Endings.{IsMailStatus, IsSite, Mails, Reports, usage_line}
use Rattle.press_program.specs.KitFiles.{fault_line}

-- ---- the commands

pub site_of : (remaining : Option (List ℕ)) (result : Result (List Stamped) ReplayFault) → ReadsAs site_in remaining result → IfOk result (λ commands. IsSite remaining commands)
unfolding ReadsAs
site_of remaining (Ok commands) h = (h.0, h.1, h.2)
site_of remaining (Err fault) h = tt

-- ---- what is printed

pub whole_front : (out out' : Option (List ℕ)) (bytes : List ℕ) → Appends out out' bytes → AppendsFront out out' bytes
whole_front out out' bytes h = (length bytes, subst (Appends out out') (sym (take-length bytes)) h)

pub reports_of : (remaining out out' : Option (List ℕ)) (commands : List Stamped) (endings : List Ending) (result : Result ℕ ReplayFault) → IsSite remaining commands →
    MatchResult result (λ status. IsMailStatus (counts_of (length commands) endings) status × Appends out out' (report_of commands endings)) (λ _. AppendsFront out out' (report_of commands endings)) →
    Reports remaining out out' result
reports_of remaining out out' commands endings (Ok status) site h = (commands, endings, site, h.0, h.1)
reports_of remaining out out' commands endings (Err fault) site h = inr (commands, endings, site, h)

pub reports_nothing : (remaining out out' : Option (List ℕ)) (fault : ReplayFault) → Keeps out out' → Reports remaining out out' (Err fault)
reports_nothing remaining out out' fault kept = inl kept

-- ---- how it ends

module _ (remaining out out' err err' : Option (List ℕ)) (result : ℕ) where
  pub usage : result ≡ 2 → Keeps out out' → AppendsFront err err' usage_line → Mails remaining result out out' err err'
  usage two kept told = inl (two, kept, inl told)

  pub no_room : result ≡ 2 → Keeps out out' → AppendsFront err err' (fault_line NoMemory) → Mails remaining result out out' err err'
  no_room two kept told = inl (two, kept, inr told)

  pub unread : (fault : ReplayFault) → result ≡ 2 → Keeps out out' → AppendsFront err err' (fault_line fault) → Mails remaining result out out' err err'
  unread fault two kept told = inr (Err fault, inl kept, (two, told))

  pub mailed : (status : ℕ) → result ≡ status → Reports remaining out out' (Ok status) → Keeps err err' → Mails remaining result out out' err err'
  mailed status same reports kept = inr (Ok status, reports, (same, kept))

  pub broken : (fault : ReplayFault) → Reports remaining out out' (Err fault) → result ≡ 2 → AppendsFront err err' (fault_line fault) → Mails remaining result out out' err err'
  broken fault reports two told = inr (Err fault, reports, (two, told))
