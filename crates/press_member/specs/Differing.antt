-- Which members have applied other values, as far as a member knows (own).
use Rattle.std.specs.Prelude.{ℕ, ◌-◌, ◌≡◌, ◌≢◌, ◌⊎◌, Bool, true, false, List, slice_set}
use Rattle.press_apply.specs.declared.value.Value.{Value}
use Rattle.press_batch.specs.declared.report.Digests.{Digests}
use Rattle.press_batch.specs.declared.report.Report.{Report as OneReport}
use Rattle.press_chain.specs.Chains.{IsChainOf, count_of}
use Rattle.press_chain.specs.Comparing.{ComparesTip}
use Rattle.press_chain.specs.declared.chain.Chain.{Chain}
use Rattle.press_chain.specs.declared.comparison.Comparison.{Comparison}
use Rattle.press_chain.specs.declared.comparison.Comparison.TheVariants.{Same, Other, Unknown}
use Rattle.press_chain.specs.declared.tip.Tip.{Tip}
use Rattle.press_member.specs.declared.input.Input.{Input}
use Rattle.press_member.specs.declared.input.Input.TheVariants.{Command, Page, Message as Letter, Report, Ended, HearOwn, Time}

-- what a report tells of the values that were applied
abbrev pub tip_in : OneReport → Tip
tip_in report = record { count = report.applied; digest = report.digest; block_digest = report.block_digest }

-- behind a comparison with the member at a place; where nothing could be compared it is as it was
abbrev pub after_comparison : ℕ → Comparison → List Bool → List Bool
after_comparison place Same differing = slice_set differing place false
after_comparison place Other differing = slice_set differing place true
after_comparison place Unknown differing = differing

-- A member's report is compared with what the digests are of.
pub record NotesReport (own : Chain) (differing : List Bool) (from : ℕ) (report : OneReport) (differing' : List Bool) : Type 0 where
  pub comparison : Comparison
  pub compares : (values : List Value) → IsChainOf values own → ComparesTip (count_of own) values (tip_in report) comparison
  pub is : differing' ≡ after_comparison (from - 1) comparison differing

-- a report of who counts the same members and runs the same kit is compared; nothing else is noted
abbrev pub Notes : Digests → Chain → List Bool → Input → List Bool → Type 0
Notes digests own differing (Report from report) differing' =
    ((report.digests ≡ digests) × NotesReport own differing from report differing')
    ⊎ ((report.digests ≢ digests) × (differing' ≡ differing))
Notes digests own differing (Command command) differing' = differing' ≡ differing
Notes digests own differing (Page target) differing' = differing' ≡ differing
Notes digests own differing (Letter message) differing' = differing' ≡ differing
Notes digests own differing (Ended to asked is_taken) differing' = differing' ≡ differing
Notes digests own differing HearOwn differing' = differing' ≡ differing
Notes digests own differing (Time now) differing' = differing' ≡ differing
