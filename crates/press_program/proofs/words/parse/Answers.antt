use Rattle.std.proofs.Common.{ap, ap₂, refl, true, map, subst, ◌≡◌, ◌∙◌, string_bytes}
use Rattle.std.proofs.lemmas.Result.{IfOk-weaker}
use Rattle.clap.specs.Words.{App, app_of, fault_of, is_simple, is_simple_and_free, subcommand_of, with_subcommand, FailsBy}
use Rattle.clap.proofs.OnLiterals.{clap_on_literals}
use Rattle.press_program.specs.Words as spec
use Rattle.press_program.specs.Words.{program}
use Rattle.press_program.proofs.words.parse.Goals as goal

is_plain : is_simple_and_free spec.program ≡ true
unfolding clap_on_literals program
is_plain = refl

is_told : is_simple spec.program ≡ true
unfolding clap_on_literals program
is_told = refl

program_is : (c : goal.After-try_get_matches_from) → app_of c.in_ok-program.program ≡ spec.program
unfolding program
program_is c =
    let bare_is = c.bare_words-bare.ensures in
    let one = c.in_ok-one.ensures.shape c.in_ok-page.ensures.local ∙ ap₂ with_subcommand bare_is (ap (λ (a : App). a.top) c.in_ok-page.ensures.app) in
    let two = c.in_ok-two.ensures.shape c.in_ok-replay.ensures.local ∙ ap₂ with_subcommand one (ap (λ (a : App). a.top) c.in_ok-replay.ensures.app) in
    let three = c.in_ok-three.ensures.shape c.in_ok-looped.ensures.local ∙ ap₂ with_subcommand two (ap (λ (a : App). a.top) c.in_ok-looped.ensures.app) in
    let four = c.in_ok-four.ensures.shape c.in_ok-serve.ensures.local ∙ ap₂ with_subcommand three (ap (λ (a : App). a.top) c.in_ok-serve.ensures.app) in
    let five = c.in_ok-five.ensures.shape c.in_ok-send.ensures.local ∙ ap₂ with_subcommand four (ap (λ (a : App). a.top) c.in_ok-send.ensures.app) in
    let six = c.in_ok-six.ensures.shape c.in_ok-export.ensures.local ∙ ap₂ with_subcommand five (ap (λ (a : App). a.top) c.in_ok-export.ensures.app) in
    c.in_ok-program.ensures.shape c.in_ok-kit.ensures.local ∙ ap₂ with_subcommand six (ap (λ (a : App). a.top) c.in_ok-kit.ensures.app)

pub returns-clause-kinds : goal.returns-clause-kinds
returns-clause-kinds c =
    subst (λ (a : App). FailsBy (fault_of a (map string_bytes c.args.words.now)) c.try_get_matches_from.result) (program_is c)
    (c.try_get_matches_from.ensures.kinds (ap is_simple_and_free (program_is c) ∙ is_plain))

pub returns-clause-matches : goal.returns-clause-matches
returns-clause-matches c =
    IfOk-weaker c.try_get_matches_from.result _ _ (λ m h. (h (ap is_simple (program_is c) ∙ is_told)).1 ∙ ap (λ (a : App). subcommand_of a (map string_bytes c.args.words.now)) (program_is c))
    c.try_get_matches_from.ensures.matches
