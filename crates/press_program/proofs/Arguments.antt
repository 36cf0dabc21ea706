-- What is asked, by what `clap` makes of the words.
use Rattle.std.proofs.Common.{◌≡◌, ◌≢◌, ◌==◌, inl, inr, false, List, [], ◌∷◌, length, None, option_and_then, refl, ap}
use Rattle.clap.specs.Kinds.{HasKind, Kinds}
use Rattle.clap.specs.Values.{kind_of}
use Rattle.clap.specs.Words.{Text, fault_of, subcommand_of}
use Rattle.clap.specs.declared.error.Error.{Error}
use Rattle.clap.specs.declared.error.kind.ErrorKind.TheVariants.{OutOfMemory}
use Rattle.press_program.specs.Words.{arguments_by, arguments_in, arguments_where, program}

pub asked_matched : (ws : List Text) → (length ws == 0) ≡ false → fault_of program ws ≡ [] → arguments_by ws ≡ option_and_then (λ p. arguments_in p.0 p.1) (subcommand_of program ws)
asked_matched [] n e = cc
asked_matched (w ∷ ws) n e = ap (λ k. arguments_where k (subcommand_of program (w ∷ ws))) e

pub asked_nothing : (ws : List Text) (e : Error) → (length ws == 0) ≡ false → HasKind (fault_of program ws) e → kind_of e ≢ OutOfMemory → arguments_by ws ≡ None
asked_nothing [] e n h k = cc
asked_nothing (w ∷ ws) e n h k = go (fault_of program (w ∷ ws)) h
  where
    go : (kinds : Kinds) → HasKind kinds e → arguments_where kinds (subcommand_of program (w ∷ ws)) ≡ None
    go [] (inl x) = absurd (k x)
    go [] (inr x) = absurd x
    go (y ∷ ys) x = refl
