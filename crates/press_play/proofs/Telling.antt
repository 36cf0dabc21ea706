-- What is told for a play file.
use Rattle.std.proofs.Common.{◌≡◌, inl, inr, ◌∙◌, sym, ap, ℕ, List, [], ◌∷◌, codes, refl, arith, Option, Some, None, Result, Ok, Err, IfOk}
use Rattle.std.specs.Prelude.{String, string_bytes, IfSome}
use Rattle.press_text.specs.declared.streams.WriteFault.{WriteFault}
use Rattle.std.specs.Fmt.{decimal}
use Rattle.std.specs.declared.alloc.AllocError.{AllocError}
use Rattle.std.proofs.lemmas.Fmt.{decimal_digit}
use Rattle.serde_json.proofs.OnLiterals.{serde_json_on_literals}
use Rattle.press_play.specs.declared.answered.Answered.{Answered}
use Rattle.press_play.specs.declared.fault.PlayFault.{PlayFault}
use Rattle.press_play.specs.declared.fault.PlayFault.TheVariants.{NoMemory, ReadFault, TwoNames, UnknownCallback, BadLoad, BadKitFile}
use Rattle.press_play.specs.Lines.{line}
use Rattle.press_text.specs.Gives.{Gives}
use Rattle.press_play.specs.Played.{Refuses, played_in}
use Rattle.press_play.specs.Answers.{fault_data, answer_of, bytes_in, or_no_memory, Answers, Tells, Writes}

-- the line of out of memory, which is written without taking any
pub no_memory_line : line (fault_data NoMemory) ≡ codes "{\"fault\":0}\n"
unfolding serde_json_on_literals
no_memory_line =
    let zero : decimal 0 ≡ 48 ∷ [] = decimal_digit 0 (omega arith) in
    rw zero refl

pub said : {A : Type 0} (lines : Result (String A) PlayFault) (told : Result Answered AllocError) (input : List ℕ) → Gives Refuses (λ t. Ok (string_bytes t)) lines (played_in input)
    → IfOk told (λ a. a ≡ answer_of (bytes_in lines)) → Answers input (or_no_memory told)
said lines (Err e) input gives h = inr (inl refl)
said (Ok text) (Ok a) input gives h = inl (h ∙ ap answer_of (sym gives))
said (Err NoMemory) (Ok a) input gives h = inr (inl h)
said (Err ReadFault) (Ok a) input gives h = inr (inr h)
said (Err TwoNames) (Ok a) input gives h = inl (h ∙ ap answer_of (sym gives))
said (Err UnknownCallback) (Ok a) input gives h = inl (h ∙ ap answer_of (sym gives))
said (Err BadLoad) (Ok a) input gives h = inl (h ∙ ap answer_of (sym gives))
said (Err (BadKitFile place)) (Ok a) input gives h = inl (h ∙ ap answer_of (sym gives))

pub written : {A : Type 0} (known : Option (List ℕ)) (lines : Result (String A) PlayFault) (told : Result Answered AllocError) (out out' : Option (List ℕ)) (result : Result (Option PlayFault) WriteFault)
    → IfSome known (λ input. Gives Refuses (λ t. Ok (string_bytes t)) lines (played_in input)) → IfOk told (λ a. a ≡ answer_of (bytes_in lines)) → Writes (or_no_memory told) out out' result
    → IfSome known (λ input. (a : Answered) × Answers input a × Writes a out out' result)
written None lines told out out' result gives h w = tt
written (Some input) lines told out out' result gives h w = (or_no_memory told, said lines told input gives h, w)

pub told : (fault : PlayFault) (a : Result Answered AllocError) → IfOk a (λ b. b ≡ answer_of (Err fault)) → Tells fault (or_no_memory a)
told fault (Ok b) h = inl h
told fault (Err e) h = inr refl
