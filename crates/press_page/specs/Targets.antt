-- What a text asks of a site: `front`, `post:ID`, `json:ID` or `result:EDITOR/SEQ`, with numbers in decimal (own).
use Rattle.std.specs.Prelude.{ℕ, List, length, ◌==◌, nat_lt, if◌then◌else◌, Option, Some, None, option_map, option_and_then, bytes_eq, codes}
use Rattle.std.specs.List.{position_or_len, before_first, after_first}
use Rattle.press_text.specs.Decimals.{decimal_in}
use Rattle.press_text.specs.Names.{is_name}
use Rattle.press_site.specs.declared.token.Token.{Token}
use Rattle.press_page.specs.declared.reply.Target.{Target}
use Rattle.press_page.specs.declared.reply.Target.TheVariants.{Front, Post, Json, Result}

-- what is before and after the first such byte
abbrev pub split_at : ℕ → List ℕ → Option (List ℕ × List ℕ)
split_at at text =
    if nat_lt (position_or_len (λ b. b == at) text) (length text)
    then Some (before_first (λ b. b == at) text, after_first (λ b. b == at) text) else None

abbrev pub token_by : List ℕ → ℕ → Option Token
token_by editor seq = if is_name 32 editor then Some (record { editor = editor; seq = seq }) else None

abbrev pub token_of : List ℕ × List ℕ → Option Token
token_of p = option_and_then (token_by p.0) (decimal_in p.1)

-- `EDITOR/SEQ`
abbrev pub token_in : List ℕ → Option Token
token_in text = option_and_then token_of (split_at 47 text)

abbrev pub target_by : List ℕ → List ℕ → Option Target
target_by kind rest =
    if bytes_eq kind (codes "post") then option_map Post (decimal_in rest) else
    (if bytes_eq kind (codes "json") then option_map Json (decimal_in rest) else
    (if bytes_eq kind (codes "result") then option_map Result (token_in rest) else None))

abbrev pub target_in : List ℕ → Option Target
target_in text =
    if bytes_eq text (codes "front") then Some Front
    else option_and_then (λ p. target_by p.0 p.1) (split_at 58 text)

-- what is asked for is the outcome of an editor's command
abbrev pub HasEditor : Option Target → Type 0
HasEditor None = ⊥
HasEditor (Some Front) = ⊥
HasEditor (Some (Post id)) = ⊥
HasEditor (Some (Json id)) = ⊥
HasEditor (Some (Result token)) = Unit {0}
